-- Names: from 1 to 64 ASCII letters, digits, `_` (95) and `$` (36), of which the first is no digit.
use Rattle.std.specs.Prelude.{ℕ, Bool, false, not, ◌&&◌, ◌||◌, List, [], ◌∷◌, length, ◌==◌, nat_le}
use Rattle.std.specs.List.{list_all}

abbrev pub is_digit : ℕ → Bool
is_digit b = nat_le 48 b && nat_le b 57

abbrev pub is_letter : ℕ → Bool
is_letter b = (nat_le 97 b && nat_le b 122) || (nat_le 65 b && nat_le b 90)

abbrev pub in_name : ℕ → Bool
in_name b = is_letter b || (is_digit b || (b == 95 || b == 36))

abbrev pub all_in_name : List ℕ → Bool
all_in_name bs = list_all in_name bs

abbrev pub is_name : List ℕ → Bool
is_name [] = false
is_name (b ∷ bs) = not (is_digit b) && (nat_le (length (b ∷ bs)) 64 && all_in_name (b ∷ bs))
