-- The bytes of numbers, texts and lists.
use Rattle.std.specs.Prelude.{ℕ, ◌/◌, ◌%◌, ◌<◌, List, [], ◌∷◌, ◌++◌, length}
use Rattle.std.specs.List.{flat_map}

-- a number of two bytes, the high one first
abbrev pub word : ℕ → List ℕ
word n = n / 256 ∷ n % 256 ∷ []

-- bytes behind their number: a text, or the rest of a member
abbrev pub text : List ℕ → List ℕ
text bs = word (length bs) ++ bs

-- things behind their number, which is one byte
abbrev pub list_of : {D : Type 0} → (D → List ℕ) → List D → List ℕ
list_of one ds = length ds ∷ flat_map one ds

-- few enough to be counted in two bytes
abbrev pub Short : List ℕ → Type 0
Short bs = length bs < 65536
