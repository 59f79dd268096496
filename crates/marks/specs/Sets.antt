-- Sets of marks, and what one draw does to such a set.
use Rattle.std.specs.Prelude.{◌≡◌, ℕ, Bool, true, false, not, ◌&&◌, List, Ok, Err, Result, ◌==◌, nat_le}
use Rattle.std.specs.List.{list_any}
use Rattle.marks.specs.declared.source.Exhausted.{Exhausted}

abbrev pub Set : Type 0
Set = ℕ → Bool

-- a whole number from 1 to 65,535
abbrev pub mark : Set
mark k = nat_le 1 k && nat_le k 65535

abbrev pub Empty : Set → Type 0
Empty s = (k : ℕ) → s k ≡ false

abbrev pub Within : Set → Set → Type 0
Within s t = (k : ℕ) → s k ≡ true → t k ≡ true

-- s without m
abbrev pub without : Set → ℕ → Set
without s m k = s k && not (m == k)

-- the set of a list's numbers
abbrev pub among : List ℕ → Set
among xs k = list_any (λ x. x == k) xs

-- s without the numbers of a list
abbrev pub except : Set → List ℕ → Set
except s xs k = s k && not (among xs k)

-- A draw answers a free mark and takes out just that one. It refuses only where none is free, and none is then.
abbrev pub Draws : Set → Result ℕ Exhausted → Set → Type 0
Draws s (Ok m) t = (s m ≡ true) × ((k : ℕ) → t k ≡ without s m k)
Draws s (Err e) t = Empty s × Empty t × (e.drawn ≡ 0)
