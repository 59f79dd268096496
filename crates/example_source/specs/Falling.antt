-- A source that counts down.
use Rattle.std.specs.Prelude.{◌≡◌, ℕ, ◌+◌, true, ◌&&◌, Ok, Err, Result, nat_le}
use Rattle.marks.specs.declared.source.Exhausted.{Exhausted}
use Rattle.marks.specs.Sets.{Set, mark}

-- the marks from 1 to f
abbrev pub below : ℕ → Set
below f k = mark k && nat_le k f

-- it gives the number that it stands at, and goes one down; at 0 it refuses
abbrev pub Falls : ℕ → Result ℕ Exhausted → ℕ → Type 0
Falls f (Ok m) g = (mark f ≡ true) × (m ≡ f) × (g + 1 ≡ f)
Falls f (Err e) g = (f ≡ 0) × (g ≡ 0) × (e.drawn ≡ 0)
