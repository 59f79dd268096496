-- Draws from a source, one after another.
use Rattle.std.specs.Prelude.{◌≡◌, ℕ, List, [], ◌∷◌, Ok, Err, Result}
use Rattle.marks.specs.declared.source.Exhausted.{Exhausted}

module _ {S : Type 0} (steps : S → Result ℕ Exhausted → S → Type 0) where
  -- from s to t the marks of the list were drawn, the first of them first
  abbrev pub Drawn : List ℕ → S → S → Type 0
  Drawn [] s t = s ≡ t
  Drawn (m ∷ ms) s t = (u : S) × steps s (Ok m) u × Drawn ms u t

  -- what a call for several does: it draws the marks of the list, and a refusal says that one more draw was refused
  abbrev pub Several : Result (Unit {0}) Exhausted → List ℕ → S → S → Type 0
  Several (Ok _) ms s t = Drawn ms s t
  Several (Err _) ms s t = (u : S) × Drawn ms s u × steps u (Err (record { drawn = 0 })) t
