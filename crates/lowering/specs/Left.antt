-- The marks that are left.
use Rattle.std.specs.Prelude.{ℕ, List, [], ◌∷◌, drop}

-- when one was handed out for each of these, the first of them first
abbrev pub after : {X : Type 0} → List X → List ℕ → List ℕ
after [] marks = marks
after (_ ∷ xs) marks = after xs (drop 1 marks)
