-- Whether a member has decorators.
use Rattle.std.proofs.Common.{◌≡◌, List, [], ◌∷◌, length, refl, arith}
use Rattle.std.proofs.lemmas.Bool.{lt-ltb}
use Rattle.std.specs.Prelude.{nat_lt}
use Rattle.rules.specs.Members.{non_empty}

pub has_any : {X : Type 0} (xs : List X) → nat_lt 0 (length xs) ≡ non_empty xs
has_any [] = refl
has_any (x ∷ xs) = lt-ltb 0 (length (x ∷ xs)) (omega arith)
