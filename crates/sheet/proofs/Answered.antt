-- Answers, where memory is not wanting. Assumes nothing.
use Rattle.std.proofs.Common.{◌≡◌, Some, None, Ok, Err, Option, Result}
use Rattle.refusals.specs.declared.Numbered.{Numbered}
use Rattle.sheet.specs.Classes.{Answers}

-- the answer that is expected
pub answers : {A : Type 0} {P : Type 0} (x expected : Result A (Option Numbered)) → P → x ≡ expected → Answers P x expected
answers (Ok x) expected p e = e
answers (Err (Some n)) expected p e = e
answers (Err None) expected p e = p
