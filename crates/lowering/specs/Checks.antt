-- What the checks of the members in hand answer.
use Rattle.std.specs.Prelude.{ℕ, Bool, false, List, Some, None, Ok, Err, Option, Result}
use Rattle.sheet.specs.Seen.{Seen}
use Rattle.rules.specs.Refused.{first_out_of_order, first_unnumbered}
use Rattle.lowering.specs.declared.faults.ClassFault.{ClassFault}
use Rattle.lowering.specs.declared.faults.ClassFault.TheVariants.{Constructor, StorageNumber}

-- the first member at fault is told
abbrev pub unless : (ℕ → ClassFault) → Option ℕ → Result (Unit {0}) ClassFault
unless fault None = Ok tt
unless fault (Some i) = Err (fault i)

abbrev pub constructors_in : Bool → List Seen → Result (Unit {0}) ClassFault
constructors_in derived ms = unless Constructor (first_out_of_order derived false 0 ms)

-- n is the last storage number that was given
abbrev pub numbers_in : ℕ → List Seen → Result (Unit {0}) ClassFault
numbers_in n ms = unless StorageNumber (first_unnumbered n 0 ms)
