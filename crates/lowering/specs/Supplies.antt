-- What a class gets before it is lowered: a storage number for each accessor, and a mark for each name.
use Rattle.std.specs.Prelude.{◌≡◌, ℕ, Bool, List, length, take, Ok, Err, Result}
use Rattle.formats.specs.Readers.{then, faulted}
use Rattle.sheet.specs.Seen.{Seen}
use Rattle.marks.specs.declared.source.Exhausted.{Exhausted}
use Rattle.marks.specs.Chains.{Drawn, Several}
use Rattle.marks.specs.Sets.{Set}
use Rattle.marks.specs.Sizes.{size}
use Rattle.marks.specs.Takes.{Takes, report}
use Rattle.rules.specs.Draws.{draws}
use Rattle.lowering.specs.declared.faults.LowerFault.{LowerFault}
use Rattle.lowering.specs.declared.faults.LowerFault.TheVariants.{Members, Marks}
use Rattle.lowering.specs.Checks.{constructors_in, numbers_in}

-- A refusal of the members comes before one for want of marks. Here n is the storage number, and these marks are free.
abbrev pub supplied : Bool → ℕ → Set → List Seen → Result (Unit {0}) LowerFault
supplied derived n free ms =
    then (faulted Members (constructors_in derived ms)) (λ _.
    then (faulted Members (numbers_in n ms)) (λ _.
    faulted Marks (report (length (draws derived ms)) (size free))))

-- whether it is refused, and why
abbrev pub answer_of : {X E : Type 0} → Result X E → Result (Unit {0}) E
answer_of r = then r (λ _. Ok tt)

module _ {S : Type 0} (free : S → Set) (steps : S → Result ℕ Exhausted → S → Type 0) where
  -- from s to t just these marks are drawn, the first of them first
  pub record Given (ms : List ℕ) (s t : S) : Type 0 where
    pub takes : Takes (free s) ms (free t)
    pub drawn : Drawn steps ms s t

  -- all marks that were free are drawn, and one more was refused
  pub record Spent (e : Exhausted) (s t : S) : Type 0 where
    pub lost : List ℕ
    pub all : length lost ≡ size (free s)
    pub takes : Takes (free s) lost (free t)
    pub drawn : Several steps (Err e) lost s t

  -- what an answer says of the source: the marks of an accepted class, of which there are this many, stand first in the table
  abbrev pub Supplied : Result ℕ LowerFault → List ℕ → S → S → Type 0
  Supplied (Ok total) marks s t = Given (take total marks) s t
  Supplied (Err (Members _)) marks s t = t ≡ s
  Supplied (Err (Marks e)) marks s t = Spent e s t
