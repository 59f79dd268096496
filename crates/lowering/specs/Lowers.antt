-- What a lowering leaves.
use Rattle.std.specs.Prelude.{◌≡◌, ℕ, ◌+◌, Bool, List, [], length, Ok, Err, count_by, Result}
use Rattle.marks.specs.declared.source.Exhausted.{Exhausted}
use Rattle.marks.specs.Sets.{Set}
use Rattle.rules.specs.Members.{accessor}
use Rattle.rules.specs.Draws.{draws}
use Rattle.rules.specs.Records.{Record, lowered, empty_record}
use Rattle.lowering.specs.declared.faults.LowerFault.{LowerFault}
use Rattle.lowering.specs.declared.faults.LowerFault.TheVariants.{Members, Marks}
use Rattle.lowering.specs.States.{State, seen_in}
use Rattle.lowering.specs.Supplies.{Given, Spent}

module _ {S : Type 0} (free : S → Set) (steps : S → Result ℕ Exhausted → S → Type 0) (derived : Bool) (before : State S) where
  -- The record is the one that the rules give for the members, derived or not, the storage number before, and the marks in the order
  -- drawn. These marks, as many as the class draws, were taken from the source, and nothing else was.
  pub record Accepted (after : State S) (out : Record) : Type 0 where
    pub marks : List ℕ
    pub as_many : length marks ≡ length (draws derived (seen_in before))
    pub drawn : Given free steps marks before.source after.source
    pub filled : out ≡ lowered (seen_in before) derived before.storage marks
    pub members : after.members ≡ []
    pub storage : after.storage ≡ before.storage + count_by accessor (seen_in before)

  -- All marks that were free are drawn, and stay drawn. All else is as it was.
  pub record Wanting (e : Exhausted) (after : State S) : Type 0 where
    pub spent : Spent free steps e before.source after.source
    pub members : after.members ≡ before.members
    pub storage : after.storage ≡ before.storage

  abbrev pub Lowers : Result (Unit {0}) LowerFault → State S → Record → Type 0
  Lowers (Ok _) after out = Accepted after out
  Lowers (Err (Members _)) after out = (after ≡ before) × (out ≡ empty_record)
  Lowers (Err (Marks e)) after out = Wanting e after × (out ≡ empty_record)
