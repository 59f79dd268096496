-- What a run holds.
use Rattle.std.specs.Prelude.{ℕ, cond, List, [], ◌∷◌, ◌++◌, map, length, Ok, Err, Result, nat_lt}
use Rattle.sheet.specs.Seen.{Seen}
use Rattle.sheet.specs.Members.{seen_member}
use Rattle.sheet.specs.declared.member.Member.{Member}
use Rattle.lowering.specs.declared.faults.ClassFault.{ClassFault}
use Rattle.lowering.specs.declared.faults.ClassFault.TheVariants.{TooMany}
use Rattle.lowering.specs.declared.run.Run.{Run}
use Rattle.lowering.specs.Hands.{members_in}
use Rattle.lowering.specs.Rows.{rows_of}

-- the class in hand, the last storage number that was given, and the source of marks
pub record State (S : Type 0) : Type 0 where
  pub members : List Member
  pub storage : ℕ
  pub source : S

module _ {S : Type 0} where
  -- no key in hand is replaced between two calls, so the members say all of the class
  abbrev pub state_of : Run S → State S
  state_of run = record { members = members_in (rows_of run.hand); storage = run.numbers.storage; source = run.source }

  abbrev pub with_members : State S → List Member → State S
  with_members s ms = record { members = ms; storage = s.storage; source = s.source }

  abbrev pub seen_in : State S → List Seen
  seen_in s = map seen_member s.members

  -- 64 members are in hand at most
  abbrev pub added : State S → Result (Unit {0}) ClassFault
  added s = cond (nat_lt (length s.members) 64) (Ok tt) (Err TooMany)

  abbrev pub after_add : State S → Member → State S
  after_add s m = cond (nat_lt (length s.members) 64) (with_members s (s.members ++ m ∷ [])) s
