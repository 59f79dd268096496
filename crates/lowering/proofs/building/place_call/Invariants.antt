use Rattle.std.proofs.Common.{◌≡◌, map, drop}
use Rattle.rules.specs.declared.naming.Stem.TheVariants.{Args}
use Rattle.rules.specs.Members.{any_of, built}
use Rattle.rules.specs.Draws.{named}
use Rattle.rules.specs.Records.{constructor_from}
use Rattle.rules.specs.Walks.{some_if, item_of}
use Rattle.lowering.specs.Items.{members_of}
use Rattle.lowering.proofs.building.place_call.Given as goal

abbrev pub invariant-loop-member : goal.invariant-loop-member
invariant-loop-member l =
    let args = some_if l.derived (named Args l.names 0) in
    let all = members_of (map item_of l.members) in
    let rest = members_of (map item_of (drop l.member l.members)) in
    record {
      is : constructor_from l.member rest args l.before ≡ constructor_from 0 all args 0;
      built : any_of built rest ≡ any_of built all;
    }
