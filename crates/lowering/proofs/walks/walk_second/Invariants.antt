use Rattle.std.proofs.Common.{◌≡◌, ◌+◌, ◌≤◌, ◌++◌, map, take, drop, count_by}
use Rattle.rules.specs.Members.{accessor}
use Rattle.rules.specs.Draws.{no_starters, for_second_walk}
use Rattle.rules.specs.Walks.{second_walk, item_of}
use Rattle.lowering.specs.Items.{members_of}
use Rattle.lowering.specs.Left.{after}
use Rattle.lowering.specs.Rows.{rows_of}
use Rattle.lowering.specs.Tallies.{starters_over}
use Rattle.lowering.proofs.walks.walk_second.Given as goal

-- The members before this one are made, and going on with the others gives what the whole walk gives.
abbrev pub invariant-loop-made : goal.invariant-loop-made
invariant-loop-made l =
    let all = map item_of (rows_of l.fn.members) in
    let rest = map item_of (drop l.made-index l.made-items) in
    let r = l.reached in
    record {
      items : map item_of (take l.made-index l.made-items) ++ second_walk r.starters r.number l.names 0 rest
          ≡ second_walk no_starters l.number l.fn.names 0 all;
      starters : starters_over r.starters (members_of rest) ≡ starters_over no_starters (members_of all);
      left : after (for_second_walk r.starters l.made-index (members_of rest)) l.names
          ≡ after (for_second_walk no_starters 0 (members_of all)) l.fn.names;
      numbers : r.number + count_by accessor (members_of rest) ≤ 65535;
    }
