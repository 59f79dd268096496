use Rattle.std.proofs.Common.{◌≡◌, ◌++◌, map, take, drop}
use Rattle.rules.specs.Draws.{third_stems, for_each}
use Rattle.rules.specs.Walks.{third_walk, item_of}
use Rattle.lowering.specs.Items.{members_of}
use Rattle.lowering.specs.Left.{after}
use Rattle.lowering.specs.Rows.{rows_of}
use Rattle.lowering.proofs.walks.walk_third.Given as goal

-- The members before this one are made, and going on with the others gives what the whole walk gives.
abbrev pub invariant-loop-made : goal.invariant-loop-made
invariant-loop-made l =
    let all = map item_of (rows_of l.fn.members) in
    let rest = map item_of (drop l.made-index l.made-items) in
    record {
      items : map item_of (take l.made-index l.made-items) ++ third_walk l.names 0 rest ≡ third_walk l.fn.names 0 all;
      left : after (for_each third_stems l.made-index (members_of rest)) l.names
          ≡ after (for_each third_stems 0 (members_of all)) l.fn.names;
    }
