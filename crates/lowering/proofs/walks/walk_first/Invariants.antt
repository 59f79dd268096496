use Rattle.std.proofs.Common.{◌≡◌, ◌*◌, ◌≤◌, ◌++◌, map, length, drop}
use Rattle.rules.specs.Draws.{first_stems, for_each}
use Rattle.rules.specs.Walks.{first_walk, assignments_from, item_of}
use Rattle.lowering.specs.Hands.{seen_hand}
use Rattle.lowering.specs.Left.{after}
use Rattle.lowering.specs.Rows.{rows_of}
use Rattle.lowering.proofs.walks.walk_first.Given as goal

-- The members from this one on are as they were, and going on with them gives what the whole walk gives.
abbrev pub invariant-loop-slot : goal.invariant-loop-slot
invariant-loop-slot l =
    let hs = rows_of l.fn.hand in
    let rest = drop l.slot-index hs in
    record {
      hand : drop l.slot-index l.slot-items ≡ rest;
      items : map item_of (rows_of l.members) ++ first_walk l.names 0 (seen_hand rest) ≡ first_walk l.fn.names 0 (seen_hand hs);
      rows : rows_of l.assignments ++ assignments_from l.names 0 (seen_hand rest) ≡ assignments_from l.fn.names 0 (seen_hand hs);
      left : after (for_each first_stems l.slot-index (seen_hand rest)) l.names ≡ after (for_each first_stems 0 (seen_hand hs)) l.fn.names;
      made : length (rows_of l.members) ≡ l.slot-index;
      few : length (rows_of l.assignments) ≤ 9 * l.slot-index;
    }
