use Rattle.std.proofs.Common.{◌≡◌, ◌*◌, ◌≤◌, drop}
use Rattle.lowering.specs.Hands.{seen_hand}
use Rattle.lowering.specs.Tallies.{tallied}
use Rattle.lowering.proofs.Counts.{started}
use Rattle.lowering.proofs.draws.count_draws.Given as goal

abbrev pub invariant-loop-held : goal.invariant-loop-held
invariant-loop-held l =
    record {
      tally : tallied l.tally (seen_hand (drop l.held-index l.members)) ≡ tallied started (seen_hand l.members);
      names : l.tally.names ≤ 17 * l.held-index;
    }
