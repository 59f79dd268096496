use Rattle.std.proofs.Common.{◌≡◌, false, drop}
use Rattle.rules.specs.Refused.{first_out_of_order}
use Rattle.lowering.specs.Hands.{seen_hand}
use Rattle.lowering.proofs.checks.check_constructors.Given as goal

abbrev pub invariant-loop-member : goal.invariant-loop-member
invariant-loop-member l =
    first_out_of_order l.derived l.second l.member (seen_hand (drop l.member l.hand))
    ≡ first_out_of_order l.derived false 0 (seen_hand l.hand)
