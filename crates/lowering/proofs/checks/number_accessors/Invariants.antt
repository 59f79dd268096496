use Rattle.std.proofs.Common.{◌≡◌, ◌+◌, drop, count_by}
use Rattle.rules.specs.Members.{accessor}
use Rattle.rules.specs.Refused.{first_unnumbered}
use Rattle.lowering.specs.Hands.{seen_hand}
use Rattle.lowering.proofs.checks.number_accessors.Given as goal

abbrev pub invariant-loop-member : goal.invariant-loop-member
invariant-loop-member l =
    (first_unnumbered l.numbers.storage l.member (seen_hand (drop l.member l.hand))
    ≡ first_unnumbered l.initial.numbers.storage 0 (seen_hand l.hand))
    × (l.numbers.storage + count_by accessor (seen_hand (drop l.member l.hand))
    ≡ l.initial.numbers.storage + count_by accessor (seen_hand l.hand))
