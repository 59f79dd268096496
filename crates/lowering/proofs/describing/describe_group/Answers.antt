use Rattle.std.proofs.Common.{map, length, filter, sym, ap, arith, lit<}
use Rattle.std.proofs.lemmas.List.{length-append, length-map}
use Rattle.rules.specs.Walks.{item_of}
use Rattle.lowering.specs.Groups.{grouped}
use Rattle.lowering.proofs.Kept.{kept_room}
use Rattle.lowering.proofs.describing.describe_group.Goals as goal

pub push-requires : goal.push-requires
push-requires c =
    let group = grouped c.args.group in
    let members = c.as_slice-made-items in
    let room = kept_room item_of group members.result.now c.loop-made.made-index c.made-item.result
    c.loop-made-test.true c.made-item.is (sym c.if-has.ensures) in
    let so_far = simp (length-append, length-map) at (ap length c.loop-made.invariant) in
    let all = ap (λ xs. length (filter group (map item_of xs))) members.ensures in
    (lit< tt, omega (arith, room, so_far, all, c.requires))
