use Rattle.std.proofs.Common.{map, length, filter, sym, ap, arith, lit<}
use Rattle.std.specs.List.{flat_map}
use Rattle.std.proofs.lemmas.List.{length-append}
use Rattle.rules.specs.Records.{item_names}
use Rattle.rules.specs.Walks.{item_of}
use Rattle.lowering.specs.Picks.{wanted}
use Rattle.lowering.proofs.Kept.{put_room}
use Rattle.lowering.proofs.naming.put_all.Goals as goal

pub push_present-requires : goal.push_present-requires
push_present-requires g c =
    let pick = wanted c.args.pick in
    let members = c.as_slice-made-items in
    let room = put_room item_of pick members.result.now c.loop-made.made-index c.made-item.result
    c.loop-made-test.true c.made-item.is (sym c.if-wants.ensures) item_names in
    let so_far = simp length-append at (ap length c.loop-made.invariant) in
    let all = ap (λ xs. length (flat_map item_names (filter pick (map item_of xs)))) members.ensures in
    (lit< tt, omega (arith, room, so_far, all, ap length c.names_of.ensures, c.requires))
