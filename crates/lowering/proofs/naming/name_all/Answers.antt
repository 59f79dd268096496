use Rattle.std.proofs.Common.{false, map, length, ap, ◌∙◌, arith, lit<}
use Rattle.std.specs.List.{flat_map}
use Rattle.std.proofs.lemmas.List.{take_all}
use Rattle.rules.specs.Walks.{item_of}
use Rattle.lowering.specs.Rows.{rows_of}
use Rattle.lowering.proofs.Grouped.{group, all_groups}
use Rattle.lowering.proofs.Named.{names_in, room_for_names, names_all_few, starters_few}
use Rattle.lowering.proofs.Rooms.{members_few}
use Rattle.lowering.proofs.naming.name_all.Goals as goal

pub put_all-requires : goal.put_all-requires
put_all-requires c =
    let members = c.args.members.now in
    let loop = c.loop-group in
    let room = room_for_names (map item_of (rows_of members)) loop.group-index (group false false) (rows_of loop.names)
    c.loop-group-test.true loop.invariant in
    (lit< tt, omega (arith, room, members_few members))

pub push_present-requires : goal.push_present-requires
push_present-requires c =
    let members = c.args.members.now in
    let is = map item_of (rows_of members) in
    let ended = take_all c.loop-group.group-index all_groups c.loop-group-test.false in
    let long = ap length (c.loop-group.invariant ∙ ap (flat_map (names_in is)) ended) in
    (lit< tt, omega (arith, long, names_all_few is, starters_few c.args.frame, members_few members))
