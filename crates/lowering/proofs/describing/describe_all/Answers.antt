use Rattle.std.proofs.Common.{false, map, arith}
use Rattle.rules.specs.Walks.{item_of}
use Rattle.lowering.specs.Rows.{rows_of}
use Rattle.lowering.proofs.Described.{room_for_group}
use Rattle.lowering.proofs.Grouped.{group}
use Rattle.lowering.proofs.Rooms.{members_few}
use Rattle.lowering.proofs.describing.describe_all.Goals as goal

pub describe_group-requires : goal.describe_group-requires
describe_group-requires c =
    let members = c.args.members.now in
    let loop = c.loop-group in
    let room = room_for_group (map item_of (rows_of members)) loop.group-index (group false false) (rows_of loop.descriptors)
    c.loop-group-test.true loop.invariant in
    omega (arith, room, members_few members)
