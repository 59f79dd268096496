use Rattle.std.proofs.Common.{◌≡◌, map, take}
use Rattle.std.specs.List.{flat_map}
use Rattle.rules.specs.Records.{described_of}
use Rattle.rules.specs.Walks.{item_of}
use Rattle.lowering.specs.Rows.{rows_of}
use Rattle.lowering.proofs.Described.{descriptors_of}
use Rattle.lowering.proofs.describing.describe_all.Given as goal

-- the groups before this one are described
abbrev pub invariant-loop-group : goal.invariant-loop-group
invariant-loop-group l =
    let is = map item_of (rows_of l.members) in
    map described_of (rows_of l.descriptors) ≡ flat_map (descriptors_of is) (take l.group-index l.group-items)
