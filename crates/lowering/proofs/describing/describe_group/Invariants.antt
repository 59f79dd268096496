use Rattle.std.proofs.Common.{◌≡◌, ◌++◌, map, take, filter}
use Rattle.rules.specs.Records.{describe, described_of}
use Rattle.rules.specs.Walks.{item_of}
use Rattle.lowering.specs.Groups.{grouped}
use Rattle.lowering.specs.Rows.{rows_of}
use Rattle.lowering.proofs.describing.describe_group.Given as goal

-- the members before this one are described
abbrev pub invariant-loop-made : goal.invariant-loop-made
invariant-loop-made l =
    let before = map item_of (take l.made-index l.made-items) in
    map described_of (rows_of l.descriptors)
    ≡ map described_of (rows_of l.initial.descriptors) ++ map describe (filter (grouped l.group) before)
