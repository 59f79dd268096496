use Rattle.std.proofs.Common.{◌≡◌, map, take}
use Rattle.std.specs.List.{flat_map}
use Rattle.rules.specs.Walks.{item_of}
use Rattle.lowering.specs.Rows.{rows_of}
use Rattle.lowering.proofs.Named.{names_in}
use Rattle.lowering.proofs.naming.name_all.Given as goal

-- the groups before this one have put their names
abbrev pub invariant-loop-group : goal.invariant-loop-group
invariant-loop-group l = rows_of l.names ≡ flat_map (names_in (map item_of (rows_of l.members))) (take l.group-index l.group-items)
