use Rattle.std.proofs.Common.{◌≡◌, ◌++◌, take}
use Rattle.std.specs.List.{flat_map}
use Rattle.std.specs.Option.{option_to_list}
use Rattle.lowering.specs.Rows.{rows_of}
use Rattle.lowering.proofs.tables.Table.push_present.Given as goal

abbrev pub invariant-loop-row : goal.invariant-loop-row
invariant-loop-row g l = rows_of l.self ≡ rows_of l.initial.self ++ flat_map option_to_list (take l.row-index l.rows)
