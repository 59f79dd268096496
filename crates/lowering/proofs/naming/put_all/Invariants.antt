use Rattle.std.proofs.Common.{◌≡◌, ◌++◌, map, take, filter}
use Rattle.std.specs.List.{flat_map}
use Rattle.rules.specs.Records.{item_names}
use Rattle.rules.specs.Walks.{item_of}
use Rattle.lowering.specs.Picks.{wanted}
use Rattle.lowering.specs.Rows.{rows_of}
use Rattle.lowering.proofs.naming.put_all.Given as goal

abbrev pub invariant-loop-made : goal.invariant-loop-made
invariant-loop-made g l =
    rows_of l.names ≡ rows_of l.initial.names ++ flat_map item_names (filter (wanted l.pick) (map item_of (take l.made-index l.made-items)))
