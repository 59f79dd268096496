-- The rows of a table.
use Rattle.std.specs.Prelude.{ℕ, List, vec_items}
use Rattle.lowering.specs.declared.tables.Table.{Table}

abbrev pub rows_of : {T : Type 0} {N : ℕ} → Table T N → List T
rows_of t = vec_items t.rows
