-- How many rows a table has.
use Rattle.std.proofs.Common.{ℕ, ◌≤◌, map, length, arith}
use Rattle.std.proofs.lemmas.List.{length-map}
use Rattle.rules.specs.declared.forming.Made.{Made}
use Rattle.rules.specs.Walks.{item_of}
use Rattle.lowering.specs.declared.tables.Table.{Table}
use Rattle.lowering.specs.Rows.{rows_of}

pub rows_few : {T : Type 0} {N : ℕ} (t : Table T N) → length (rows_of t) ≤ N
rows_few t = omega (arith, t.few, t.rows.ok.0)

pub members_few : (t : Table Made 64) → length (map item_of (rows_of t)) ≤ 64
members_few t = omega (arith, rows_few t, length-map (rows_of t) item_of)
