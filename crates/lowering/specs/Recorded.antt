-- What a record holds, with lists in the place of tables.
use Rattle.std.specs.Prelude.{map}
use Rattle.rules.specs.Records.{Record as Lowered, described_of}
use Rattle.rules.specs.Walks.{item_of}
use Rattle.lowering.specs.declared.records.Record.{Record}
use Rattle.lowering.specs.Rows.{rows_of}

abbrev pub record_of : Record → Lowered
record_of r = record {
  assignments = rows_of r.assignments;
  members = map item_of (rows_of r.members);
  descriptors = map described_of (rows_of r.descriptors);
  names = rows_of r.names;
  variables = rows_of r.variables;
  frame = r.frame;
}
