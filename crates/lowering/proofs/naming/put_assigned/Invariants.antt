use Rattle.std.proofs.Common.{◌≡◌, ◌++◌, map, take}
use Rattle.rules.specs.declared.naming.Name.{Name}
use Rattle.rules.specs.declared.describing.Assignment.{Assignment}
use Rattle.lowering.specs.Rows.{rows_of}
use Rattle.lowering.proofs.naming.put_assigned.Given as goal

abbrev pub invariant-loop-assignment : goal.invariant-loop-assignment
invariant-loop-assignment g l =
    let name : Assignment → Name = λ a. a.name in
    rows_of l.names ≡ rows_of l.initial.names ++ map name (take l.assignment-index l.assignments)
