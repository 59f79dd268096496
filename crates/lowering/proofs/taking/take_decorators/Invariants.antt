use Rattle.std.proofs.Common.{◌≡◌, ◌+◌, ◌≤◌, ◌++◌, length, drop, filter}
use Rattle.lists.specs.Listed.{listed}
use Rattle.rules.specs.Members.{taken_out}
use Rattle.rules.specs.Walks.{decorations, decorator_assignments}
use Rattle.lowering.specs.Left.{after}
use Rattle.lowering.specs.Rows.{rows_of}
use Rattle.lowering.proofs.taking.take_decorators.Given as goal

-- Going on with the decorators that are left gives what all of them give.
abbrev pub invariant-loop-decorator : goal.invariant-loop-decorator
invariant-loop-decorator l =
    let all = l.decorator-items in
    let rest = drop l.decorator-index all in
    record {
      list : listed l.list ++ decorations l.walked rest l.names 0 ≡ decorations l.walked all l.initial.names 0;
      rows : rows_of l.assignments ++ decorator_assignments l.walked rest l.names 0
          ≡ rows_of l.initial.assignments ++ decorator_assignments l.walked all l.initial.names 0;
      left : after (filter (taken_out l.walked) rest) l.names ≡ after (filter (taken_out l.walked) all) l.initial.names;
      full : length (listed l.list) ≡ l.decorator-index;
      few : length (rows_of l.assignments) ≤ length (rows_of l.initial.assignments) + l.decorator-index;
    }
