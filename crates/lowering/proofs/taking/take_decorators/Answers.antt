use Rattle.std.proofs.Common.{◌<◌, length, get_or, filter, ap, arith}
use Rattle.std.proofs.lemmas.List.{length_push}
use Rattle.lists.specs.Listed.{listed}
use Rattle.rules.specs.declared.describing.Decoration.{Decoration}
use Rattle.rules.specs.Members.{taken_out}
use Rattle.rules.specs.Walks.{decorations, decorator_assignments}
use Rattle.lowering.specs.Rows.{rows_of}
use Rattle.lowering.proofs.Left.{appends, leaves}
use Rattle.lowering.proofs.Taken.{nowhere, appended, listed_few, one_more, decorations_turn, assignments_turn, filter_turn, drawn_turn}
use Rattle.lowering.proofs.taking.take_decorators.Goals as goal

pub loop-decorator-preserved : goal.loop-decorator-preserved
loop-decorator-preserved c =
    let ds = c.as_slice-decorator-items.result.now in
    let walked = c.args.walked in
    let i = c.loop-decorator.decorator-index in
    let d = get_or ds i nowhere in
    let marks = c.loop-decorator.names in
    let next = c.take_decorator.new.names in
    let list = listed c.loop-decorator.list in
    let rows = rows_of c.loop-decorator.assignments in
    let inv = c.loop-decorator.invariant in
    let within = c.loop-decorator-test.true in
    let few = listed_few c.args.decorators.now in
    let room : length list < 8 = omega (arith, inv.full, within, ap length c.as_slice-decorator-items.ensures, few) in
    let more = appended list 8 _ _ c.append.ensures room in
    let drawn = c.take_decorator.ensures.left in
    record {
      list = appends ds i nowhere within (λ xs. decorations walked xs marks 0) (λ xs. decorations walked xs next 0) list _ _ _
          (decorations_turn walked d marks next drawn c.take_decorator.result c.take_decorator.ensures.is) more inv.list;
      rows = appends ds i nowhere within (λ xs. decorator_assignments walked xs marks 0) (λ xs. decorator_assignments walked xs next 0)
          rows _ _ _ (assignments_turn walked d marks next drawn) c.take_decorator.ensures.rows inv.rows;
      left = leaves ds i nowhere within (filter (taken_out walked)) (filter (taken_out walked)) _ marks next _
          (filter_turn (taken_out walked) d) (drawn_turn walked d marks next drawn) inv.left;
      full = omega (arith, ap length more, length_push {X = Decoration}, inv.full);
      few = omega (arith, one_more rows _ (taken_out walked d) _ c.take_decorator.ensures.rows, inv.few);
    }
