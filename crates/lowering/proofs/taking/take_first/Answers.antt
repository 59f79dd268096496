use Rattle.std.proofs.Common.{◌≡◌, length, refl, ap, ◌∙◌, arith}
use Rattle.std.proofs.lemmas.List.{length-append}
use Rattle.lists.specs.Listed.{listed}
use Rattle.rules.specs.Members.{taken, replaced}
use Rattle.rules.specs.Walks.{merged, hand_key, decorator_assignments}
use Rattle.lowering.specs.Hands.{seen_held}
use Rattle.lowering.specs.Rows.{rows_of}
use Rattle.lowering.proofs.Taken.{Took, listed_few, assigned_few, key_taken, list_taken, rows_taken, left_taken}
use Rattle.lowering.proofs.taking.take_first.Goals as goal

pub returns : goal.returns
returns c =
    let m = seen_held c.args.slot.now in
    let marks = c.args.names.now in
    let took : Took m marks c.take_decorators-decorations.new.names _ _ _ = record {
      is_walked = c.is_taken-walked.ensures ∙ ap taken c.parts-parts.ensures;
      is_out = c.is_replaced-replaced.ensures ∙ ap replaced c.parts-parts.ensures;
      are = ap (λ x. x.decorators) c.parts-parts.ensures;
      drawn = c.take_decorators-decorations.ensures.left;
    } in
    let key : c.take_out-key.result ≡ hand_key marks 0 m = key_taken took _ c.take_out-key.ensures.name in
    let list = list_taken took _ c.take_decorators-decorations.ensures.list in
    let decorators = c.merge_decorators.ensures ∙ ap merged list in
    let text = ap (λ x. x.key.text) c.parts-parts.ensures in
    record {
      item = cc;
      held = refl;
      member = refl;
      rows = rows_taken took _ _ _ _ text c.take_decorators-decorations.ensures.rows c.take_out-key.ensures.rows;
      left = left_taken took _ c.take_out-key.ensures.left;
    }

pub take_out-key-requires : goal.take_out-key-requires
take_out-key-requires c =
    let walked = c.is_taken-walked.result in
    let decorators = c.parts-parts.result.now.decorators in
    let marks = c.args.names.now in
    let rows = rows_of c.args.assignments.now in
    let both = length-append rows (decorator_assignments walked (listed decorators) marks 0) in
    let long = ap length c.take_decorators-decorations.ensures.rows ∙ both in
    omega (arith, long, assigned_few walked (listed decorators) marks 0, listed_few decorators, c.requires)
