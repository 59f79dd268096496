use Rattle.std.proofs.Common.{◌+◌, ◌<◌, length, get_or, map, ap, ◌∙◌, arith}
use Rattle.std.proofs.lemmas.List.{drop-set-lt, length_push, length-append, map_push}
use Rattle.std.proofs.lemmas.Grind.{drop_more_same}
use Rattle.rules.specs.Draws.{first_stems}
use Rattle.rules.specs.Walks.{item_of, member_assignments}
use Rattle.lowering.specs.Hands.{seen_held, seen_hand}
use Rattle.lowering.specs.Rows.{rows_of}
use Rattle.lowering.proofs.Taken.{member_few}
use Rattle.lowering.proofs.Walked.{each_left, first_turn, rows_turn, left_item}
use Rattle.lowering.proofs.walks.walk_first.Goals as goal

pub loop-slot-preserved : goal.loop-slot-preserved
loop-slot-preserved c =
    let hs = rows_of c.args.hand.now in
    let xs = c.loop-slot.slot-items in
    let i = c.loop-slot.slot-index in
    let d = c.slot-item.result in
    let x = get_or xs i d in
    let made = c.take_first.result in
    let marks = c.loop-slot.names in
    let next = c.take_first.new.names in
    let took = c.take_first.ensures in
    let inv = c.loop-slot.invariant in
    let within : i < length xs = omega (arith, c.loop-slot-test.true, c.loop-slot.auto.slot-items) in
    let members = ap seen_hand (left_item xs hs i d within inv.hand) in
    let out = rows_of c.loop-slot.members in
    let pushed = ap (map item_of) c.push.ensures ∙ map_push item_of out made in
    record {
      hand = drop-set-lt (i + 1) xs i _ (omega arith) ∙ drop_more_same xs hs i inv.hand;
      items = first_turn marks next _ _ _ (item_of made) (seen_held x) _ _ pushed members took.item took.left inv.items;
      rows = rows_turn marks next _ _ _ (seen_held x) _ _ took.rows members took.left inv.rows;
      left = each_left i (seen_held x) _ _ marks next _ members first_stems took.left inv.left;
      made = omega (arith, ap length c.push.ensures ∙ length_push out made, inv.made);
      few = omega (
        arith,
        ap length took.rows,
        length-append (rows_of c.loop-slot.assignments) (member_assignments marks 0 (seen_held x)),
        member_few x marks,
        inv.few,
      );
    }
