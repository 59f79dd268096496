use Rattle.std.proofs.Common.{◌<◌, length, get_or, ap, arith}
use Rattle.rules.specs.Draws.{third_stems}
use Rattle.rules.specs.Walks.{item_of}
use Rattle.lowering.specs.Items.{members_of}
use Rattle.lowering.proofs.Walked.{each_left, third_turn, written_front, written_back}
use Rattle.lowering.proofs.walks.walk_third.Goals as goal

pub loop-made-preserved : goal.loop-made-preserved
loop-made-preserved c =
    let xs = c.loop-made.made-items in
    let i = c.loop-made.made-index in
    let d = c.made-item.result in
    let x = item_of (get_or xs i d) in
    let y = c.make_third.new.made in
    let marks = c.loop-made.names in
    let next = c.make_third.new.names in
    let made = c.make_third.ensures in
    let inv = c.loop-made.invariant in
    let within : i < length xs = omega (arith, c.loop-made-test.true, c.loop-made.auto.made-items) in
    let front = written_front item_of xs i d y within in
    let back = written_back item_of xs i d y within in
    record {
      items = third_turn marks next _ _ _ x (item_of y) _ _ front back made.item made.left inv.items;
      left = each_left i x.member _ _ marks next _ (ap members_of back) third_stems made.left inv.left;
    }
