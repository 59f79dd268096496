use Rattle.std.proofs.Common.{◌+◌, ◌<◌, ◌≤◌, not, ◌&&◌, map, length, get_or, drop, set, count_by, sym, ap, ◌∙◌, arith}
use Rattle.std.proofs.lemmas.List.{at_drop_all}
use Rattle.rules.specs.Members.{accessor}
use Rattle.rules.specs.Walks.{item_of}
use Rattle.lowering.specs.Items.{members_of}
use Rattle.lowering.specs.Rows.{rows_of}
use Rattle.lowering.specs.Tallies.{starters_over}
use Rattle.lowering.proofs.Counts.{calls_over}
use Rattle.lowering.proofs.Walked.{second_left, second_turn, written_front, written_back, numbers_more}
use Rattle.lowering.proofs.walks.walk_second.Goals as goal

pub loop-made-preserved : goal.loop-made-preserved
loop-made-preserved c =
    let xs = c.loop-made.made-items in
    let i = c.loop-made.made-index in
    let d = c.made-item.result in
    let x = item_of (get_or xs i d) in
    let y = c.make_second.new.made in
    let r = c.loop-made.reached in
    let t = c.make_second.new.reached in
    let marks = c.loop-made.names in
    let next = c.make_second.new.names in
    let made = c.make_second.ensures in
    let inv = c.loop-made.invariant in
    let within : i < length xs = omega (arith, c.loop-made-test.true, c.loop-made.auto.made-items) in
    let front = written_front item_of xs i d y within in
    let back = written_back item_of xs i d y within in
    let members = ap members_of back in
    let rest = members_of (map item_of (drop (i + 1) (set xs i y))) in
    record {
      items = second_turn marks next r.starters t.starters r.number t.number _ _ _ x (item_of y) _ _ front back
          made.item made.starters made.number made.left inv.items;
      starters = ap (λ s. starters_over s rest) made.starters ∙ (sym (ap (starters_over r.starters) members) ∙ inv.starters);
      left = second_left i x.member _ _ marks next _ members r.starters t.starters made.starters made.left inv.left;
      numbers = omega (arith, ap (count_by accessor) members, numbers_more r.number x.member rest, made.number, inv.numbers);
    }

pub returns-clause-calls : goal.returns-clause-calls
returns-clause-calls c =
    let xs = c.loop-made.made-items in
    let s = c.loop-made.reached.starters in
    let done : length xs ≤ c.loop-made.made-index = omega (arith, c.loop-made-test.false, c.loop-made.auto.made-items) in
    let none = at_drop_all (λ zs. starters_over s (members_of (map item_of zs))) xs c.loop-made.made-index done in
    let all = calls_over (members_of (map item_of (rows_of c.args.members.now))) in
    c.is_call_left.ensures ∙ (ap (λ t. t.instance && not t.called) (sym none ∙ c.loop-made.invariant.starters) ∙ all)
