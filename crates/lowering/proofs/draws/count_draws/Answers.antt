use Rattle.std.proofs.Common.{◌≡◌, ◌+◌, ◌≤◌, length, drop, sym, ap, ◌∙◌, arith}
use Rattle.std.proofs.lemmas.List.{at_drop_all}
use Rattle.rules.specs.Draws.{draws}
use Rattle.lowering.specs.Hands.{seen_hand}
use Rattle.lowering.specs.Tallies.{tally_after, tallied, total_of}
use Rattle.lowering.proofs.Counts.{started, total_drawn, total_few}
use Rattle.lowering.proofs.Rooms.{rows_few}
use Rattle.lowering.proofs.Turns.{at_drop_item}
use Rattle.lowering.proofs.draws.count_draws.Goals as goal

pub loop-held-preserved : goal.loop-held-preserved
loop-held-preserved c =
    let hs = c.as_slice-members.result.now in
    let i = c.loop-held.held-index in
    let t = c.loop-held.tally in
    let more = at_drop_item (λ xs. tallied t (seen_hand xs)) hs i c.held-item.result c.loop-held-test.true c.held-item.is in
    let is = c.tally_after-tally.ensures.is ∙ ap (tally_after t) c.parts.ensures in
    let inv = c.loop-held.invariant in
    record {
      tally = ap (λ u. tallied u (seen_hand (drop (i + 1) hs))) is ∙ (sym more ∙ inv.tally);
      names = omega (arith, c.tally_after-tally.ensures.few, inv.names);
    }

pub returns : goal.returns
returns c =
    let hs = c.as_slice-members.result.now in
    let t = c.loop-held.tally in
    let none = at_drop_all (λ xs. tallied t (seen_hand xs)) hs c.loop-held.held-index c.loop-held-test.false in
    let all : t ≡ tallied started (seen_hand hs) = sym none ∙ c.loop-held.invariant.tally in
    let total = c.total_of.ensures ∙ ap (λ u. total_of u c.args.derived) all in
    let few = total_few t c.args.derived in
    let rows = ap length c.as_slice-members.ensures in
    let short : c.loop-held.held-index ≤ 64 = omega (arith, rows, rows_few c.args.hand.now, c.loop-held.auto.held-index-end) in
    record {
      is = total
          ∙ (total_drawn c.args.derived (seen_hand hs)
          ∙ ap (λ xs. length (draws c.args.derived (seen_hand xs))) c.as_slice-members.ensures);
      few = omega (arith, c.total_of.ensures, few, short, c.loop-held.invariant.names);
    }
