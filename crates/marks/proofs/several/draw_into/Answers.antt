use Rattle.std.proofs.Common.{◌≡◌, Err, arith, rules}
use Rattle.std.proofs.lemmas.Grind.{common_steps}
use Rattle.std.proofs.lemmas.List.{set-get_or}
use Rattle.marks.proofs.Taking.{one_more, no_more}
use Rattle.marks.proofs.several.draw_into.Goals as goal

pub loop-drawn-preserved : goal.loop-drawn-preserved
loop-drawn-preserved g c =
    let laws = g.met.S.Marks in
    one_more laws.marks laws.draws (omega arith) c.loop-drawn.invariant (search rules) c.draw.ensures

pub returns-in_err-slot : goal.returns-in_err-slot
returns-in_err-slot g c =
    let laws = g.met.S.Marks in
    let told : c.from_residual.result ≡ Err (record { drawn = c.loop-drawn.drawn-counter }) = search rules in
    let (all, takes, steps) = no_more {free = g.S.Marks.free} {steps = g.S.Marks.steps} laws.marks laws.draws
    {s = c.args.source.now} {u = c.loop-drawn.source} {t = c.draw.new.self} {xs = c.loop-drawn.out} {i = c.loop-drawn.drawn-counter}
    (omega arith) c.loop-drawn.invariant (search rules) c.draw.ensures in
    grind (arith, common_steps, set-get_or)
