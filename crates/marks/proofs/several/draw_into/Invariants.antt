use Rattle.marks.proofs.Taking.{DrawnInto}
use Rattle.marks.proofs.several.draw_into.Given as goal

abbrev pub invariant-loop-drawn : goal.invariant-loop-drawn
invariant-loop-drawn g l = DrawnInto g.S.Marks.free g.S.Marks.steps l.initial.source l.initial.out l.drawn-counter l.out l.source
