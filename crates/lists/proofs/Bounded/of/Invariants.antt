use Rattle.std.proofs.Common.{◌≡◌, take}
use Rattle.lists.specs.Listed.{listed}
use Rattle.lists.proofs.Bounded.of.Given as goal

abbrev pub invariant-loop-item : goal.invariant-loop-item
invariant-loop-item g l = listed l.list ≡ take g.row.N (take l.item-index l.items)
