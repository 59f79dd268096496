use Rattle.std.proofs.Common.{refl}
use Rattle.marks.proofs.Least.{least, only_least, unreserved_from}
use Rattle.marks.proofs.examples.two_then_four.Goals as goal

pub returns : goal.returns
returns c =
    let free = unreserved_from c.new-source.ensures.below c.new.ensures.next c.new-source.ensures.table in
    let (two, left) = only_least (least c.draw.ensures) 2 free refl in
    let (four, _) = only_least (least c.draw-2.ensures) 4 left refl in
    (two, four)
