use Rattle.marks.proofs.Counted.{drawn_in_order, size_from}
use Rattle.marks.proofs.counting.counter_draws_in_order.Goals as goal

pub returns : goal.returns
returns c = (drawn_in_order, size_from)
