use Rattle.std.proofs.Common.{rules}
use Rattle.formats.proofs.Items.{items_more}
use Rattle.lists.proofs.reading.read_list.Goals as goal

pub returns-in_err-item : goal.returns-in_err-item
returns-in_err-item g c = search (rules, items_more)

pub loop-preserved : goal.loop-preserved
loop-preserved g c = search (rules, items_more)
