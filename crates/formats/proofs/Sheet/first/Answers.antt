use Rattle.std.proofs.Common.{arith}
use Rattle.formats.proofs.Windows.{taken}
use Rattle.formats.proofs.Sheet.first.Goals as goal

pub returns : goal.returns
returns c = taken c.args.bytes.now 65535 _ (omega (arith, c.min-end.ensures))
