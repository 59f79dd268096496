use Rattle.std.proofs.Common.{rules}
use Rattle.pieces.proofs.codes.reading.read_code.Goals as goal

pub returns : goal.returns
returns g c =
    let law = g.met.T.Coded.is_read c.in_ok-byte.byte c.try_from.result c.try_from.ensures c.args.cursor.now.at in
    search rules
