use Rattle.std.proofs.Common.{◌<◌, arith}
use Rattle.std.proofs.ByRecursion.{All-from_get_or}
use Rattle.sheet.specs.Classes.{Opened}
use Rattle.sheet.proofs.Sheets.{accepted_is_laid_out, laid_out_is_read}
use Rattle.sheet.proofs.whole.read.Goals as goal

pub returns : goal.returns
returns c =
    let s = c.args.bytes.now in
    let small = All-from_get_or (λ b. b < 256) s 0 (λ i h. omega (arith, c.type_inv.bytes i)) in
    record {
      sound = accepted_is_laid_out (Opened s) s c.read_bytes.result small c.read_bytes.ensures;
      complete = laid_out_is_read (Opened s) s c.read_bytes.result c.read_bytes.ensures;
      answer = c.read_bytes.ensures;
    }
