use Rattle.std.proofs.Common.{arith}
use Rattle.commands.proofs.Printing.{reason_put}
use Rattle.commands.proofs.print.put_reason.Goals as goal

pub returns : goal.returns
returns c =
    rw c.from.ensures at (reason_put c.args.out.now _ c.args.kind _ _ _ (omega arith) c.put_digits.auto.out c.reason_letter.ensures c.put_digits.ensures)
