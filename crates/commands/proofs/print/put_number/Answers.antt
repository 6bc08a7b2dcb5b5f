use Rattle.std.proofs.Common.{arith}
use Rattle.commands.proofs.Printing.{number_put}
use Rattle.commands.proofs.print.put_number.Goals as goal

pub returns : goal.returns
returns c = number_put c.args.out.now _ _ _ (omega arith) c.put_digits.auto.out c.put_digits.ensures
