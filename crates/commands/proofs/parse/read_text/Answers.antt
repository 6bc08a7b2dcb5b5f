use Rattle.std.proofs.Common.{arith}
use Rattle.commands.proofs.Parsing.{text-none, text_odd, text_is}
use Rattle.commands.proofs.parse.read_text.Goals as goal

pub returns-in_default : goal.returns-in_default
returns-in_default c = text-none _ _ (omega arith)

pub returns-in_default-2 : goal.returns-in_default-2
returns-in_default-2 c = text_odd _ _ (omega arith) (omega arith)

pub returns : goal.returns
returns c = text_is _ _ (omega arith) _ (omega arith) c.read_chars.ensures
