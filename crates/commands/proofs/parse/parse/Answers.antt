use Rattle.std.proofs.Common.{arith}
use Rattle.commands.proofs.Parsing.{line-none, line-long, line-is}
use Rattle.commands.proofs.parse.parse.Goals as goal

pub returns-in_default : goal.returns-in_default
returns-in_default c = line-none _ (omega arith)

pub returns-then-line-gt-LINE_LIMIT : goal.returns-then-line-gt-LINE_LIMIT
returns-then-line-gt-LINE_LIMIT c = line-long _ c.if-line-gt-LINE_LIMIT.true

pub returns : goal.returns
returns c = line-is _ _ (omega arith) c.if-line-gt-LINE_LIMIT.false c.by_letter.ensures
