use Rattle.std.proofs.Common.{arith}
use Rattle.commands.proofs.Numbering.{passed_here, passed_one, passed_all}
use Rattle.commands.proofs.numbers.field_end.Goals as goal

pub returns-then-line-i-eq32 : goal.returns-then-line-i-eq32
returns-then-line-i-eq32 c = passed_here _ _ _ c.loop-i.invariant c.loop-i-test.true c.if-line-i-eq32.true

pub loop-i-preserved : goal.loop-i-preserved
loop-i-preserved c = passed_one _ _ _ c.loop-i.invariant c.loop-i-test.true c.if-line-i-eq32.false

pub returns : goal.returns
returns c = let i = c.loop-i.invariant.high in passed_all _ _ _ c.loop-i.invariant (omega arith)
