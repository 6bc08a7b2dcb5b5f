use native.Mathlib.Omega.{arith}
use Rattle.sides.proofs.Refines.SideTexts.{alike_differ, alike_one, alike_done}
use Rattle.sides.proofs.letters.spans_differ.Goals as goal

pub returns-then-chars-p : goal.returns-then-chars-p
returns-then-chars-p c =
    alike_differ _ _ _ _ _ _ c.loop-j.invariant (omega arith) (omega arith) c.if-chars-p.true

pub loop-j-preserved : goal.loop-j-preserved
loop-j-preserved c =
    alike_one _ _ _ _ _ _ c.loop-j.invariant (omega arith) (omega arith) c.if-chars-p.false

pub returns : goal.returns
returns c =
    alike_done _ _ _ _ _ _ c.loop-j.invariant (omega arith)
