use Rattle.records.proofs.Loops.{summing_all}
use Rattle.records.proofs.Refines.JoinedTexts.{lengths_none, summed_one}
use native.Mathlib.Omega.{arith}
use Rattle.records.proofs.text.joined_length_unchecked.Goals as goal

pub loop-t-preserved : goal.loop-t-preserved
loop-t-preserved c =
    summed_one _ _ _ _ _ c.loop-t.invariant c.loop-t-test.true c.second.ensures (omega arith)

pub returns : goal.returns
returns c =
    summing_all _ _ _ _ _ c.loop-t.invariant (lengths_none _) c.loop-t-test.false
