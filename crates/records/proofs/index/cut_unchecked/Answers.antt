use Rattle.records.proofs.Refines.IndexCuts.{cutting_none, cutting_ninth, cut-done}
use mathlib.Core.Path.{◌≡◌}
use Prim.Native.Nat.{◌+◌, ◌-◌}
use native.Mathlib.Omega.{arith}
use Rattle.records.proofs.index.cut_unchecked.Goals as goal

pub loop-b-init : goal.loop-b-init
loop-b-init c = cutting_none _ _

pub loop-t-preserved : goal.loop-t-preserved
loop-t-preserved c =
    let e : (c.loop-t.t + 1) - 1 ≡ c.loop-t.t = omega arith in
    (omega arith, rw e (cutting_ninth _ _ _ _ _ (let k = c.loop-b.invariant.long in omega (arith, c.requires.fact_2)) c.loop-t.invariant.1 (omega arith) c.loop-t-test.true c.cut_word-in-loop-t.ensures))

pub returns : goal.returns
returns c =
    cut-done _ _ _ _ _ _ c.loop-b.invariant (omega arith) c.loop-b-test.false c.loop-t.invariant.1 (omega arith) (omega arith)

pub returns-2 : goal.returns-2
returns-2 c =
    cut-done _ _ _ _ _ _ c.loop-b.invariant (omega arith) c.loop-b-test.false
    (cutting_ninth _ _ _ _ _ (let k = c.loop-b.invariant.long in omega (arith, c.requires.fact_2)) c.loop-t.invariant.1 (omega arith) c.loop-t-test.true c.cut_word-in-loop-t.ensures) (omega arith) (omega arith)
