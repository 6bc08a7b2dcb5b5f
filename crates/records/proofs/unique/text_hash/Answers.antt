use Rattle.records.proofs.Refines.NameLaws.{hash-turn, hash-done}
use native.Mathlib.Omega.{arith}
use Rattle.records.proofs.unique.text_hash.Goals as goal

pub loop-x-preserved : goal.loop-x-preserved
loop-x-preserved c = (omega arith, hash-turn c.args.w.now _ _ _ _ c.loop-x.invariant.1 c.loop-x-test.true c.wide.ensures)

pub returns : goal.returns
returns c = hash-done c.args.w.now _ _ _ c.loop-x.invariant.1 c.loop-x-test.false
