use Rattle.records.proofs.Refines.HeightLaws.{raising_begin, raising_end, raising_root, raising_turn, raising_done}
use native.Mathlib.Omega.{arith}
use Rattle.records.proofs.heights.height_up.Goals as goal

pub loop-init : goal.loop-init
loop-init c =
    raising_begin _ _ _ _ c.requires.1

pub returns-then-z-x : goal.returns-then-z-x
returns-then-z-x c =
    raising_end _ _ _ _ _ _ _ c.loop.invariant c.loop-test.true c.if-z-x.true

pub returns-then-u-z : goal.returns-then-u-z
returns-then-u-z c =
    raising_root _ _ _ _ _ _ _ c.loop.invariant c.if-z-x.false _ c.stamp.ensures (omega arith) _ c.above-h.ensures _
    c.loop-test.true c.forest_parent-u.ensures c.if-u-z.true

pub loop-preserved : goal.loop-preserved
loop-preserved c =
    raising_turn _ _ _ _ _ _ _ c.loop.invariant c.if-z-x.false _ c.stamp.ensures (omega arith) _ c.above-h.ensures _
    c.loop-test.true c.forest_parent-u.ensures c.requires.2 c.if-u-z.false

pub returns-else-u-z : goal.returns-else-u-z
returns-else-u-z c =
    raising_done _ _ _ _ _ _ _ (raising_turn _ _ _ _ _ _ _ c.loop.invariant c.if-z-x.false _ c.stamp.ensures (omega arith) _ c.above-h.ensures _ c.loop-test.true c.forest_parent-u.ensures c.requires.2 c.if-u-z.false) (omega arith)
