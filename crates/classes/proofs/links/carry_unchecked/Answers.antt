use native.Mathlib.Omega.{arith}
use Rattle.classes.proofs.Refines.CarryWords.{carrying_room, carrying_out, carrying_end, carrying_turn}
use Rattle.classes.proofs.links.carry_unchecked.Goals as goal

pub put_edge_unchecked-requires : goal.put_edge_unchecked-requires
put_edge_unchecked-requires c =
    carrying_room c.loop.invariant c.requires.room

pub returns-then-above-at : goal.returns-then-above-at
returns-then-above-at c =
    carrying_end c.loop.invariant c.loop-test.true c.put_edge_unchecked.ensures _ c.forest_parent-above.ensures c.if-above-at.true

pub loop-preserved : goal.loop-preserved
loop-preserved c =
    carrying_turn c.loop.invariant c.loop-test.true c.put_edge_unchecked.ensures _ c.forest_parent-above.ensures _ _ _ c.if-above-at.false c.label_kind-its_kind.ensures c.label_value-its_value.ensures c.stamp-its_stamp.ensures

pub returns-else-above-at : goal.returns-else-above-at
returns-else-above-at c =
    carrying_out
    (carrying_turn c.loop.invariant c.loop-test.true c.put_edge_unchecked.ensures _ c.forest_parent-above.ensures _ _ _ c.if-above-at.false c.label_kind-its_kind.ensures c.label_value-its_value.ensures c.stamp-its_stamp.ensures)
    (omega arith)
