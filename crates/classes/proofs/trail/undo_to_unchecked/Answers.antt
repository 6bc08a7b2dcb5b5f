use Rattle.classes.proofs.Refines.Trails.{backward_done, backward_stop, backward_turn}
use mathlib.Core.Path.{refl}
use Rattle.classes.proofs.trail.undo_to_unchecked.Goals as goal

pub returns-then-not-undo_join_unchecked : goal.returns-then-not-undo_join_unchecked
returns-then-not-undo_join_unchecked c =
    backward_stop c.loop-j.invariant c.loop-j-test.true refl _ c.undo_join_unchecked.ensures c.if-not-undo_join_unchecked.true

pub loop-j-preserved : goal.loop-j-preserved
loop-j-preserved c =
    backward_turn c.loop-j.invariant c.loop-j-test.true refl _ c.undo_join_unchecked.ensures c.if-not-undo_join_unchecked.false

pub returns : goal.returns
returns c =
    backward_done c.loop-j.invariant c.loop-j-test.false
