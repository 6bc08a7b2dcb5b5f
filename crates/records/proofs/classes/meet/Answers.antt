use Rattle.records.proofs.Paths.{meeting_met, meeting_none, meeting_less, meeting_turn, pathed-words}
use Rattle.records.proofs.classes.meet.Goals as goal

pub forest_parent_unchecked-p-requires : goal.forest_parent_unchecked-p-requires
forest_parent_unchecked-p-requires c =
    pathed-words _ _ c.requires.0 _ c.loop-x.invariant.here

pub returns-then-p-x : goal.returns-then-p-x
returns-then-p-x c =
    meeting_none _ _ _ _ _ _ c.requires.0 c.loop-x.invariant c.loop-x-test.true _ c.forest_parent_unchecked-p.ensures c.if-p-x.true

pub forest_parent_unchecked-y-requires : goal.forest_parent_unchecked-y-requires
forest_parent_unchecked-y-requires c =
    pathed-words _ _ c.requires.0 _ c.loop-x.invariant.there

pub loop-x-smaller : goal.loop-x-smaller
loop-x-smaller c =
    meeting_less _ _ _ _ _ _ c.requires.0 c.loop-x.invariant c.loop-x-test.true _ c.forest_parent_unchecked-p.ensures c.if-p-x.false

pub loop-x-preserved : goal.loop-x-preserved
loop-x-preserved c =
    meeting_turn _ _ _ _ _ _ c.requires.0 c.loop-x.invariant c.loop-x-test.true _ c.forest_parent_unchecked-p.ensures c.if-p-x.false _
    c.forest_parent_unchecked-y.ensures

pub returns : goal.returns
returns c =
    meeting_met _ _ _ _ _ _ c.requires.0 c.loop-x.invariant c.loop-x-test.false
