use Rattle.records.proofs.Paths.{lifting_done, lifting_less, lifting_turn, pathed-words}
use Rattle.records.proofs.classes.lift.Goals as goal

pub forest_parent_unchecked-q-requires : goal.forest_parent_unchecked-q-requires
forest_parent_unchecked-q-requires c =
    pathed-words _ _ c.requires.0 _ c.loop-w.invariant.there

pub returns-then-q-w : goal.returns-then-q-w
returns-then-q-w c =
    lifting_done _ _ _ _ _ _ c.requires.0 c.loop-w.invariant _ c.forest_parent_unchecked-q.ensures c.if-q-w.true

pub forest_parent_unchecked-z-requires : goal.forest_parent_unchecked-z-requires
forest_parent_unchecked-z-requires c =
    pathed-words _ _ c.requires.0 _ c.loop-w.invariant.here

pub loop-w-smaller : goal.loop-w-smaller
loop-w-smaller c =
    lifting_less _ _ _ _ _ _ c.requires.0 c.loop-w.invariant _ c.forest_parent_unchecked-q.ensures c.if-q-w.false

pub loop-w-preserved : goal.loop-w-preserved
loop-w-preserved c =
    let p = c.requires in
    lifting_turn _ _ _ _ _ _ p.0 c.loop-w.invariant _ c.forest_parent_unchecked-q.ensures c.if-q-w.false p.3 _ c.forest_parent_unchecked-z.ensures
