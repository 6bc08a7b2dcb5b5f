use Rattle.records.proofs.Paths.{abreast_turned, abreast_lift, abreast_even, abreast_met, abreast_less, abreast_turn, pathed-words}
use mathlib.Core.Path.{sym}
use Rattle.records.proofs.classes.nearest_unchecked.Goals as goal

pub forest_parent_unchecked-p-requires : goal.forest_parent_unchecked-p-requires
forest_parent_unchecked-p-requires c =
    pathed-words _ _ c.requires.0 _ c.loop-x.invariant.here

pub lift-z-requires : goal.lift-z-requires
lift-z-requires c =
    let p = c.requires in
    (p.0, p.2, c.loop-x.invariant.there, abreast_lift _ _ _ _ _ _ p.0 p.1 c.loop-x.invariant _ c.forest_parent_unchecked-p.ensures c.if-p-x.true)

pub meet-requires : goal.meet-requires
meet-requires c =
    let p = c.requires in
    let z = c.lift-z.ensures in
    (p.0, p.1, z.here, abreast_even _ _ _ _ _ _ p.0 p.1 c.loop-x.invariant _ c.forest_parent_unchecked-p.ensures c.if-p-x.true _ z)

pub returns-then-p-x : goal.returns-then-p-x
returns-then-p-x c =
    let p = c.requires in
    (abreast_met _ _ _ _ _ _ p.0 p.1 c.loop-x.invariant _ c.forest_parent_unchecked-p.ensures c.if-p-x.true _ c.lift-z.ensures _).0
    c.meet.ensures

pub forest_parent_unchecked-q-requires : goal.forest_parent_unchecked-q-requires
forest_parent_unchecked-q-requires c =
    pathed-words _ _ c.requires.0 _ c.loop-x.invariant.there

pub lift-z-requires-then-q-y : goal.lift-z-requires-then-q-y
lift-z-requires-then-q-y c =
    let p = c.requires in (
      p.0,
      p.1,
      c.loop-x.invariant.here,
      abreast_lift _ _ _ _ _ _ p.0 p.2 (abreast_turned c.loop-x.invariant) _ c.forest_parent_unchecked-q.ensures c.if-q-y.true,
    )

pub meet-requires-then-q-y : goal.meet-requires-then-q-y
meet-requires-then-q-y c =
    let p = c.requires in
    let z = c.lift-z-then-q-y.ensures in (
      p.0,
      z.here,
      p.2,
      sym (abreast_even _ _ _ _ _ _ p.0 p.2 (abreast_turned c.loop-x.invariant) _ c.forest_parent_unchecked-q.ensures c.if-q-y.true _ z),
    )

pub returns-then-q-y : goal.returns-then-q-y
returns-then-q-y c =
    let p = c.requires in
    (abreast_met _ _ _ _ _ _ p.0 p.2 (abreast_turned c.loop-x.invariant) _ c.forest_parent_unchecked-q.ensures c.if-q-y.true _ c.lift-z-then-q-y.ensures _).1
    c.meet-then-q-y.ensures

pub loop-x-smaller : goal.loop-x-smaller
loop-x-smaller c =
    let p = c.requires in
    abreast_less _ _ _ _ _ _ p.0 p.1 c.loop-x.invariant _ c.forest_parent_unchecked-p.ensures c.if-p-x.false

pub loop-x-preserved : goal.loop-x-preserved
loop-x-preserved c =
    let p = c.requires in
    abreast_turn _ _ _ _ _ _ p.0 p.1 c.loop-x.invariant _ c.forest_parent_unchecked-p.ensures c.if-p-x.false _ c.forest_parent_unchecked-q.ensures c.if-q-y.false
