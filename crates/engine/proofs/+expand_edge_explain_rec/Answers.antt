use Rattle.engine.proofs.Refines.Turns.{label_is, reason_label, pairing_walkable, pairing_low, pairing_less, pairing_begin, pairing_turn, pairing_stop, pairing_done, slot_past, edge_hints, edge-nothing, edge_other}
use Rattle.engine.proofs.Refines.Rises.{rising_walkable, rising-low, pair_same, pair-seen, place_inside, nearest-fit, rising_begin, rising_switch, rising_turn, rising_stop, rising_done, far-turn}
use borrow.Author.Rules.{rules}
use mathlib.Core.Path.{refl, sym, ◌∙◌}
use native.Mathlib.Omega.{arith}
use Rattle.records.proofs.Public.{handed}
use Rattle.engine.proofs.+expand_edge_explain_rec.Goals.{expand_edge-then-s-t+in_ok-given-in-Ok-Congruence, expand_edge-else-s-t}
use Rattle.engine.proofs.+expand_edge_explain_rec.Goals as goal

pub expand_edge-overflow_sub-slot-in-Ok-Asserted : goal.expand_edge-overflow_sub-slot-in-Ok-Asserted
expand_edge-overflow_sub-slot-in-Ok-Asserted t c =
    let h = slot_past _ _ _ _ _ _ _ _ c.requires in omega arith

pub expand_edge-loop-at-init : goal.expand_edge-loop-at-init
expand_edge-loop-at-init t c =
    pairing_begin _ _ _ _ _ _ _ _ _ _ (label_is c.in-Ok-Congruence.ensures c.in-Ok-Congruence.field-0-is)
    (record { kind_is = c.label_kind-kind.ensures; value_is = c.label_value-value.ensures })

pub expand_edge-explain_rec-requires : goal.expand_edge-explain_rec-requires
expand_edge-explain_rec-requires t c = (
  let h = pairing_low _ _ _ _ _ _ _ _ _ _ _ _ _ _ _ c.requires c.loop-at.invariant c.loop-at-test.true c.value-s.ensures
      c.other-t.ensures in
      omega (arith, c.requires-raw.0),
  pairing_walkable _ _ _ _ _ _ _ _ _ _ _ _ _ _ _ c.requires c.loop-at.invariant c.loop-at-test.true c.value-s.ensures
      c.other-t.ensures,
)

pub expand_edge-returns-in_err-given-in-Ok-Congruence : goal.expand_edge-returns-in_err-given-in-Ok-Congruence
expand_edge-returns-in_err-given-in-Ok-Congruence t c =
    rw (handed _ c.from_residual.ensures.1)
    (pairing_stop _ _ _ _ _ _ _ _ _ _ _ _ _ _ _ _ c.loop-at.invariant c.loop-at-test.true
    (record { one = c.value-s.ensures; other = c.other-t.ensures; next_is = refl }) _ _ c.explain_rec.auto.table
    c.explain_rec.auto.reasons c.in_err-given-in-Ok-Congruence.ensures _ _ (label_is c.in-Ok-Congruence.ensures c.in-Ok-Congruence.field-0-is) refl
    (record { kind_is = c.label_kind-kind.ensures; value_is = c.label_value-value.ensures }))

pub expand_edge-loop-at-smaller : goal.expand_edge-loop-at-smaller
expand_edge-loop-at-smaller t c =
    pairing_less _ _ _ _ _ _ _ _ _ _ _ 0 0 _ _ c.requires c.loop-at.invariant c.loop-at-test.true _ c.next-at.ensures

pub expand_edge-loop-at-preserved : goal.expand_edge-loop-at-preserved
expand_edge-loop-at-preserved t c =
    elim c.if-s-t.branch [
      | expand_edge-then-s-t+in_ok-given-in-Ok-Congruence w ↦
          rw (w.table-is, w.reasons-is, w.given-is)
          (pairing_turn _ _ _ _ _ _ _ _ _ _ _ _ _ _ _ _ c.loop-at.invariant c.loop-at-test.true
          (record { one = c.value-s.ensures; other = c.other-t.ensures; next_is = c.next-at.ensures }) _ _ w.explain_rec.auto.table w.explain_rec.auto.reasons w.in_ok-given-in-Ok-Congruence.ensures)
      | expand_edge-else-s-t w ↦
          rw (w.table-is, w.reasons-is, w.given-is)
          (pairing_turn _ _ _ _ _ _ _ _ _ _ _ _ _ _ _ _ c.loop-at.invariant c.loop-at-test.true
          (record { one = c.value-s.ensures; other = c.other-t.ensures; next_is = c.next-at.ensures }) _ _ refl refl
          (pair_same _ _ _ _ _ _ _ _ _ w.if-s-t.false))
    ]

pub expand_edge-returns-in-Ok-Asserted : goal.expand_edge-returns-in-Ok-Asserted
expand_edge-returns-in-Ok-Asserted t c =
    edge_hints _ _ _ _ _ _ _ _ c.requires _ _ _ _ _ (reason_label c.in-Ok-Asserted.ensures (search rules))
    (record { kind_is = c.label_kind-kind.ensures; value_is = c.label_value-value.ensures }) c.give.ensures

pub expand_edge-returns-after-loop-at : goal.expand_edge-returns-after-loop-at
expand_edge-returns-after-loop-at t c =
    pairing_done _ _ _ _ _ _ _ _ _ _ _ _ _ c.loop-at.invariant c.loop-at-test.false _ _ (label_is c.in-Ok-Congruence.ensures c.in-Ok-Congruence.field-0-is) refl
    (record { kind_is = c.label_kind-kind.ensures; value_is = c.label_value-value.ensures })

pub expand_edge-returns-in-Ok-Definitional : goal.expand_edge-returns-in-Ok-Definitional
expand_edge-returns-in-Ok-Definitional t c =
    edge-nothing _ _ _ _ _ _ _ _ _ _ (label_is c.in-Ok-Definitional.ensures c.in-Ok-Definitional.field-0-is)
    (record { kind_is = c.label_kind-kind.ensures; value_is = c.label_value-value.ensures })

pub expand_edge-returns-in-Err : goal.expand_edge-returns-in-Err
expand_edge-returns-in-Err t c =
    edge_other _ _ _ _ _ _ _ _ _ _ c.in-Err.ensures.1
    (record { kind_is = c.label_kind-kind.ensures; value_is = c.label_value-value.ensures }) c.requires

pub explain_rec-returns-then-a-b : goal.explain_rec-returns-then-a-b
explain_rec-returns-then-a-b t c =
    pair_same _ _ _ _ _ _ _ _ _ c.if-a-b.true

pub explain_rec-is_seen-requires : goal.explain_rec-is_seen-requires
explain_rec-is_seen-requires t c =
    place_inside _ _ _ _ _ _ _ _ _ c.requires c.place-at.ensures

pub explain_rec-returns-then-is_seen : goal.explain_rec-returns-then-is_seen
explain_rec-returns-then-is_seen t c =
    pair-seen _ _ _ _ _ _ _ _ _ _ _ c.place-at.ensures c.is_seen.ensures c.if-is_seen.true

pub explain_rec-note_seen-requires : goal.explain_rec-note_seen-requires
explain_rec-note_seen-requires t c =
    (place_inside _ _ _ _ _ _ _ _ _ c.requires c.place-at.ensures, sym c.is_seen.ensures ∙ c.if-is_seen.false)

pub explain_rec-nearest_unchecked-top-requires : goal.explain_rec-nearest_unchecked-top-requires
explain_rec-nearest_unchecked-top-requires t c =
    nearest-fit _ _ _ _ _ _ _ _ c.requires

pub explain_rec-loop-x-init : goal.explain_rec-loop-x-init
explain_rec-loop-x-init t c =
    rising_begin _ _ _ _ _ _ _ _ _ _ c.nearest_unchecked-top.ensures

pub explain_rec-returns-then-last : goal.explain_rec-returns-then-last
explain_rec-returns-then-last t c =
    rising_done _ _ _ _ _ _ _ _ _ _ _ c.if-a-b.false _ c.place-at.ensures c.is_seen.ensures c.if-is_seen.false c.note_seen.ensures _ _ _ _ _
    _ c.loop-x.invariant c.if-last.true c.if-x-top.true

pub explain_rec-loop-x-preserved-then-x-top : goal.explain_rec-loop-x-preserved-then-x-top
explain_rec-loop-x-preserved-then-x-top t c =
    rising_switch _ _ _ _ _ _ _ _ _ _ _ _ _ _ _ c.loop-x.invariant c.if-last.false c.if-x-top.true

pub explain_rec-expand_edge-requires : goal.explain_rec-expand_edge-requires
explain_rec-expand_edge-requires t c = (
  let h = rising-low _ _ _ _ _ _ _ _ _ _ _ _ _ _ _ _ c.requires c.loop-x.invariant c.if-x-top.false in omega (arith, c.requires-raw.0),
  rising_walkable _ _ _ _ _ _ _ _ _ _ _ _ _ _ _ _ c.requires c.loop-x.invariant c.if-x-top.false c.note_seen.ensures.long,
)

pub explain_rec-returns-in_err-given : goal.explain_rec-returns-in_err-given
explain_rec-returns-in_err-given t c =
    rw (handed _ c.from_residual.ensures.1)
    (rising_stop _ _ _ _ _ _ _ _ _ _ _ c.if-a-b.false _ c.place-at.ensures c.is_seen.ensures c.if-is_seen.false c.note_seen.ensures _ _
    _ _ _ _ c.loop-x.invariant c.if-x-top.false _ _ c.expand_edge.auto.table c.expand_edge.auto.reasons
    c.in_err-given.ensures)

pub explain_rec-loop-x-smaller : goal.explain_rec-loop-x-smaller
explain_rec-loop-x-smaller t c =
    far-turn _ _ _ _ _ _ _ _ _ _ _ _ _ _ _ _ c.requires c.loop-x.invariant c.if-x-top.false _ c.forest_parent-x.ensures

pub explain_rec-loop-x-preserved : goal.explain_rec-loop-x-preserved
explain_rec-loop-x-preserved t c =
    rising_turn _ _ _ _ _ _ _ _ _ _ _ _ _ _ _ c.loop-x.invariant c.if-x-top.false _ _ c.expand_edge.auto.table
    c.expand_edge.auto.reasons c.in_ok-given.ensures _ c.forest_parent-x.ensures
