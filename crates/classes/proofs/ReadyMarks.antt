-- Store and marks that pass: the audit of both answers 0 exactly there, and they go on passing while the store grows.
use Rattle.std.specs.Prelude.{if◌then◌else◌}
use mathlib.Core.Path.{◌≡◌, refl}
use mathlib.Core.Bool.{Bool, true, false}
use mathlib.Core.List.{List}
use Prim.Native.Nat.{ℕ}
use native.Mathlib.Omega.{arith}
use Rattle.records.specs.declared.State.{State}
use Rattle.records.specs.View.{Lent, store_of, sizes}
use Rattle.records.specs.Rules.{records_rule, classes_rule, congruences_rule, audit_store, audit_index, first_due, audit}
use Rattle.records.specs.Index.{index_rule}
use Rattle.records.specs.Working.Audited.{Ready}
use Rattle.records.proofs.Passed.{ready_of, audit-of, index-passes}
use Rattle.records.proofs.LaterStores.{Extended}
use Rattle.classes.specs.declared.Standing.{Standing}
use Rattle.classes.specs.Marks.{trail_of, trail_sizes, marks_rule, audit_trail, audit_marks}
use Rattle.classes.specs.Working.Doing.{ReadyMarks}
use Rattle.classes.proofs.Tracking.{Tracked, of-tracked}
use Rattle.classes.proofs.MarksLater.{marks-later}
use Rattle.classes.proofs.Refines.Trails.{sized-trail, trail_sized}
use Rattle.classes.proofs.Refines.AuditMarks.{all_pass}

module _ {m : Lent} {l : List ℕ} {c : State} {d : Standing} where
  pub marks-ready : audit_marks m l c d ≡ 0 → ReadyMarks m l c d
  unfolding audit_marks audit_trail audit audit_store audit_index
  marks-ready e =
      let q = all_pass (sizes m c) (trail_sizes l d) (records_rule (store_of m c)) (classes_rule (store_of m c)) (marks_rule (store_of m c) (trail_of l d)) (congruences_rule (store_of m c)) (index_rule m.terms (store_of m c)) e in
      record { ready = ready_of m c q.0; trail = sized-trail l d q.1; marked = q.2 }

  pub marks_tracked : ReadyMarks m l c d → Tracked (store_of m c) (trail_of l d)
  marks_tracked p = record { audited = p.ready.audited; marked = p.marked }

  pub marks_pass : ReadyMarks m l c d → audit_marks m l c d ≡ 0
  unfolding audit_marks audit
  marks_pass p = rw (fit (sizes m c) (audit-of m c p.ready), trail_sized l d p.trail, of-tracked (store_of m c) (trail_of l d) (marks_tracked p)) (index-passes m.terms (store_of m c) p.ready.indexed)
    where
      fit : (z : Bool) → (if z then first_due (audit_store (store_of m c)) (audit_index m.terms (store_of m c)) else 1) ≡ 0 → z ≡ true
      fit true h = refl
      fit false h = absurd (omega arith)

  -- after a working call that appended terms and left the slices ready, the marks being the same
  pub marks_ready_later : {m' : Lent} {c' : State} → ReadyMarks m l c d → Ready m' c' → Extended (store_of m c) (store_of m' c') → ReadyMarks m' l c' d
  marks_ready_later p r e = record { ready = r; trail = p.trail; marked = marks-later (trail_of l d) p.ready.audited p.marked e }
