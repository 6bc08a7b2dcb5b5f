-- Each answer of the audit of store and marks.
use Rattle.std.specs.Prelude.{if◌then◌else◌}
use mathlib.Core.Path.{◌≡◌, refl, sym, ap, ◌∙◌}
use mathlib.Core.Bool.{Bool, true, false, ◌&&◌, false≢true}
use mathlib.Core.List.{List}
use Prim.Native.Nat.{ℕ}
use native.Mathlib.Omega.{arith}
use Rattle.records.specs.declared.State.{State}
use Rattle.records.specs.Store.{within}
use Rattle.records.specs.View.{Lent, store_of, sizes, chained}
use Rattle.records.specs.Rules.{records_rule, classes_rule, congruences_rule, audit_store, audit, audit_index, first_due}
use Rattle.records.specs.Index.{index_rule}
use Rattle.records.specs.Working.Audited.{Sized, Recorded, Classed, Verdict, ready, short, unrecorded, unclassed, incongruent, unindexed}
use Rattle.records.proofs.Lists.{every_map, right-false}
use Rattle.records.proofs.Climbs.{ready_roots, term-within}
use Rattle.records.proofs.Grown.{string-term}
use Rattle.records.proofs.Passed.{verdict}
use Rattle.records.proofs.Readings.{parts-strings}
use Rattle.classes.specs.declared.Standing.{Standing}
use Rattle.classes.specs.Marks.{trail_of, trail_sizes, marks_rule, audit_trail, audit_marks}
use Rattle.classes.specs.Working.Carries.{Tabled, Markable, TrailSized}
use Rattle.classes.proofs.Undoing.{classed-forest}
use Rattle.classes.proofs.Refines.Trails.{sized-trail}
use Rattle.classes.proofs.Refines.MarkTables.{rule_alone}

-- THE ORDER OF REFUSALS

abbrev table_says : Bool → Bool → Bool → Bool → Bool → ℕ
table_says z p q r x = if z then first_due (if p then (if q then (if r then 0 else 4) else 3) else 2) (if x then 0 else 12) else 1

abbrev marks_say : Bool → Bool → Bool → Bool → Bool → Bool → Bool → ℕ
marks_say z t p q g r x = if z && t then first_due (if p then (if q && g then (if r then 0 else 4) else 3) else 2) (if x then 0 else 12) else 1

-- refusals 1 to 3 of the table come first
table-first : (z t p q g r x : Bool) → t ≡ true → within 3 (table_says z p q r x) ≡ true → table_says z p q r x ≡ marks_say z t p q g r x
unfolding within
table-first false t p q g r x e h = refl
table-first true false p q g r x e h = absurd (false≢true e)
table-first true true false q g r x e h = refl
table-first true true true false g r x e h = refl
table-first true true true true g true true e h = absurd (false≢true h)
table-first true true true true g true false e h = absurd (false≢true h)
table-first true true true true g false x e h = absurd (false≢true h)

-- then the marks'
marks-next : (z t p q g r x : Bool) → t ≡ true → within 3 (table_says z p q r x) ≡ false → g ≡ false → 3 ≡ marks_say z t p q g r x
unfolding within
marks-next false t p q g r x e h k = absurd (false≢true (sym h))
marks-next true false p q g r x e h k = absurd (false≢true e)
marks-next true true false q g r x e h k = absurd (false≢true (sym h))
marks-next true true true false g r x e h k = absurd (false≢true (sym h))
marks-next true true true true true r x e h k = absurd (false≢true (sym k))
marks-next true true true true false r x e h k = refl

-- and 4 or 12, or none
table-last : (z t p q g r x : Bool) → t ≡ true → within 3 (table_says z p q r x) ≡ false → g ≡ true → table_says z p q r x ≡ marks_say z t p q g r x
unfolding within
table-last false t p q g r x e h k = absurd (false≢true (sym h))
table-last true false p q g r x e h k = absurd (false≢true e)
table-last true true false q g r x e h k = absurd (false≢true (sym h))
table-last true true true false g r x e h k = absurd (false≢true (sym h))
table-last true true true true false r x e h k = absurd (false≢true k)
table-last true true true true true true x e h k = refl
table-last true true true true true false x e h k = refl

-- what passes: the table, the sizes of the trail, and its rule
pub all_pass : (z t p q g r x : Bool) → marks_say z t p q g r x ≡ 0 → (table_says z p q r x ≡ 0) × (t ≡ true) × (g ≡ true)
all_pass false t p q g r x h = absurd (omega arith)
all_pass true false p q g r x h = absurd (omega arith)
all_pass true true false q g r x h = absurd (omega arith)
all_pass true true true false g r x h = absurd (omega arith)
all_pass true true true true false r x h = absurd (omega arith)
all_pass true true true true true true true h = (refl, refl, refl)
all_pass true true true true true true false h = absurd (omega arith)
all_pass true true true true true false x h = absurd (omega arith)

-- terms whose classes pass are a table
pub tabled-of : (m : Lent) (c : State) → Sized m c → Classed (store_of m c) → Tabled m.terms c.terms
tabled-of m c s a = record { few = s.term_limited; room = s.term_room; classes = ready_roots m c a; forest = classed-forest (store_of m c) a }

-- THE ANSWERS

module _ (m : Lent) (l : List ℕ) (c : State) (d : Standing) (b : Bool) (q : b ≡ trail_sizes l d) where
  pub audit-few : b ≡ false → 1 ≡ audit_marks m l c d
  unfolding audit_marks
  audit-few z = sym (rw (right-false (sizes m c) (trail_sizes l d) (sym q ∙ z)))

  module _ (z : b ≡ true) (k : ℕ) (e : k ≡ audit m c) (w : Bool) (y : w ≡ within 3 k) where
    fits : trail_sizes l d ≡ true
    fits = sym q ∙ z

    pub trail-fits : TrailSized l d
    trail-fits = sized-trail l d fits

    found : within 3 (audit m c) ≡ w
    found = sym (y ∙ ap (within 3) e)

    pub audit-first : w ≡ true → k ≡ audit_marks m l c d
    unfolding audit audit_store audit_index audit_marks audit_trail
    audit-first h = e ∙ table-first (sizes m c) (trail_sizes l d) (records_rule (store_of m c)) (classes_rule (store_of m c)) (marks_rule (store_of m c) (trail_of l d)) (congruences_rule (store_of m c)) (index_rule m.terms (store_of m c)) fits (found ∙ h)

    module _ (h : w ≡ false) where
      pub audit_asks : Markable m.terms m.cells c
      unfolding within
      audit_asks = go (verdict m c) (found ∙ h)
        where
          facts : Sized m c → Recorded (store_of m c) → Classed (store_of m c) → Markable m.terms m.cells c
          facts s r a = record {
            tabled = tabled-of m c s a;
            parted = λ t f. every_map (λ x g. term-within m c x (string-term (store_of m c) x g)) (parts-strings (store_of m c) r t f);
          }

          go : {v : ℕ} → Verdict m c v → within 3 v ≡ false → Markable m.terms m.cells c
          go (ready r) n = facts r.sized r.audited.recorded r.audited.classed
          go (short f) n = absurd (false≢true (sym n))
          go (unrecorded s f) n = absurd (false≢true (sym n))
          go (unclassed s r f) n = absurd (false≢true (sym n))
          go (incongruent s r a f) n = facts s r a
          go (unindexed s a f) n = facts s a.recorded a.classed

      module _ (g : Bool) (f : g ≡ marks_rule (chained m.terms m.cells c) (trail_of l d)) where
        marks_are : marks_rule (store_of m c) (trail_of l d) ≡ g
        marks_are = rule_alone m c (trail_of l d) ∙ sym f

        pub audit_marks_lem : g ≡ false → 3 ≡ audit_marks m l c d
        unfolding audit audit_store audit_index audit_marks audit_trail
        audit_marks_lem n = marks-next (sizes m c) (trail_sizes l d) (records_rule (store_of m c)) (classes_rule (store_of m c)) (marks_rule (store_of m c) (trail_of l d)) (congruences_rule (store_of m c)) (index_rule m.terms (store_of m c)) fits (found ∙ h) (marks_are ∙ n)

        pub audit-last : g ≡ true → k ≡ audit_marks m l c d
        unfolding audit audit_store audit_index audit_marks audit_trail
        audit-last n = e ∙ table-last (sizes m c) (trail_sizes l d) (records_rule (store_of m c)) (classes_rule (store_of m c)) (marks_rule (store_of m c) (trail_of l d)) (congruences_rule (store_of m c)) (index_rule m.terms (store_of m c)) fits (found ∙ h) (marks_are ∙ n)
