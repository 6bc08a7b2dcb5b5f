-- Document 02, Note 1: the words lent for marks, going back to a mark, and the audit of marks.
use Rattle.std.specs.Prelude.{Bool, false, ◌&&◌, List, [], ◌∷◌, ℕ, ◌+◌, ◌*◌, length, get_or, drop, eqb, leb, if◌then◌else◌}
use Rattle.std.proofs.Math.Option.{Option, none, some}
use Rattle.records.specs.declared.State.{State}
use Rattle.records.specs.Lists.{all, table}
use Rattle.records.specs.Store.{Term, Store}
use Rattle.records.specs.View.{Lent, store_of, sizes}
use Rattle.records.specs.Rules.{records_rule, classes_rule, congruences_rule, audit_index, first_due}
use Rattle.records.specs.Make.{with_terms}
use Rattle.classes.specs.declared.Standing.{Standing}
use Rattle.classes.specs.Joins.{Trace, trace, undo_in}

-- THE TRAIL

-- for each standing mark, in the order set, how many joins were recorded when it was set; and the joins recorded since the first of
-- them, in order
pub record Trail : Type 0 where
  pub marks : List ℕ
  pub joins : List Trace

-- 'At most 64 marks stand'
abbrev pub mark_limit : ℕ
mark_limit = 64

-- a join makes one class of two, so 512 terms have at most 511
abbrev pub join_limit : ℕ
join_limit = 511

-- the place of word k of a join: the marks first, then three words for each join, its child, its old root, the class root put under
abbrev pub trace_place : ℕ → ℕ → ℕ
trace_place j k = mark_limit + 3 * j + k

abbrev pub trace_at : List ℕ → ℕ → Trace
trace_at l j = trace (get_or l (trace_place j 0) 0) (get_or l (trace_place j 1) 0) (get_or l (trace_place j 2) 0)

-- what is counted of the words lent for marks
abbrev pub trail_of : List ℕ → Standing → Trail
trail_of l d = record { marks = table (λ i. get_or l i 0) d.marks; joins = table (trace_at l) d.joins }

-- refusal 1: 'a count above its limit, or a slice too short' for all that it may come to hold
unfoldable pub trail_sizes : List ℕ → Standing → Bool
trail_sizes l d = leb d.marks mark_limit && leb d.joins join_limit && leb (trace_place join_limit 0) (length l)

-- GOING BACK

-- joins undone, the last first; none where a record is no trace of a join
unfoldable pub undo_all : List Trace → List Term → Option (List Term)
undo_all [] ts = some ts
undo_all (x ∷ l) ts = elim (undo_all l ts) [ none ↦ none | some us ↦ undo_in us x ]

-- the table as it was when n joins were recorded, with what was appended since
abbrev pub table_at : ℕ → Trail → List Term → Option (List Term)
table_at n x ts = undo_all (drop n x.joins) ts

-- THE AUDIT OF MARKS

-- numbers from a to b that do not fall
unfoldable pub rises : ℕ → List ℕ → ℕ → Bool
rises a [] b = leb a b
rises a (n ∷ l) b = leb a n && rises n l b

-- joins are recorded from the first mark on, and only where one stands
unfoldable pub counts_rule : List ℕ → ℕ → Bool
counts_rule [] b = eqb b 0
counts_rule (n ∷ l) b = eqb n 0 && rises n l b

-- a table that refusals 3 and 4 let pass
abbrev pub passes : Store → Option (List Term) → Bool
passes s none = false
passes s (some ts) = classes_rule (with_terms s ts) && congruences_rule (with_terms s ts)

-- 'where going back would give a table that fails, refusal 3': every standing mark is held to it
unfoldable pub marks_rule : Store → Trail → Bool
marks_rule s x = counts_rule x.marks (length x.joins) && all (λ n. passes s (table_at n x s.terms)) x.marks

-- 'Words lent for marks are audited': 0, or the first refusal of 1 to 4 and 12 that is due; 3 is the table's or the marks', before 4
unfoldable pub audit_trail : Store → Trail → ℕ
audit_trail s x = if records_rule s then (if classes_rule s && marks_rule s x then (if congruences_rule s then 0 else 4) else 3) else 2

unfoldable pub audit_marks : Lent → List ℕ → State → Standing → ℕ
audit_marks m l c d = if sizes m c && trail_sizes l d then first_due (audit_trail (store_of m c) (trail_of l d)) (audit_index m.terms (store_of m c)) else 1
