-- Where a list of calls begins: words lent for store and marks that pass the audit.
use mathlib.Core.Path.{◌≡◌, refl, sym, ap, subst, ◌∙◌}
use mathlib.Core.Bool.{true}
use mathlib.Core.List.{List, [], ◌∷◌}
use Prim.Native.Nat.{ℕ, zero, suc, ◌-◌, ◌≤◌, ◌<◌}
use native.Mathlib.Omega.{arith}
use lib.ListN.{length, get_or}
use Rattle.records.specs.declared.State.{State}
use Rattle.records.specs.Lists.{table, none_left}
use Rattle.records.specs.Store.{Store, within}
use Rattle.records.specs.Make.{with_terms}
use Rattle.records.specs.View.{Lent, store_of}
use Rattle.records.proofs.Lists.{within_low, within-high, table-length}
use Rattle.classes.specs.declared.Standing.{Standing}
use Rattle.classes.specs.Marks.{Trail, mark_limit, join_limit, trace_at, trail_of, table_at, audit_marks}
use Rattle.classes.specs.Working.Doing.{ReadyMarks}
use Rattle.classes.proofs.Marking.{Back, rule_back}
use Rattle.classes.proofs.ReadyMarks.{marks-ready, marks_tracked}
use Rattle.history.specs.History.{standing_marks, start, cut_at, marked_at, standing, Separate, Generated, itself}
use Rattle.history.proofs.Appended.{nothing}
use Rattle.history.proofs.Events.{marks_in}
use Rattle.history.proofs.Generating.{Divides}
use Rattle.history.proofs.Worlds.{Holds}

-- THE MARKS THAT STAND

marks-standing : (s : Store) (x : Trail) (ms : List ℕ) → marks_in (standing_marks s x ms) ≡ length ms
unfolding marks_in standing_marks
marks-standing s x [] = refl
marks-standing s x (n ∷ ms) = ap suc (marks-standing s x ms)

marked-standing : (s : Store) (x : Trail) (ms : List ℕ) (i : ℕ) → 0 < i → i ≤ length ms → marked_at i (standing_marks s x ms) ≡ table_at (get_or ms (i - 1) 0) x s.terms
unfolding marked_at standing_marks
marked-standing s x [] i a b = absurd (omega arith)
marked-standing s x (n ∷ ms) zero a b = absurd (omega arith)
marked-standing s x (n ∷ ms) (suc zero) a b = refl
marked-standing s x (n ∷ ms) (suc (suc i)) a b =
    let e : suc i - 1 ≡ i = omega arith in
    let f : suc (suc i) - 1 ≡ suc i = omega arith in
    marked-standing s x ms (suc i) (omega arith) (omega arith) ∙ ap (λ (k : ℕ). table_at (get_or ms k 0) x s.terms) e ∙ ap (λ (k : ℕ). table_at (get_or (n ∷ ms) k 0) x s.terms) (sym f)

-- nothing is asked of the division
abbrev pub Anything : Store → List (ℕ × ℕ) → Type 0
Anything s l = Unit {0}

module _ (m : Lent) (l : List ℕ) (c : State) (d : Standing) (z : audit_marks m l c d ≡ 0) where
  abbrev s : Store
  s = store_of m c

  abbrev x : Trail
  x = trail_of l d

  passed : ReadyMarks m l c d
  passed = marks-ready z

  few : (length x.marks ≤ mark_limit) × (length x.joins ≤ join_limit)
  few =
      let a = passed.trail.few_marks in
      let b = passed.trail.few_joins in
      let e = table-length (λ i. get_or l i 0) d.marks in
      let f = table-length (trace_at l) d.joins in
      (omega arith, omega arith)

  -- whatever is asked of the division, where it holds of the store and of the table of each mark
  start-holds : {D : Store → List (ℕ × ℕ) → Type 0}
      → ((i : ℕ) → within (length x.marks) i ≡ true → (g : Back s x i) → D (with_terms s g.table) (standing (cut_at i (standing_marks s x x.marks)))) → D s (standing (standing_marks s x x.marks))
      → Holds D (start s x)
  start-holds f k =
      let t = marks_tracked passed in
      record {
        audited = t.audited;
        marked = t.marked;
        limit = omega arith;
        marks_fit = few.0;
        joins_fit = few.1;
        counts = marks-standing s x x.marks;
        each = λ i q. let g = rule_back s x t.marked i q t.audited in
            record { at = g.table; was = marked-standing s x x.marks i (within_low _ i q) (within-high _ i q) ∙ g.is; table = g.table; is = g.is; appended = nothing; divided = f i q g };
        divided = k;
      }

  pub start_any : Holds Anything (start s x)
  start_any = start-holds (λ i q g. tt) tt

  no_marks : d.marks ≡ 0 → x.marks ≡ []
  unfolding table
  no_marks e = rw e

  pub start_separate : d.marks ≡ 0 → Separate s → Holds Divides (start s x)
  unfolding standing standing_marks
  start_separate e k =
      let n = no_marks e in
      start-holds
      (λ i q g. let a = within_low _ i q in let b = within-high _ i q in let f = ap length n in absurd (omega arith))
      (subst (λ (ms : List ℕ). Divides s (standing (standing_marks s x ms))) (sym n)
      (record { terms = none_left; together = none_left; made = λ t u wt wu r. subst (λ (y : ℕ). Generated [] t y) (k.alone t u wt wu r) itself }))
