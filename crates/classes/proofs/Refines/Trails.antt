-- The words lent for marks: their sizes, a join or a mark recorded, and joins undone one after the other.
use mathlib.Core.Path.{◌≡◌, refl, sym, ap, subst, ◌∙◌}
use mathlib.Core.Bool.{Bool, true, false, ◌&&◌}
use mathlib.Core.List.{List, [], ◌∷◌}
use mathlib.Core.Option.{Option, none, some}
use Prim.Native.Nat.{ℕ, suc, ◌+◌, ◌-◌, ◌*◌, ◌<◌, ◌≤◌}
use native.Mathlib.Omega.{arith}
use lib.ListN.{length, get_or, set, drop, length-set}
use lib.Seq.{get_or-set_same, get_or-set_other, drop-append-le, drop-length}
use lib.Dec.{eqb, ltb, leb}
use borrow.Author.Tests.{eqb-true, eqb-false, le-leb, le-ltb, lt-ltb, ltb-false, leb-true}
use Rattle.records.specs.Lists.{table, one_more}
use Rattle.records.specs.Store.{Term}
use Rattle.records.specs.View.{terms_view}
use Rattle.records.proofs.Lists.{and-next, both_left, both_right, both_true, or_left, or_right, decide, clash, table_same, table-length, table-suc}
use Rattle.classes.specs.declared.Standing.{Standing}
use Rattle.classes.specs.Joins.{Trace, trace, undo_in}
use Rattle.classes.specs.Marks.{Trail, trace_place, trace_at, trail_of, trail_sizes, undo_all, mark_limit, join_limit}
use Rattle.classes.specs.Calls.{recorded, is_counted}
use Rattle.classes.specs.Working.Carries.{TermsBecome, Tabled, Undoes, undone, no_table, TrailSized, Trailed}
use Rattle.classes.proofs.Undone.{undo-append, undo-stops}
use Rattle.classes.proofs.Refines.CarryWords.{becomes-then}

-- SIZES

module _ (l : List ℕ) (d : Standing) where
  pub sizes-last : d.marks ≤ mark_limit → d.joins ≤ join_limit → leb 1597 (length l) ≡ trail_sizes l d
  unfolding trail_sizes
  sizes-last h k = and-next (leb d.marks mark_limit && leb d.joins join_limit) (leb 1597 (length l)) _ (both_true _ _ (le-leb _ _ h) (le-leb _ _ k)) refl

  pub sized-trail : trail_sizes l d ≡ true → TrailSized l d
  unfolding trail_sizes
  sized-trail e =
      let p = both_left (leb d.marks mark_limit && leb d.joins join_limit) (leb 1597 (length l)) e in
      record { few_marks = leb-true _ _ (both_left (leb d.marks mark_limit) _ p); few_joins = leb-true _ _ (both_right (leb d.marks mark_limit) _ p); room = leb-true 1597 (length l) (both_right (leb d.marks mark_limit && leb d.joins join_limit) _ e) }

  pub trail_sized : TrailSized l d → trail_sizes l d ≡ true
  trail_sized s = sym (sizes-last s.few_marks s.few_joins) ∙ le-leb _ _ s.room

-- RECORDING

-- a word that is not counted: above the marks, and before or after the joins
pub above-marks : (d : Standing) (i : ℕ) → is_counted d i ≡ false → d.marks ≤ i
above-marks d i h = decide (ltb i d.marks) (λ t. clash (or_left _ _ t) h) (ltb-false i d.marks)

pub above-joins : (d : Standing) (i : ℕ) → is_counted d i ≡ false → mark_limit ≤ i → mark_limit + 3 * d.joins ≤ i
above-joins d i h k =
    decide (ltb i (trace_place d.joins 0)) (λ t. clash (or_right (ltb i d.marks) _ (both_true _ _ (le-leb mark_limit i k) t)) h)
    (λ t. let q = ltb-false i (trace_place d.joins 0) t in omega arith)

module _ (l : List ℕ) (d : Standing) (s : TrailSized l d) where
  abbrev none_more : Trail
  none_more = trail_of l d

  -- no mark stands: nothing is recorded
  pub record-none : (y : Trace) → d.marks ≡ 0 → Trailed l l (recorded y none_more) d
  record-none y e =
      let q = table-length (λ i. get_or l i 0) d.marks in
      record { is = sym (rw (le-ltb 0 (length none_more.marks) (omega arith))); rest = λ i h. refl; long = refl }

  module _ (child old under : ℕ) (fits : d.joins < join_limit) where
    abbrev at : ℕ
    at = mark_limit + 3 * d.joins

    abbrev put : List ℕ
    put = set (set (set l at child) (at + 1) old) (at + 2) under

    abbrev one_join : Standing
    one_join = record { marks = d.marks; joins = d.joins + 1 }

    put_long : length put ≡ length l
    put_long = simp length-set refl

    put_away : (i : ℕ) → (at ≤ i → at + 2 < i) → get_or put i 0 ≡ get_or l i 0
    put_away i z =
        get_or-set_other (set (set l at child) (at + 1) old) (at + 2) i under 0 (λ e. let k = z (omega arith) in omega arith)
        ∙ get_or-set_other (set l at child) (at + 1) i old 0 (λ e. let k = z (omega arith) in omega arith)
        ∙ get_or-set_other l at i child 0 (λ e. let k = z (omega arith) in omega arith)

    put_first_lem : get_or put at 0 ≡ child
    put_first_lem =
        get_or-set_other (set (set l at child) (at + 1) old) (at + 2) at under 0 (λ e. omega arith)
        ∙ get_or-set_other (set l at child) (at + 1) at old 0 (λ e. omega arith)
        ∙ get_or-set_same l at child 0 (let r = s.room in omega arith)

    put_second : get_or put (at + 1) 0 ≡ old
    put_second =
        get_or-set_other (set (set l at child) (at + 1) old) (at + 2) (at + 1) under 0 (λ e. omega arith)
        ∙ get_or-set_same (set l at child) (at + 1) old 0 (let r = s.room in simp length-set (omega arith))

    put_third : get_or put (at + 2) 0 ≡ under
    put_third = get_or-set_same (set (set l at child) (at + 1) old) (at + 2) under 0 (let r = s.room in simp length-set (omega arith))

    trace_here : trace_at put d.joins ≡ trace child old under
    trace_here =
        let e : mark_limit + 3 * d.joins + 0 ≡ at = omega arith in
        let p = ap (λ (k : ℕ). get_or put k 0) e ∙ put_first_lem in
        let q = put_second in
        let r = put_third in cc

    trace_away : (j : ℕ) → j < d.joins → trace_at put j ≡ trace_at l j
    trace_away j h =
        let p = put_away (mark_limit + 3 * j + 0) (λ k. absurd (omega arith)) in
        let q = put_away (mark_limit + 3 * j + 1) (λ k. absurd (omega arith)) in
        let r = put_away (mark_limit + 3 * j + 2) (λ k. absurd (omega arith)) in cc

    pub record_one : (d.marks ≡ 0 → ⊥) → Trailed l put (recorded (trace child old under) none_more) one_join
    record_one h =
        let q = table-length (λ i. get_or l i 0) d.marks in
        let m = s.few_marks in
        record {
          is = read (table_same (λ i. get_or put i 0) (λ i. get_or l i 0) d.marks (λ i k. put_away i (λ z. absurd (omega arith)))) ∙ sym (rw (lt-ltb 0 (length none_more.marks) (some_mark q h)));
          rest = λ i k. put_away i (λ z. let a = above-joins one_join i k (omega arith) in omega arith);
          long = put_long;
        }
      where
        some_mark : length none_more.marks ≡ d.marks → (d.marks ≡ 0 → ⊥) → 0 < length none_more.marks
        some_mark e z = decide (eqb d.marks 0) (λ t. absurd (z (eqb-true _ _ t))) (λ t. let k = eqb-false d.marks 0 t in omega (arith, e, k))

        joins_are : table (trace_at put) (d.joins + 1) ≡ one_more (table (trace_at l) d.joins) (trace child old under)
        joins_are =
            ap (table (trace_at put)) (let e : d.joins + 1 ≡ suc d.joins = omega arith in e) ∙ table-suc (trace_at put) d.joins
            ∙ ap (λ (k : List Trace). one_more k (trace_at put d.joins)) (table_same (trace_at put) (trace_at l) d.joins trace_away) ∙ ap (one_more (table (trace_at l) d.joins)) trace_here

        read : table (λ i. get_or put i 0) d.marks ≡ table (λ i. get_or l i 0) d.marks → trail_of put one_join ≡ record { marks = none_more.marks; joins = one_more none_more.joins (trace child old under) }
        read e = let f = joins_are in cc

  -- a mark: its word is the count of joins
  module _ (fits : d.marks < mark_limit) where
    abbrev marked : List ℕ
    marked = set l d.marks d.joins

    abbrev one_mark : Standing
    one_mark = record { marks = d.marks + 1; joins = d.joins }

    marked_away : (i : ℕ) → (i ≡ d.marks → ⊥) → get_or marked i 0 ≡ get_or l i 0
    marked_away i z = get_or-set_other l d.marks i d.joins 0 z

    pub record_mark : Trailed l marked (record { marks = one_more none_more.marks (length none_more.joins); joins = none_more.joins }) one_mark
    record_mark = record {
      is = read (table_same (trace_at marked) (trace_at l) d.joins trace_away);
      rest = λ i k. marked_away i (λ e. let a = above-marks one_mark i k in omega arith);
      long = length-set l d.marks d.joins;
    }
      where
        trace_away : (j : ℕ) → j < d.joins → trace_at marked j ≡ trace_at l j
        trace_away j h =
            let p = marked_away (mark_limit + 3 * j + 0) (λ e. omega arith) in
            let q = marked_away (mark_limit + 3 * j + 1) (λ e. omega arith) in
            let r = marked_away (mark_limit + 3 * j + 2) (λ e. omega arith) in cc

        marks_are : table (λ i. get_or marked i 0) (d.marks + 1) ≡ one_more (table (λ i. get_or l i 0) d.marks) d.joins
        marks_are =
            ap (table (λ i. get_or marked i 0)) (let e : d.marks + 1 ≡ suc d.marks = omega arith in e) ∙ table-suc (λ i. get_or marked i 0) d.marks
            ∙ ap (λ (k : List ℕ). one_more k (get_or marked d.marks 0)) (table_same (λ i. get_or marked i 0) (λ i. get_or l i 0) d.marks (λ i h. marked_away i (λ e. omega arith)))
            ∙ ap (one_more (table (λ i. get_or l i 0) d.marks)) (get_or-set_same l d.marks d.joins 0 (let r = s.room in omega arith))

        read : table (trace_at marked) d.joins ≡ table (trace_at l) d.joins → trail_of marked one_mark ≡ record { marks = one_more none_more.marks (length none_more.joins); joins = none_more.joins }
        read e = let f = marks_are in let g = table-length (trace_at l) d.joins in cc

-- UNDOING

pub record Came (l l' : List ℕ) (n : ℕ) (o : Option (List Term)) : Type 0 where
  pub table_is : List Term
  pub is : o ≡ some table_is
  pub becomes : TermsBecome l l' n table_is
  pub tabled : Tabled l' n

pub undoes_none : {l l' : List ℕ} {n : ℕ} {o : Option (List Term)} → Undoes l l' n o false → o ≡ none
undoes_none (no_table b t) = refl

pub undoes_some : {l l' : List ℕ} {n : ℕ} {o : Option (List Term)} → Undoes l l' n o true → Came l l' n o
undoes_some (undone {ts = ts} b t) = record { table_is = ts; is = refl; becomes = b; tabled = t }

-- whatever the answer, the terms are a table
undoes_tabled : {l l' : List ℕ} {n : ℕ} {o : Option (List Term)} {r : Bool} → Undoes l l' n o r → TermsBecome l l' n (terms_view l' n) × Tabled l' n
undoes_tabled {l} {l'} {n} (undone b t) = (subst (TermsBecome l l' n) (sym b.is) b, t)
undoes_tabled {l} {l'} {n} (no_table b t) = (subst (TermsBecome l l' n) (sym b.is) b, t)

pub undoes_is : {l l' : List ℕ} {n : ℕ} {o p : Option (List Term)} {r : Bool} → o ≡ p → Undoes l l' n p r → Undoes l l' n o r
undoes_is {l} {l'} {n} {r = r} e u = subst (λ (x : Option (List Term)). Undoes l l' n x r) (sym e) u

-- with j joins left, what is left to undo gives what the whole gives
pub record Backward (l₀ l : List ℕ) (n : ℕ) (marks : List ℕ) (joins first j : ℕ) : Type 0 where
  pub low : first ≤ j
  pub high : j ≤ joins
  pub until : TermsBecome l₀ l n (terms_view l n)
  pub tabled : Tabled l n
  pub left : undo_all (drop first (table (trace_at marks) joins)) (terms_view l₀ n) ≡ undo_all (drop first (table (trace_at marks) j)) (terms_view l n)

module _ {l₀ l : List ℕ} {n : ℕ} {marks : List ℕ} {joins first j : ℕ} (b : Backward l₀ l n marks joins first j) where
  pub backward_done : j ≤ first → Undoes l₀ l n (undo_all (drop first (table (trace_at marks) joins)) (terms_view l₀ n)) true
  unfolding undo_all
  backward_done h =
      let e : first ≡ length (table (trace_at marks) j) = sym (table-length (trace_at marks) j ∙ (let k = b.low in omega arith)) in
      undoes_is (b.left ∙ ap (λ (k : ℕ). undo_all (drop k (table (trace_at marks) j)) (terms_view l n)) e ∙ ap (λ (k : List Trace). undo_all k (terms_view l n)) (drop-length (table (trace_at marks) j)))
      (undone b.until b.tabled)

  module _ {i : ℕ} (h : first < j) (e : i ≡ j - 1) where
    last-first : drop first (table (trace_at marks) j) ≡ one_more (drop first (table (trace_at marks) i)) (trace_at marks i)
    last-first =
        ap (λ (k : ℕ). drop first (table (trace_at marks) k)) (let q : j ≡ suc i = omega arith in q) ∙ ap (drop first) (table-suc (trace_at marks) i)
        ∙ drop-append-le first (table (trace_at marks) i) _ (let q = table-length (trace_at marks) i in omega arith)

    pub backward_stop : {l' : List ℕ} (r : Bool) → Undoes l l' n (undo_in (terms_view l n) (trace_at marks i)) r → r ≡ false → Undoes l₀ l' n (undo_all (drop first (table (trace_at marks) joins)) (terms_view l₀ n)) false
    unfolding undo_all
    backward_stop {l'} r u z =
        let v = undoes_none (subst (Undoes l l' n (undo_in (terms_view l n) (trace_at marks i))) z u) in
        undoes_is (b.left ∙ ap (λ (k : List Trace). undo_all k (terms_view l n)) last-first ∙ undo-stops (drop first (table (trace_at marks) i)) (trace_at marks i ∷ []) (terms_view l n) v)
        (no_table (becomes-then b.until (undoes_tabled u).0) (undoes_tabled u).1)

    pub backward_turn : {l' : List ℕ} (r : Bool) → Undoes l l' n (undo_in (terms_view l n) (trace_at marks i)) r → r ≡ true → Backward l₀ l' n marks joins first i
    unfolding undo_all
    backward_turn {l'} r u z =
        let c = undoes_some (subst (Undoes l l' n (undo_in (terms_view l n) (trace_at marks i))) z u) in
        record {
          low = omega arith;
          high = (let k = b.high in omega arith);
          until = subst (TermsBecome l₀ l' n) (sym c.becomes.is) (becomes-then b.until c.becomes);
          tabled = c.tabled;
          left = b.left ∙ ap (λ (k : List Trace). undo_all k (terms_view l n)) last-first ∙ undo-append (drop first (table (trace_at marks) i)) (trace_at marks i ∷ []) (terms_view l n) c.table_is c.is
              ∙ ap (undo_all (drop first (table (trace_at marks) i))) (sym c.becomes.is);
        }
