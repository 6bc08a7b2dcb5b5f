-- The audit of marks over words: the copy, one table, the tables of all marks, and the answers of the audit.
use mathlib.Core.Path.{◌≡◌, refl, sym, ap, subst, ◌∙◌}
use mathlib.Core.Bool.{Bool, true, false, ◌&&◌}
use mathlib.Core.List.{List, [], ◌∷◌, ◌++◌}
use mathlib.Core.Option.{Option, none, some}
use Prim.Native.Nat.{ℕ, suc, ◌+◌, ◌-◌, ◌<◌, ◌≤◌}
use native.Mathlib.Omega.{arith}
use lib.ListN.{length, get_or, drop}
use lib.Seq.{drop-append-le, drop-append_seam, drop-length}
use Rattle.records.specs.declared.State.{State}
use Rattle.records.specs.Lists.{all, table, firsts, Every}
use Rattle.records.specs.Store.{Term, Store, term_in, term, chain, within, class_up}
use Rattle.records.specs.View.{Lent, store_of, terms_view, chained, termed}
use Rattle.records.specs.Rules.{classes_rule, congruences_rule}
use Rattle.records.specs.Working.Audited.{Closed, Classed, Congruable}
use Rattle.records.proofs.Lists.{and-stop, and-next, right-false, right-true, all_append, table-length, table-suc, table_add}
use Rattle.records.proofs.Views.{terms-agree}
use Rattle.records.proofs.Climbs.{view_count}
use Rattle.records.proofs.Passed.{classed-of}
use Rattle.classes.specs.declared.Standing.{Standing}
use Rattle.classes.specs.Joins.{Trace}
use Rattle.classes.specs.Marks.{Trail, trace_at, trail_of, undo_all, table_at, counts_rule, passes, marks_rule}
use Rattle.classes.specs.Working.Carries.{Forest, Undoes, Markable, Copied}
use Rattle.classes.proofs.Alike.{Like}
use Rattle.classes.proofs.Marking.{classes-alone, passes-alone}
use Rattle.classes.proofs.Undone.{undo-append, undone-stays}
use Rattle.classes.proofs.Refines.Trails.{Came, undoes_some, undoes_none}
use Rattle.classes.proofs.Refines.Counting.{counts_step}

-- THE COPY

-- the terms are those of the words copied
copied-terms : {l k₀ k : List ℕ} {n : ℕ} → Copied l k₀ k n → terms_view k n ≡ terms_view l n
copied-terms {l} {k₀} {k} {n} c = terms-agree l k n c.words

-- ONE TABLE

module _ (l e : List ℕ) (c : State) (h : Markable l e c) (b : Bool) (q : b ≡ classes_rule (termed l c)) where
  abbrev s : Store
  s = chained l e c

  seen : b ≡ classes_rule s
  seen = q ∙ classes-alone (terms_view l c.terms) s (termed l c)

  pub table-not : b ≡ false → b ≡ (classes_rule s && congruences_rule s)
  table-not z = z ∙ and-stop (classes_rule s) (congruences_rule s) (sym seen ∙ z)

  module _ (z : b ≡ true) where
    classed : Classed s
    classed = classed-of s (sym seen ∙ z)

    counted_in : (t : ℕ) → within c.terms t ≡ true → within (length (terms_view l c.terms)) t ≡ true
    counted_in t w = ap (λ (n : ℕ). within n t) (view_count l c.terms) ∙ w

    pub table_asks : Congruable l e c
    table_asks = record {
      pathed = record {
        limited = h.tabled.few;
        room = h.tabled.room;
        tops = record { stays = λ t w. ap (λ (n : ℕ). within n (term s t).forest_parent) (sym (view_count l c.terms)) ∙ classed.forest_parents t (counted_in t w) };
        ends = λ t w. classed.forest_ends t (counted_in t w);
      };
      parted = h.parted;
    }

    pub table_is : (r : Bool) → r ≡ congruences_rule s → r ≡ (classes_rule s && congruences_rule s)
    table_is r k = and-next (classes_rule s) (congruences_rule s) r (sym seen ∙ z) k

-- THE TABLES OF ALL MARKS

-- tests that agree
all_same : (p q : ℕ → Bool) → ((n : ℕ) → p n ≡ q n) → (l : List ℕ) → all p l ≡ all q l
unfolding all
all_same p q f [] = refl
all_same p q f (n ∷ l) = let a = f n in let b = all_same p q f l in cc

-- joins up to a count and those after it
joins-split : (f : ℕ → Trace) (first joins n : ℕ) → first ≤ joins → joins ≤ n → drop first (table f n) ≡ drop first (table f joins) ++ drop joins (table f n)
joins-split f first joins n h k =
    let e : n ≡ joins + (n - joins) = omega arith in
    let g : table f n ≡ table f joins ++ table (λ i. f (joins + i)) (n - joins) = ap (table f) e ∙ table_add f joins (n - joins) in
    let q = table-length f joins in
    let d : drop joins (table f n) ≡ table (λ i. f (joins + i)) (n - joins) = ap (drop joins) g ∙ ap (λ (i : ℕ). drop i (table f joins ++ table (λ i. f (joins + i)) (n - joins))) (sym q) ∙ drop-append_seam (table f joins) _ in
    ap (drop first) g ∙ drop-append-le first (table f joins) _ (omega arith) ∙ ap (λ (l : List Trace). drop first (table f joins) ++ l) (sym d)

-- the last of a table of numbers
all-last : (p : ℕ → Bool) (f : ℕ → ℕ) (m i : ℕ) → m ≡ suc i → all p (table f m) ≡ (all p (table f i) && p (f i))
unfolding all
all-last p f m i e = ap (λ (j : ℕ). all p (table f j)) e ∙ ap (all p) (table-suc f i) ∙ all_append p (table f i) (f i ∷ []) ∙ ap (λ (b : Bool). all p (table f i) && b) (and-true (p (f i)))
  where
    and-true : (b : Bool) → (b && true) ≡ b
    and-true true = refl
    and-true false = refl

module _ (l₀ e : List ℕ) (c : State) (marks : List ℕ) (m n : ℕ) where
  abbrev s₀ : Store
  s₀ = chained l₀ e c

  abbrev f : ℕ → ℕ
  f i = get_or marks i 0

  abbrev at : ℕ → Bool
  at k = passes s₀ (undo_all (drop k (table (trace_at marks) n)) s₀.terms)

  -- with i marks left: the table is the one when `joins` were recorded, and the marks after them pass
  pub record Auditing (l : List ℕ) (joins i : ℕ) : Type 0 where
    pub long : length l ≡ length l₀
    pub markable : Markable l e c
    pub fits : joins ≤ n
    pub counts : counts_rule (table f i) joins ≡ true
    pub is : undo_all (drop joins (table (trace_at marks) n)) s₀.terms ≡ some (terms_view l c.terms)
    pub left : all at (table f i) ≡ all at (table f m)

  pub auditing_begin : Markable l₀ e c → counts_rule (table f m) n ≡ true → Auditing l₀ n m
  unfolding undo_all
  auditing_begin h k = record {
    long = refl;
    markable = h;
    fits = omega arith;
    counts = k;
    is = ap (λ (x : List Trace). undo_all x s₀.terms) (ap (λ (j : ℕ). drop j (table (trace_at marks) n)) (sym (table-length (trace_at marks) n)) ∙ drop-length (table (trace_at marks) n));
    left = refl;
  }

  module _ {l : List ℕ} {joins j : ℕ} (a : Auditing l joins j) (i : ℕ) (h : 0 < j) (p : i ≡ j - 1) (first : ℕ) (q : first ≡ f i) where
    one_appended : j ≡ suc i
    one_appended = omega arith

    step : (counts_rule (table f i) (f i) ≡ true) × (f i ≤ joins)
    step = counts_step f j i joins one_appended a.counts

    pub first_low : first ≤ joins
    first_low = let k = step.1 in omega arith

    here : (o : Option (List Term)) → undo_all (drop first (table (trace_at marks) joins)) (terms_view l c.terms) ≡ o → undo_all (drop first (table (trace_at marks) n)) s₀.terms ≡ o
    here o g = ap (λ (x : List Trace). undo_all x s₀.terms) (joins-split (trace_at marks) first joins n first_low a.fits) ∙ undo-append (drop first (table (trace_at marks) joins)) (drop joins (table (trace_at marks) n)) s₀.terms (terms_view l c.terms) a.is ∙ g

    fails : at first ≡ false → false ≡ all at (table f m)
    fails g = sym (sym a.left ∙ all-last at f j i one_appended ∙ right-false (all at (table f i)) (at (f i)) (ap at (sym q) ∙ g))

    pub auditing_none : {l' : List ℕ} (r : Bool) → Undoes l l' c.terms (undo_all (drop first (table (trace_at marks) joins)) (terms_view l c.terms)) r → r ≡ false → false ≡ all at (table f m)
    auditing_none {l'} r u z = fails (ap (passes s₀) (here none (undoes_none (subst (Undoes l l' c.terms _) z u))))

    module _ {l' : List ℕ} (r : Bool) (u : Undoes l l' c.terms (undo_all (drop first (table (trace_at marks) joins)) (terms_view l c.terms)) r) (z : r ≡ true) where
      came : Came l l' c.terms (undo_all (drop first (table (trace_at marks) joins)) (terms_view l c.terms))
      came = undoes_some (subst (Undoes l l' c.terms _) z u)

      back : undo_all (drop first (table (trace_at marks) n)) s₀.terms ≡ some (terms_view l' c.terms)
      back = here (some (terms_view l' c.terms)) (came.is ∙ ap some (sym came.becomes.is))

      like : Like (terms_view l c.terms) (terms_view l' c.terms)
      like = (undone-stays (drop first (table (trace_at marks) joins)) (terms_view l c.terms) (terms_view l' c.terms) a.markable.tabled.forest (came.is ∙ ap some (sym came.becomes.is))).like

      pub auditing_asks : Markable l' e c
      auditing_asks = record {
        tabled = came.tabled;
        parted = λ t k. subst (λ (w : ℕ). Every (λ x. within c.terms x ≡ true) (firsts (chain s₀ w))) (sym (like.words (λ y. y.first) (record { edges = λ y e. refl; classes = λ y p. refl }) t)) (a.markable.parted t (sym (like.words (λ y. y.kind) (record { edges = λ y e. refl; classes = λ y p. refl }) t) ∙ k));
      }

      passing : at first ≡ (classes_rule (chained l' e c) && congruences_rule (chained l' e c))
      passing = ap (passes s₀) back ∙ passes-alone (some (terms_view l' c.terms)) (chained l' e c) s₀ refl

      module _ (b : Bool) (g : b ≡ (classes_rule (chained l' e c) && congruences_rule (chained l' e c))) where
        pub auditing_bad : b ≡ false → false ≡ all at (table f m)
        auditing_bad y = fails (passing ∙ sym g ∙ y)

        pub auditing_turn : b ≡ true → Auditing l' first i
        auditing_turn y = record {
          long = came.becomes.long ∙ a.long;
          markable = auditing_asks;
          fits = (let k = first_low in let w = a.fits in omega arith);
          counts = ap (counts_rule (table f i)) q ∙ step.0;
          is = back;
          left = sym (right-true (all at (table f i)) (at (f i)) (ap at (sym q) ∙ passing ∙ sym g ∙ y)) ∙ sym (all-last at f j i one_appended) ∙ a.left;
        }

  pub auditing_done : {l : List ℕ} {joins i : ℕ} → Auditing l joins i → i ≤ 0 → true ≡ all at (table f m)
  unfolding all table
  auditing_done {i = i} a h = (let e : i ≡ 0 = omega arith in ap (λ (j : ℕ). all at (table f j)) (sym e)) ∙ a.left

-- THE RULE

module _ (l e : List ℕ) (c : State) (marks : List ℕ) (d : Standing) where
  abbrev whole : Store
  whole = chained l e c

  abbrev trail : Trail
  trail = trail_of marks d

  abbrev each : Store → ℕ → Bool
  each t n = passes t (table_at n trail t.terms)

  module _ (b : Bool) (q : b ≡ counts_rule trail.marks d.joins) where
    counted : b ≡ counts_rule trail.marks (length trail.joins)
    counted = q ∙ ap (counts_rule trail.marks) (sym (table-length (trace_at marks) d.joins))

    pub marks-not : b ≡ false → false ≡ marks_rule whole trail
    unfolding marks_rule
    marks-not z = and-stop (counts_rule trail.marks (length trail.joins)) _ (sym counted ∙ z)

    module _ (z : b ≡ true) where
      tables_are : (r : Bool) → r ≡ all (each whole) trail.marks → r ≡ marks_rule whole trail
      unfolding marks_rule
      tables_are r k = and-next (counts_rule trail.marks (length trail.joins)) (all (each whole) trail.marks) r (sym counted ∙ z) k

      pub marks-none : d.marks ≡ 0 → true ≡ marks_rule whole trail
      unfolding all table
      marks-none k = tables_are true (sym (ap (λ (m : ℕ). all (each whole) (table (λ i. get_or marks i 0) m)) k))

      module _ {k₀ k : List ℕ} (w : Copied l k₀ k c.terms) where
        v : terms_view k c.terms ≡ terms_view l c.terms
        v = copied-terms w

        pub copy_markable : Markable l e c → Markable k e c
        copy_markable h = record {
          tabled = record {
            few = h.tabled.few;
            room = (let f = h.tabled.few in let g = w.long in omega arith);
            classes = subst (λ (ts : List Term). Closed (class_up ts) c.terms) (sym v) h.tabled.classes;
            forest = subst Forest (sym v) h.tabled.forest;
          };
          parted = subst (λ (ts : List Term). (t : ℕ) → (term_in ts t).kind ≡ 3 → Every (λ x. within c.terms x ≡ true) (firsts (chain whole (term_in ts t).first))) (sym v) h.parted;
        }

        pub marks-last : (r : Bool) → r ≡ all (each (chained k e c)) trail.marks → r ≡ marks_rule whole trail
        marks-last r y = tables_are r (y ∙ ap (λ (ts : List Term). all (λ n. passes (chained k e c) (table_at n trail ts)) trail.marks) v
            ∙ all_same (λ n. passes (chained k e c) (table_at n trail whole.terms)) (each whole) (λ n. passes-alone (table_at n trail whole.terms) whole (chained k e c) refl) trail.marks)

-- the rule reads the terms and the cells alone
pub rule_alone : (m : Lent) (c : State) (x : Trail) → marks_rule (store_of m c) x ≡ marks_rule (chained m.terms m.cells c) x
unfolding marks_rule
rule_alone m c x =
    ap (λ (b : Bool). counts_rule x.marks (length x.joins) && b)
    (all_same (λ n. passes (store_of m c) (table_at n x (terms_view m.terms c.terms))) (λ n. passes (chained m.terms m.cells c) (table_at n x (terms_view m.terms c.terms)))
    (λ n. passes-alone (table_at n x (terms_view m.terms c.terms)) (chained m.terms m.cells c) (store_of m c) refl) x.marks)
