-- A store that grew under the same marks: the marks pass again, and the table of each is what it was, with the terms appended since behind it.
use mathlib.Core.Path.{◌≡◌, refl, sym, ap, subst, ◌∙◌}
use mathlib.Core.Bool.{true}
use mathlib.Core.List.{List, [], ◌∷◌, ◌++◌, append_assoc, append-nil}
use mathlib.Core.Option.{Option, none, some}
use Prim.Native.Nat.{ℕ, suc}
use native.Mathlib.Omega.{arith}
use lib.ListN.{length, drop, length-append}
use lib.Seq.{drop-append_seam}
use Rattle.records.specs.Lists.{one_more}
use Rattle.records.specs.Store.{Term, Cell, Store, count, within}
use Rattle.records.specs.Make.{own, with_names, with_terms}
use Rattle.records.specs.Working.Audited.{Audited}
use Rattle.records.proofs.Lists.{both_true, all_every, every_all, every_map}
use Rattle.records.proofs.Append.{grow, More, New, longer, kept-audited}
use Rattle.records.proofs.Beside.{beside}
use Rattle.records.proofs.Kept.{names-audited}
use Rattle.records.proofs.LaterStores.{Extended, as_was, one_term_more, counter, others}
use Rattle.classes.specs.Joins.{Trace, undo_in}
use Rattle.classes.specs.Marks.{Trail, undo_all, table_at, passes, marks_rule}
use Rattle.classes.specs.Calls.{gives, joins_at, before, go_back}
use Rattle.classes.specs.Working.Carries.{Forest}
use Rattle.classes.proofs.AlikeMade.{more-like, new-like}
use Rattle.classes.proofs.Undoing.{classed-forest}
use Rattle.classes.proofs.Appending.{undo-more}
use Rattle.classes.proofs.Undone.{undo-each, undone-stays}
use Rattle.classes.proofs.Marking.{passes-alone, passes-whole, counts_of, passes_of, earlier, n-passes}
use Rattle.classes.proofs.Tracking.{back-goes}

-- TERMS APPENDED

-- terms from number n on, each its own class and its own tree
pub data Alone : ℕ → List Term → Type 0 where
  no_more : {n : ℕ} → Alone n []
  one_appended : {n : ℕ} {l : List Term} (k a b : ℕ) → Alone (suc n) l → Alone n (own n k a b ∷ l)

-- what holds of a table and holds on with one term more that is alone, holds with all of them
pub alone-each : {n : ℕ} {more : List Term} (P : List Term → Type 0) → ((us : List Term) (k a b : ℕ) → P us → P (one_more us (own (suc (length us)) k a b))) → Alone n more
    → (us : List Term) → suc (length us) ≡ n → P us → P (us ++ more)
alone-each P f no_more us e h = subst P (sym (append-nil us)) h
alone-each {n} P f (one_appended {l = l} k a b p) us e h =
    let x = own n k a b in
    subst P (append_assoc us (x ∷ []) l)
    (alone-each P f p (one_more us x) (let q = length-append us (x ∷ []) in omega arith) (subst (λ (m : ℕ). P (one_more us (own m k a b))) e (f us k a b h)))

-- the terms that a later store has more
abbrev pub since : Store → Store → List Term
since s s' = drop (count s) s'.terms

pub record MoreTerms (s s' : Store) : Type 0 where
  pub terms : s'.terms ≡ s.terms ++ since s s'
  pub alone : Alone (suc (count s)) (since s s')

more_by : (s s' : Store) (more : List Term) → s'.terms ≡ s.terms ++ more → Alone (suc (count s)) more → MoreTerms s s'
more_by s s' more e p =
    let q : since s s' ≡ more = ap (drop (count s)) e ∙ drop-append_seam s.terms more in
    record { terms = e ∙ ap (λ (l : List Term). s.terms ++ l) (sym q); alone = subst (Alone (suc (count s))) (sym q) p }

pub more-terms : {s s' : Store} → Extended s s' → MoreTerms s s'
more-terms {s} as_was = more_by s s [] (sym (append-nil s.terms)) no_more
more-terms {s} {s'} (one_term_more {ds = ds} {hs = hs} {k = k} {a = a} {b = b} m n p) =
    let x = own (suc (count s)) k a b in
    let s₁ = grow s ds hs k a b in
    let q = more-terms p in
    more_by s s' (x ∷ since s₁ s') (q.terms ∙ append_assoc s.terms (x ∷ []) (since s₁ s'))
    (one_appended k a b (subst (λ (j : ℕ). Alone (suc j) (since s₁ s')) (longer s ds hs k a b) q.alone))
more-terms {s} {s'} (counter m p) = let q = more-terms p in record { terms = q.terms; alone = q.alone }
more-terms {s} {s'} (others rs ks a p) = let q = more-terms p in record { terms = q.terms; alone = q.alone }

-- JOINS UNDONE

-- undoing goes the same way with more terms behind, and what is left is a forest
abbrev Both : List Term → List Term → List Trace → List Term → Type 0
Both ts more l us = Forest us × (undo_all l (ts ++ more) ≡ some (us ++ more))

-- 'Terms appended since then stay'
pub undo_all-more : (l : List Trace) (ts us more : List Term) → Forest ts → undo_all l ts ≡ some us → undo_all l (ts ++ more) ≡ some (us ++ more)
unfolding undo_all
undo_all-more l ts us more f e = (undo-each (Both ts more) (f, refl) one l us e).1
  where
    one : (x : Trace) (l : List Trace) (us vs : List Term) → Both ts more l us → undo_in us x ≡ some vs → Both ts more (x ∷ l) vs
    one x l us vs h q =
        ((undone-stays (x ∷ []) us vs h.0 q).forest, ap (λ (o : Option (List Term)). elim o [ none ↦ none | some ws ↦ undo_in ws x ]) h.1 ∙ undo-more us more vs x h.0 q)

-- THE MARKS

-- the table of a mark, in a store and in a later one
pub record LaterTable (s s' : Store) (x : Trail) (n : ℕ) : Type 0 where
  pub table : List Term
  pub was : table_at n x s.terms ≡ some table
  pub is : table_at n x s'.terms ≡ some (table ++ since s s')

pub table-later : {s s' : Store} → Audited s → Extended s s' → (x : Trail) (n : ℕ) → passes s (table_at n x s.terms) ≡ true → LaterTable s s' x n
table-later {s} {s'} au p x n h =
    let g = earlier s (drop n x.joins) au h in
    record {
      table = g.table;
      was = g.is;
      is = ap (table_at n x) (more-terms p).terms ∙ undo_all-more (drop n x.joins) s.terms g.table (since s s') (classed-forest s au.classed) g.is;
    }

-- 'going back restores every word of the terms counted at the mark', and 'Terms appended since then stay, each alone'
pub back-later : {s s' : Store} → Audited s → Extended s s' → (x : Trail) → marks_rule s x ≡ true → (i : ℕ) → within (length x.marks) i ≡ true → LaterTable s s' x (joins_at i x)
back-later {s} au p x h i w = table-later au p x (joins_at i x) (n-passes s x h i w)

pub goes_later : {s s' : Store} {x : Trail} (i : ℕ) → within (length x.marks) i ≡ true → (k : LaterTable s s' x (joins_at i x)) → go_back i s' x ≡ gives (with_terms s' (k.table ++ since s s')) (before i x) i
goes_later {s} {s'} {x} i w k = back-goes i s' x (k.table ++ since s s') w k.is

-- a rule of all tables
rule_each : (s s' : Store) (x : Trail) → ((l : List Trace) → passes s (undo_all l s.terms) ≡ true → passes s' (undo_all l s'.terms) ≡ true) → marks_rule s x ≡ true → marks_rule s' x ≡ true
unfolding marks_rule
rule_each s s' x f h = both_true _ _ (counts_of s x h) (every_all (every_map (λ n q. f (drop n x.joins) q) (all_every _ _ (passes_of s x h))))

-- one term more
rule_grow : (s : Store) (ds : List Cell) (hs : List ℕ) (k a b : ℕ) → Audited s → More s ds hs → New s ds hs k a b → (l : List Trace) → passes s (undo_all l s.terms) ≡ true
    → passes (grow s ds hs k a b) (undo_all l (grow s ds hs k a b).terms) ≡ true
rule_grow s ds hs k a b au m n l h =
    let g = earlier s l au h in
    let us = g.table in
    let q = kept-audited (with_terms s us) ds hs k a b g.audited (more-like s us g.like ds hs k a b m) (new-like s us g.like ds hs k a b n) in
    let x = own (suc (count s)) k a b in
    subst (λ (o : Option (List Term)). passes (grow s ds hs k a b) o ≡ true)
    (ap (λ (j : ℕ). some (one_more us (own (suc j) k a b))) g.like.long ∙ sym (undo_all-more l s.terms us (x ∷ []) (classed-forest s au.classed) g.is))
    (passes-whole (grow (with_terms s us) ds hs k a b) q)

-- marks that pass go on passing while the store grows
pub marks-later : {s s' : Store} (x : Trail) → Audited s → marks_rule s x ≡ true → Extended s s' → marks_rule s' x ≡ true
marks-later x au h as_was = h
marks-later {s} x au h (one_term_more {ds = ds} {hs = hs} {k = k} {a = a} {b = b} m n p) =
    marks-later x (kept-audited s ds hs k a b au m n) (rule_each s _ x (rule_grow s ds hs k a b au m n) h) p
marks-later {s} x au h (counter m p) = marks-later x (names-audited s m au) (rule_each s (with_names s m) x (λ l q. passes-alone (undo_all l s.terms) s (with_names s m) refl ∙ q) h) p
marks-later {s} x au h (others rs ks a p) = marks-later x a (rule_each s (beside s rs ks s.names) x (λ l q. passes-alone (undo_all l s.terms) s (beside s rs ks s.names) refl ∙ q) h) p
