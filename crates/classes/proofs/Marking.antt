-- The audit of marks: each call keeps it, and where it passes going back to a standing mark gives a table that passes.
use mathlib.Core.Path.{◌≡◌, refl, sym, ap, subst, ◌∙◌}
use mathlib.Core.Bool.{true, false≢true}
use mathlib.Core.List.{List, [], ◌∷◌}
use mathlib.Core.Option.{Option, none, some}
use Prim.Native.Nat.{ℕ, zero, suc, ◌-◌, ◌≤◌, ◌<◌}
use native.Mathlib.Omega.{arith}
use lib.ListN.{length, get_or, take, drop, length-append, take-append-drop}
use lib.Seq.{length-take-le, drop-length, drop-append-le}
use lib.Dec.{eqb, ltb, leb}
use borrow.Author.Tests.{ltb-true, ltb-false, leb-true, le-leb}
use Rattle.records.specs.Lists.{all, one_more, Every, none_left, and}
use Rattle.records.specs.Store.{Term, Cell, Store, within}
use Rattle.records.specs.Rules.{classes_rule, congruences_rule, parents_rule, ends_rule, alike_rule, alone_rule, label_rule, congruence_rule, pairs_of, falls_rule}
use Rattle.records.specs.Make.{with_terms, with_cells}
use Rattle.records.specs.Working.Audited.{Audited}
use Rattle.records.proofs.Lists.{both_left, both_right, both_true, decide, all_append, all_take, all_every, every_all, every_map, every_both, every_at, within_low, within-high}
use Rattle.records.proofs.Grown.{string-term}
use Rattle.records.proofs.Passed.{classed-of, classes-of, congruences_of, congruent_of}
use Rattle.classes.specs.Joins.{Trace, trace_of, join_in, undo_in}
use Rattle.classes.specs.Marks.{Trail, undo_all, table_at, rises, counts_rule, passes, marks_rule}
use Rattle.classes.specs.Calls.{recorded, joins_at, before}
use Rattle.classes.proofs.Alike.{Like, recorded-like, roomy-like}
use Rattle.classes.proofs.Undoing.{classed-forest, undo-join}
use Rattle.classes.proofs.Undone.{undo-append, undo-last, undone-stays}
use Rattle.classes.proofs.JoinKept.{Joinable}

-- COUNTS THAT DO NOT FALL

rises-low : (a b : ℕ) (l : List ℕ) → rises a l b ≡ true → a ≤ b
unfolding rises
rises-low a b [] e = leb-true a b e
rises-low a b (n ∷ l) e = let p = leb-true a n (both_left (leb a n) _ e) in let q = rises-low n b l (both_right (leb a n) _ e) in omega arith

rises_every : (a b : ℕ) (l : List ℕ) → rises a l b ≡ true → Every (λ n. n ≤ b) l
unfolding rises
rises_every a b [] e = none_left
rises_every a b (n ∷ l) e = let q = both_right (leb a n) _ e in and (rises-low n b l q) (rises_every n b l q)

rises-more : (a b c : ℕ) (l : List ℕ) → b ≤ c → rises a l b ≡ true → rises a l c ≡ true
unfolding rises
rises-more a b c [] h e = let p = leb-true a b e in le-leb a c (omega arith)
rises-more a b c (n ∷ l) h e = both_true _ _ (both_left (leb a n) _ e) (rises-more n b c l h (both_right (leb a n) _ e))

rises-last : (a b : ℕ) (l : List ℕ) → rises a l b ≡ true → rises a (one_more l b) b ≡ true
unfolding rises
rises-last a b [] e = both_true _ _ e (le-leb b b (omega arith))
rises-last a b (n ∷ l) e = both_true _ _ (both_left (leb a n) _ e) (rises-last n b l (both_right (leb a n) _ e))

rises-take : (a b k : ℕ) (l : List ℕ) → k < length l → rises a l b ≡ true → rises a (take k l) (get_or l k 0) ≡ true
unfolding rises
rises-take a b k [] h e = absurd (omega arith)
rises-take a b zero (n ∷ l) h e = both_left (leb a n) _ e
rises-take a b (suc k) (n ∷ l) h e = both_true _ _ (both_left (leb a n) _ e) (rises-take n b k l (omega arith) (both_right (leb a n) _ e))

-- no mark counts more joins than are recorded
pub counts-low : (b : ℕ) (l : List ℕ) → counts_rule l b ≡ true → Every (λ n. n ≤ b) l
unfolding counts_rule
counts-low b [] e = none_left
counts-low b (n ∷ l) e = let q = both_right (eqb n 0) _ e in and (rises-low n b l q) (rises_every n b l q)

counts-more : (b c : ℕ) (l : List ℕ) → 0 < length l → b ≤ c → counts_rule l b ≡ true → counts_rule l c ≡ true
unfolding counts_rule
counts-more b c [] k h e = absurd (omega arith)
counts-more b c (n ∷ l) k h e = both_true _ _ (both_left (eqb n 0) _ e) (rises-more n b c l h (both_right (eqb n 0) _ e))

counts-last : (b : ℕ) (l : List ℕ) → counts_rule l b ≡ true → counts_rule (one_more l b) b ≡ true
unfolding counts_rule rises
counts-last b [] e = both_true _ _ e (le-leb b b (omega arith))
counts-last b (n ∷ l) e = both_true _ _ (both_left (eqb n 0) _ e) (rises-last n b l (both_right (eqb n 0) _ e))

pub counts-take : (b k : ℕ) (l : List ℕ) → k < length l → counts_rule l b ≡ true → counts_rule (take k l) (get_or l k 0) ≡ true
unfolding counts_rule
counts-take b k [] h e = absurd (omega arith)
counts-take b zero (n ∷ l) h e = both_left (eqb n 0) _ e
counts-take b (suc k) (n ∷ l) h e = both_true _ _ (both_left (eqb n 0) _ e) (rises-take n b k l (omega arith) (both_right (eqb n 0) _ e))

-- WHAT THE RULES READ

-- refusals 3 and 4 read the terms and the cells alone
pub classes-alone : (ts : List Term) (s s' : Store) → classes_rule (with_terms s' ts) ≡ classes_rule (with_terms s ts)
unfolding classes_rule parents_rule ends_rule alike_rule label_rule alone_rule
classes-alone ts s s' = refl

congruences-alone : (ts : List Term) (s s' : Store) → s'.cells ≡ s.cells → congruences_rule (with_terms s' ts) ≡ congruences_rule (with_terms s ts)
unfolding congruences_rule congruence_rule pairs_of falls_rule
congruences-alone ts s s' e = ap (λ (cs : List Cell). congruences_rule (with_terms (with_cells s cs) ts)) e

pub passes-alone : (o : Option (List Term)) (s s' : Store) → s'.cells ≡ s.cells → passes s' o ≡ passes s o
passes-alone none s s' e = refl
passes-alone (some ts) s s' e = let p = classes-alone ts s s' in let q = congruences-alone ts s s' e in cc

-- THE RULE OF MARKS

-- the rule reads of the store all but its table
passes_at : (s : Store) (us : List Term) (o o' : Option (List Term)) → o' ≡ o → passes s o ≡ true → passes (with_terms s us) o' ≡ true
passes_at s us o o' e h = subst (λ (p : Option (List Term)). passes (with_terms s us) p ≡ true) (sym e) (go o h)
  where
    go : (p : Option (List Term)) → passes s p ≡ true → passes (with_terms s us) p ≡ true
    go none h = h
    go (some ts) h = h

pub passes-whole : (s : Store) → Audited s → passes s (some s.terms) ≡ true
passes-whole s a = both_true _ _ (classes-of s a.classed) (congruent_of s a.congruences)

module _ (s : Store) (x : Trail) (h : marks_rule s x ≡ true) where
  pub counts_of : counts_rule x.marks (length x.joins) ≡ true
  unfolding marks_rule
  counts_of = both_left (counts_rule x.marks (length x.joins)) _ h

  pub passes_of : all (λ n. passes s (table_at n x s.terms)) x.marks ≡ true
  unfolding marks_rule
  passes_of = both_right (counts_rule x.marks (length x.joins)) _ h

-- what is left of the rule where a join is recorded: undoing it leads back to the table
module _ (s : Store) (ts : List Term) (y : Trace) (x : Trail) (undo : undo_in ts y ≡ some s.terms) (h : marks_rule s x ≡ true) where
  abbrev more : Trail
  more = record { marks = x.marks; joins = one_more x.joins y }

  pub rule_more : 0 < length x.marks → marks_rule (with_terms s ts) more ≡ true
  unfolding marks_rule
  rule_more k =
      let e = length-append x.joins (y ∷ []) in
      both_true _ _ (counts-more (length x.joins) (length more.joins) x.marks k (omega arith) (counts_of s x h))
      (every_all (every_map (λ n q. passes_at s ts _ _ (ap (λ (l : List Trace). undo_all l ts) (drop-append-le n x.joins (y ∷ []) q.0) ∙ undo-last (drop n x.joins) y ts s.terms undo) q.1)
      (every_both (counts-low (length x.joins) x.marks (counts_of s x h)) (all_every _ _ (passes_of s x h)))))

  rule_none : length x.marks ≡ 0 → marks_rule (with_terms s ts) x ≡ true
  unfolding marks_rule all
  rule_none e = both_true _ _ (counts_of s x h) (go x.marks e)
    where
      go : (l : List ℕ) → length l ≡ 0 → all (λ n. passes (with_terms s ts) (table_at n x ts)) l ≡ true
      go [] e = refl
      go (n ∷ l) e = absurd (omega arith)

  rule_recorded : marks_rule (with_terms s ts) (recorded y x) ≡ true
  rule_recorded = decide (ltb 0 (length x.marks)) (λ e. rw e (rule_more (ltb-true 0 _ e))) (λ e. rw e (rule_none (let k = ltb-false 0 (length x.marks) e in omega arith)))

-- joining
pub rule_join : (s : Store) (x : Trail) (a b k v : ℕ) → Audited s → Joinable s a b k v → marks_rule s x ≡ true
    → marks_rule (with_terms s (join_in s.terms a b k v)) (recorded (trace_of s.terms a) x) ≡ true
rule_join s x a b k v au j h = rule_recorded s _ (trace_of s.terms a) x (undo-join s au.classed a b k v (string-term s a j.one) j.apart) h

-- setting a mark
pub rule_mark : (s : Store) (x : Trail) → Audited s → marks_rule s x ≡ true → marks_rule s (record { marks = one_more x.marks (length x.joins); joins = x.joins }) ≡ true
unfolding marks_rule all undo_all
rule_mark s x au h =
    both_true _ _ (counts-last (length x.joins) x.marks (counts_of s x h))
    (all_append _ x.marks _ ∙ both_true _ _ (passes_of s x h) (both_true _ _ (subst (λ (l : List Trace). passes s (undo_all l s.terms) ≡ true) (sym (drop-length x.joins)) (passes-whole s au)) refl))

-- GOING BACK

-- where undoing joins leads that the rule holds a mark to: the same terms, and a table that the audit lets pass
pub record Earlier (s : Store) (l : List Trace) : Type 0 where
  pub table : List Term
  pub is : undo_all l s.terms ≡ some table
  pub like : Like s.terms table
  pub audited : Audited (with_terms s table)

pub earlier : (s : Store) (l : List Trace) → Audited s → passes s (undo_all l s.terms) ≡ true → Earlier s l
earlier s l au h = go (undo_all l s.terms) refl h
  where
    go : (o : Option (List Term)) → undo_all l s.terms ≡ o → passes s o ≡ true → Earlier s l
    go none e p = absurd (false≢true p)
    go (some us) e p =
        let k = (undone-stays l s.terms us (classed-forest s au.classed) e).like in
        record {
          table = us;
          is = e;
          like = k;
          audited = record {
            roomy = roomy-like s us k au.roomy;
            recorded = recorded-like s us k au.recorded;
            classed = classed-of _ (both_left _ _ p);
            congruences = congruences_of _ (both_right (classes_rule (with_terms s us)) _ p);
          };
        }

-- where going back to mark i leads, and that the marks before i are left
pub record Back (s : Store) (x : Trail) (i : ℕ) : Type 0 where
  pub table : List Term
  pub is : table_at (joins_at i x) x s.terms ≡ some table
  pub like : Like s.terms table
  pub audited : Audited (with_terms s table)
  pub marks : marks_rule (with_terms s table) (before i x) ≡ true

module _ (s : Store) (x : Trail) (h : marks_rule s x ≡ true) (i : ℕ) (w : within (length x.marks) i ≡ true) where
  abbrev n : ℕ
  n = joins_at i x

  place : i - 1 < length x.marks
  place = let p = within_low _ i w in let q = within-high _ i w in omega arith

  pub n-low : n ≤ length x.joins
  n-low = every_at x.marks (i - 1) 0 (counts-low (length x.joins) x.marks (counts_of s x h)) place

  n-joins : length (take n x.joins) ≡ n
  n-joins = length-take-le n x.joins n-low

  pub n-passes : passes s (table_at n x s.terms) ≡ true
  n-passes = every_at x.marks (i - 1) 0 (all_every _ _ (passes_of s x h)) place

  pub counts-before : counts_rule (take (i - 1) x.marks) n ≡ true
  counts-before = counts-take (length x.joins) (i - 1) x.marks place (counts_of s x h)

  module _ (us : List Term) (e : table_at n x s.terms ≡ some us) where
    -- what is left leads to the tables of earlier marks as the whole did
    pub table_before : (m : ℕ) → m ≤ n → table_at m (before i x) us ≡ table_at m x s.terms
    table_before m l =
        sym (undo-append (drop m (take n x.joins)) (drop n x.joins) s.terms us e)
        ∙ ap (λ (k : List Trace). undo_all k s.terms) (sym (drop-append-le m (take n x.joins) (drop n x.joins) (let q = n-joins in omega arith)) ∙ ap (drop m) (take-append-drop n x.joins))

    marks-before : marks_rule (with_terms s us) (before i x) ≡ true
    unfolding marks_rule
    marks-before =
        both_true _ _ (subst (λ (k : ℕ). counts_rule (take (i - 1) x.marks) k ≡ true) (sym n-joins) counts-before)
        (every_all (every_map (λ m q. passes_at s us _ _ (table_before m q.0) q.1) (every_both (counts-low n (take (i - 1) x.marks) counts-before) (all_every _ _ (all_take _ (i - 1) x.marks (passes_of s x h))))))

  pub rule_back : Audited s → Back s x i
  rule_back au =
      let g = earlier s (drop n x.joins) au n-passes in
      record { table = g.table; is = g.is; like = g.like; audited = g.audited; marks = marks-before g.table g.is }
