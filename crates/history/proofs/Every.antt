-- Each call keeps what holds of a world, and so does every list of them.
use mathlib.Core.Path.{◌≡◌, refl, sym, subst, ◌∙◌}
use mathlib.Core.Bool.{Bool, true, ◌&&◌}
use mathlib.Core.List.{List, [], ◌∷◌}
use mathlib.Core.Option.{some}
use Prim.Native.Nat.{ℕ}
use lib.ListN.{length}
use lib.Dec.{leb}
use borrow.Author.Tests.{leb-true}
use Rattle.records.specs.Lists.{all, one_more}
use Rattle.records.specs.Store.{Store, Out, ok, stop, Work, root, within}
use Rattle.records.specs.Rules.{reason_rule, list_limit, is_list}
use Rattle.records.specs.Make.{with_terms, with_reasons, constant_arguments, make_constant, variable_arguments, make_variable, concat_arguments, make_concat, length_arguments, make_length, equation_arguments, make_equation}
use Rattle.records.specs.Calls.{checked}
use Rattle.records.specs.Working.Audited.{Audited}
use Rattle.records.proofs.Lists.{both_left, both_right, decide}
use Rattle.records.proofs.ListLaws.{list-strings}
use Rattle.records.proofs.Works.{stop-not, branch}
use Rattle.records.proofs.Beside.{audited-beside}
use Rattle.records.proofs.LaterStores.{Extended, as_was, others, Later, later-none, later_made, later_added}
use Rattle.records.proofs.Doing.{constant-fit, variable-fit, concat-fit, length-fit, equation-fit}
use Rattle.engine.specs.Explain.{find, find_arguments, explain, explain_arguments}
use Rattle.engine.proofs.Sound.{explain_gave}
use Rattle.normalize.specs.Normalize.{normal_form, deep_form, form_arguments}
use Rattle.normalize.proofs.Formed.{form-kept}
use Rattle.normalize.proofs.Deep.{deep_kept}
use Rattle.sides.specs.Wordeq.{resolve, resolve_arguments, nf_explain, nf_arguments, is_guard}
use Rattle.wordeq.specs.Calls.{equal_arguments, equal_lists}
use Rattle.sides.proofs.Resolve.{resolve-gives}
use Rattle.sides.proofs.Equal.{explain-equal-gives}
use Rattle.equation.specs.Equation.{step, step_arguments}
use Rattle.equation.proofs.Sound.{step_gives}
use Rattle.empties.specs.Empties.{empty_parts}
use Rattle.empties.proofs.EmptyParts.{parts-later}
use Rattle.forced.specs.Forced.{forced_length}
use Rattle.forced.proofs.ForcedLength.{forced_gives}
use Rattle.classes.specs.Calls.{Outcome, gives, join_terms, go_back, before}
use Rattle.classes.proofs.JoinKept.{join-like}
use Rattle.classes.proofs.Tracking.{of-tracked, back-goes, Joining, wrong, together, joins, Marking, full, marks, marking}
use Rattle.classes.proofs.Tracking as tracking
use Rattle.history.specs.History.{World, joining, moved, cut_at, marked, Kept, Divided}
use Rattle.history.specs.Calls.{Call, constant, variable, concat, length_of_term, equation, find_root, explain_pair_call, form, deep_form_call, equal, equal_explain, resolve_lists, one_step, empty_parts_call, forced_length_call, join, set_mark_call, go_back_call, ask, worked, listing, asked, after, run, begin, EveryList}
use Rattle.history.proofs.Appended.{later-is}
use Rattle.history.proofs.Generating.{generated_same, Divides, divides-join, divides-later}
use Rattle.history.proofs.Worlds.{Dividing, Holds, at-like, holds_later, holds_join, holds_mark, holds_back}
use Rattle.history.proofs.Olds.{Keeping, keeping_none, keeping-then, keeping-like, keeping-later}
use Rattle.history.proofs.Beginning.{Anything, start_any, start_separate}

-- what a call does: it keeps what holds, and terms keep what they are
pub record Goes (D : Store → List (ℕ × ℕ) → Type 0) (w w' : World) : Type 0 where
  pub holds : Holds D w'
  pub keeping : Keeping w.store.terms w'.store.terms

module _ {D : Store → List (ℕ × ℕ) → Type 0} (keep : Dividing D) (w : World) (h : Holds D w) where
  abbrev s : Store
  s = w.store

  stays : Goes D w w
  stays = record { holds = h; keeping = keeping_none s.terms }

  -- CALLS OVER THE STORE

  goes_later : {A : Type 0} (o : Out A) → ((s' : Store) (a : A) → o ≡ ok s' a → Later s s') → Goes D w (worked w o)
  goes_later (ok s' a) f = let k = f s' a refl in record { holds = holds_later keep w h s' k.extended k.audited k.room; keeping = keeping-later k.extended }
  goes_later (stop k) f = stays

  goes-checked : {A : Type 0} (fit : Bool) (work : Work A) → (fit ≡ true → (s' : Store) (a : A) → work s ≡ ok s' a → Later s s') → Goes D w (worked w (checked fit work s))
  goes-checked fit work f = goes_later (checked fit work s) (λ s' a. branch fit work (λ y. stop 5) (λ e. f e s' a) (λ e q. stop-not q))

  goes-listing : {A : Type 0} (k : List ℕ) (fit : Store → Bool) (work : Work A) → (fit s ≡ true → (s' : Store) (a : A) → work s ≡ ok s' a → Later s s') → Goes D w (worked w (listing k fit work s))
  goes-listing k fit work f = decide (leb list_limit (length k)) (λ e. rw e (goes-checked (fit s) work f)) (λ e. rw e stays)

  -- the store as it was
  same : {A : Type 0} {o : Out A} (s₁ : Store) {a : A} → s₁ ≡ s → o ≡ ok s₁ a → (s' : Store) (b : A) → o ≡ ok s' b → Later s s'
  same s₁ e p s' b q = let i : s₁ ≡ s' = cc in subst (Later s) (sym e ∙ i) (later-none h.audited)

  goes-ask : (rs : List (ℕ × ℕ)) → Goes D w (worked w (asked rs s))
  goes-ask rs = decide (all reason_rule rs && leb (length rs) s.room.reasons) (λ e. rw e (record { holds = holds_later keep w h (with_reasons s rs) (grew e) (after e) refl; keeping = keeping_none s.terms })) (λ e. rw e stays)
    where
      after : (all reason_rule rs && leb (length rs) s.room.reasons) ≡ true → Audited (with_reasons s rs)
      after e =
          audited-beside s rs s.keys s.names h.audited (both_left (all reason_rule rs) _ e) h.audited.recorded.keys (leb-true (length rs) s.room.reasons (both_right (all reason_rule rs) _ e))
          h.audited.roomy.keys

      grew : (all reason_rule rs && leb (length rs) s.room.reasons) ≡ true → Extended s (with_reasons s rs)
      grew e = others rs s.keys (after e) as_was

  -- CALLS OVER THE MARKS

  goes-join : (a b k v : ℕ) → Goes D w (moved w (joining a b w.history) (join_terms a b k v s w.trail))
  goes-join a b k v = record { holds = holds_join keep w h a b k v; keeping = go (tracking.joining a b k v s w.trail) }
    where
      go : {o : Outcome} → Joining a b k v s w.trail o → Keeping s.terms (moved w (joining a b w.history) o).store.terms
      go wrong = keeping_none s.terms
      go (together e) = keeping_none s.terms
      go (joins j) = keeping-like (join-like s a b k v h.audited j)

  goes_mark : Goes D w (after set_mark_call w)
  unfolding after
  goes_mark = record { holds = holds_mark keep w h; keeping = go (marking s w.trail) }
    where
      go : {o : Outcome} → Marking s w.trail o → Keeping s.terms (moved w (λ n. one_more w.history (marked (some s.terms))) o).store.terms
      go full = keeping_none s.terms
      go (marks l) = keeping_none s.terms

  goes_back : (i : ℕ) → Goes D w (moved w (λ n. cut_at i w.history) (go_back i s w.trail))
  unfolding go_back
  goes_back i = record {
    holds = holds_back keep w h i;
    keeping = decide (within (length w.trail.marks) i)
        (λ q. subst (λ (o : Outcome). Keeping s.terms (moved w (λ n. cut_at i w.history) o).store.terms) (sym (back-goes i s w.trail _ q (h.each i q).is)) (keeping-like (at-like keep w h i q)))
        (λ q. rw q (keeping_none s.terms));
  }

  -- EACH CALL

  strings : (l r : List ℕ) → equal_arguments l r s ≡ true → (is_list s l ≡ true) × (is_list s r ≡ true)
  strings l r e = (both_left (is_list s l) _ e, both_right (is_list s l) _ e)

  pub goes : (f : Call) → Goes D w (after f w)
  unfolding after find equal_lists
  goes (constant u) = goes-checked (constant_arguments u s) (make_constant u) (λ e s' t q. later_made (constant-fit s s' t h.audited u e q))
  goes (variable u) = goes-checked (variable_arguments u s) (make_variable u) (λ e s' t q. later_made (variable-fit s s' t h.audited u e q))
  goes (concat l) = goes-checked (concat_arguments l s) (make_concat l) (λ e s' t q. later_made (concat-fit s s' t h.audited l e q))
  goes (length_of_term a) = goes-checked (length_arguments a s) (make_length a) (λ e s' t q. later_made (length-fit s s' t h.audited a e q))
  goes (equation a b) = goes-checked (equation_arguments a b s) (make_equation a b) (λ e s' t q. later_made (equation-fit s s' t h.audited a b e q))
  goes (find_root t) = goes-checked (find_arguments t s) (find t) (λ e s' a q. same s refl refl s' a q)
  goes (explain_pair_call a b) = goes-checked (explain_arguments a b s) (explain a b) (λ e s' u q. let g = explain_gave s h.audited a b e s' u q in later_added g.added g.audited)
  goes (form known t k) = goes-listing k (form_arguments known t) (normal_form known t) (λ e s' l q. form-kept known t s h.audited e s' l q)
  goes (deep_form_call known t k) = goes-listing k (form_arguments known t) (deep_form known t) (λ e s' o q. deep_kept known t s h.audited e s' o q)
  goes (equal l r) = goes-checked (equal_arguments l r s) (equal_lists l r) (λ e s' b q. same s refl refl s' b q)
  goes (equal_explain l r) = goes-checked (nf_arguments l r s) (nf_explain l r) (λ e s' u q.
      let b = strings l r (both_left (equal_arguments l r s) _ e) in
      let g = explain-equal-gives l r s h.audited (list-strings s l b.0) (list-strings s r b.1) s' u q in later_added g.added g.audited)
  goes (resolve_lists l r g k) = goes-listing k (resolve_arguments l r g) (resolve l r g) (λ e s' x q.
      let b = strings l r (both_left (equal_arguments l r s) (is_guard g) e) in
      (resolve-gives l r g s h.audited (list-strings s l b.0) (list-strings s r b.1) s' x q).later)
  goes (one_step known e g k) = goes-listing k (step_arguments known e g) (step known e g) (λ i s' x q. (step_gives known e g s h.audited i s' x q).later)
  goes (empty_parts_call l r k) = goes-listing k (equal_arguments l r) (empty_parts l r) (λ e s' x q. parts-later l r s s' x h.audited q)
  goes (forced_length_call l r) = goes-checked (equal_arguments l r s) (forced_length l r) (λ e s' x q. same s' (forced_gives l r s s' x q).gives.same_store q s' x q)
  goes (join a b k v) = goes-join a b k v
  goes set_mark_call = goes_mark
  goes (go_back_call i) = goes_back i
  goes (ask rs) = goes-ask rs

-- EVERY LIST

pub goes-run : {D : Store → List (ℕ × ℕ) → Type 0} → Dividing D → (l : List Call) (w : World) → Holds D w → Goes D w (run l w)
unfolding run
goes-run keep [] w h = record { holds = h; keeping = keeping_none w.store.terms }
goes-run keep (f ∷ l) w h =
    let p = goes keep w h f in
    let q = goes-run keep l (after f w) p.holds in
    record { holds = q.holds; keeping = keeping-then p.keeping q.keeping }

pub asks_nothing : Dividing Anything
asks_nothing = record { grows = λ s s' us l a k p d. tt; joined = λ s a b k v l au j d. tt }

kept : {w₀ w : World} → Goes Anything w₀ w → Kept w₀ w
kept {w₀} {w} g =
    let h = g.holds in
    let s = w.store in
    let x = w.trail in
    record {
      audited = of-tracked s x (record { audited = h.audited; marked = h.marked });
      fits = record {
        terms = h.audited.roomy.terms;
        cells = h.audited.roomy.cells;
        chars = h.audited.roomy.chars;
        reasons = h.audited.roomy.reasons;
        keys = h.audited.roomy.keys;
        limit = h.limit;
        marks = h.marks_fit;
        joins = h.joins_fit;
      };
      old = g.keeping.same;
      restores = λ i q. let y = h.each i q in
          record {
            table = y.at;
            was = y.was;
            is = back-goes i s x y.table q y.is ∙ ap_table i (later-is y.appended (at-like asks_nothing w h i q));
          };
    }
  where
    ap_table : (i : ℕ) {us vs : List _} → us ≡ vs → gives (with_terms w.store us) (before i w.trail) i ≡ gives (with_terms w.store vs) (before i w.trail) i
    ap_table i e = cc

divided : (w : World) → Holds Divides w → Divided w
divided w h = record { made = h.divided.made; together = λ t u g. generated_same (root w.store) h.divided.together g }

pub every_list : EveryList
every_list = record {
  keeps = λ m l c d z calls. kept (goes-run asks_nothing calls (begin m l c d) (start_any m l c d z));
  divides = λ m l c d z n k calls. divided _ (goes-run (record { grows = divides-later; joined = λ s a b i v p au j q. divides-join s au a b i v j p q }) calls (begin m l c d) (start_separate m l c d z n k)).holds;
}
