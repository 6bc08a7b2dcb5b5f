-- Going back restores every word: undoing a join gives the table before it.
use mathlib.Core.Path.{◌≡◌, refl, sym, ap, ◌∙◌}
use mathlib.Core.Bool.{true, not}
use mathlib.Core.List.{List}
use mathlib.Core.Option.{some}
use Prim.Native.Nat.{ℕ, suc}
use lib.ListN.{length}
use borrow.Author.Tests.{eq-eqb, ne_eqb}
use Rattle.records.specs.Store.{Term, Store, within, is_term, climb, class_up, forest_up, root_in, top_in, root, above_in}
use Rattle.records.specs.Working.Audited.{Closed, Classed}
use Rattle.records.proofs.Lists.{both_true, every_mem}
use Rattle.records.proofs.Climbs.{top-self, classed_tops, root-term, top-term}
use Rattle.records.proofs.Paths.{above_within, above-top}
use Rattle.records.proofs.Rises.{rise-by}
use Rattle.records.proofs.Append.{climb-same}
use Rattle.classes.specs.Joins.{no_edge, edge_of, put_class, turns, reroot_in, link_in, join_in, trace_of, is_trace, cut_in, undo_in}
use Rattle.classes.specs.Working.Carries.{Forest}
use Rattle.classes.proofs.Tables.{edge-long, edge_here, edge-words, edge-again, class-long, class-here, class-words, class-again}
use Rattle.classes.proofs.Turning.{rise-above, Rerooted, turned-way}

-- what refusal 3 asks of the forest
pub classed-forest : (s : Store) → Classed s → Forest s.terms
classed-forest s c = record {
  closed = classed_tops s c;
  ended = c.forest_ends;
  unlabelled = λ t w e. let u = c.roots t w (ap not (eq-eqb _ _ e)) in let p = u.kind_is in let q = u.value_is in let r = u.stamp_is in cc;
}

-- RE-ROOTING

module _ (ts : List Term) (f : Forest ts) (a : ℕ) (w : within (length ts) a ≡ true) where
  pub rerooted : Rerooted ts (reroot_in ts a) a (above_in ts a)
  rerooted = turned-way ts f.closed f.unlabelled (rise-by ts (length ts) a (f.ended a w)) w

  -- the old root is a's, and a term
  old-top : rerooted.old ≡ top_in ts a
  old-top = sym (top-self ts rerooted.old rerooted.root_of_old) ∙ every_mem (above-top ts f.closed f.ended (suc (length ts)) a w) rerooted.old_in

  old-within : within (length (reroot_in ts a)) rerooted.old ≡ true
  old-within = ap (λ (n : ℕ). within n rerooted.old) rerooted.long ∙ every_mem (above_within ts (length ts) (suc (length ts)) a f.closed w) rerooted.old_in

  -- re-rooted at the old root, the table is as it was
  pub reroot_back : reroot_in (reroot_in ts a) (top_in ts a) ≡ ts
  reroot_back = ap (reroot_in (reroot_in ts a)) (sym old-top) ∙ ap (λ (l : List ℕ). turns l (reroot_in ts a)) (rise-above rerooted.closed old-within rerooted.rises) ∙ rerooted.back

-- A CLASS PARENT CHANGED

module _ (ts : List Term) (r q : ℕ) (w : within (length ts) r ≡ true) where
  -- the forest is as it was
  pub class_up_lem : (t : ℕ) → forest_up (put_class ts r q) t ≡ forest_up ts t
  class_up_lem = class-words ts r q w (λ x. x.forest_parent) (λ x. refl)

  pub class-top : Closed (forest_up ts) (length ts) → (t : ℕ) → within (length ts) t ≡ true → top_in (put_class ts r q) t ≡ top_in ts t
  class-top c t h = ap (λ (n : ℕ). climb (forest_up (put_class ts r q)) n t) (class-long ts r q) ∙ climb-same (length ts) _ (forest_up ts) c (λ u i. class_up_lem u) (length ts) t h

  class-within : (t : ℕ) → within (length (put_class ts r q)) t ≡ within (length ts) t
  class-within t = ap (λ (n : ℕ). within n t) (class-long ts r q)

  pub class-forest : Forest ts → Forest (put_class ts r q)
  class-forest f = record {
    closed = record { stays = λ t h. class-within _ ∙ ap (within (length ts)) (class_up_lem t) ∙ f.closed.stays t (sym (class-within t) ∙ h) };
    ended = λ t h. let i = sym (class-within t) ∙ h in let e = class-top f.closed t i in class_up_lem _ ∙ ap (forest_up ts) e ∙ f.ended t i ∙ sym e;
    unlabelled = λ t h e. class-words ts r q w edge_of (λ x. refl) t ∙ f.unlabelled t (sym (class-within t) ∙ h) (sym (class_up_lem t) ∙ e);
  }

-- A JOIN UNDONE

module _ (ts : List Term) (f : Forest ts) (a b k v : ℕ) (wa : within (length ts) a ≡ true) (wr : within (length ts) (root_in ts a) ≡ true)
    (self : class_up ts (root_in ts a) ≡ root_in ts a) (apart : root_in ts a ≡ root_in ts b → ⊥) where
  abbrev put : List Term
  put = put_class ts (root_in ts a) (root_in ts b)

  wa' : within (length put) a ≡ true
  wa' = ap (λ (n : ℕ). within n a) (class-long ts _ _) ∙ wa

  turned : Rerooted put (reroot_in put a) a (above_in put a)
  turned = rerooted put (class-forest ts _ _ wr f) a wa'

  wa'' : within (length (reroot_in put a)) a ≡ true
  wa'' = ap (λ (n : ℕ). within n a) turned.long ∙ wa'

  length_is_lem : length (link_in put a b k v) ≡ length ts
  length_is_lem = edge-long (reroot_in put a) a _ ∙ turned.long ∙ class-long ts _ _

  cut-is : cut_in (link_in put a b k v) (trace_of ts a) ≡ ts
  cut-is =
      ap (λ (us : List Term). put_class (reroot_in us (top_in ts a)) (root_in ts a) (root_in ts a)) (edge-again (reroot_in put a) a wa'' _ (no_edge a) (sym turned.here))
      ∙ ap (λ (t : ℕ). put_class (reroot_in (reroot_in put a) t) (root_in ts a) (root_in ts a)) (sym (class-top ts _ _ wr f.closed a wa))
      ∙ ap (λ (us : List Term). put_class us (root_in ts a) (root_in ts a)) (reroot_back put (class-forest ts _ _ wr f) a wa')
      ∙ class-again ts (root_in ts a) wr (root_in ts b) (root_in ts a) (sym self)

  -- the class parent of the old class root
  class-is : class_up (link_in put a b k v) (root_in ts a) ≡ root_in ts b
  class-is = edge-words (reroot_in put a) a _ wa'' (λ x. x.class_parent) (λ x. refl) (root_in ts a) ∙ turned.words (λ x. x.class_parent) (λ x e. refl) (root_in ts a) ∙ ap (λ (x : Term). x.class_parent) (class-here ts _ (root_in ts b) wr)

  trace_is : within (length ts) (top_in ts a) ≡ true → is_trace (link_in put a b k v) (trace_of ts a) ≡ true
  unfolding is_trace
  trace_is wt = both_true _ _ (both_true _ _ (both_true _ _ (both_true _ _ (in_it a wa) (in_it (top_in ts a) wt)) (in_it (root_in ts a) wr))
      (ap not (ne_eqb _ _ (λ e. apart (ap (root_in ts) (sym e ∙ ap (λ (x : Term). x.forest_parent) (edge_here (reroot_in put a) a _ wa''))))))) (ap not (ne_eqb _ _ (λ e. apart (sym e ∙ class-is))))
    where
      in_it : (t : ℕ) → within (length ts) t ≡ true → within (length (link_in put a b k v)) t ≡ true
      in_it t w = ap (λ (n : ℕ). within n t) length_is_lem ∙ w

  pub undone : within (length ts) (top_in ts a) ≡ true → undo_in (join_in ts a b k v) (trace_of ts a) ≡ some ts
  unfolding undo_in join_in
  undone wt = rw (trace_is wt) (ap some cut-is)

-- 'going back restores every word'
pub undo-join : (s : Store) → Classed s → (a b k v : ℕ) → is_term s a ≡ true → (root s a ≡ root s b → ⊥) → undo_in (join_in s.terms a b k v) (trace_of s.terms a) ≡ some s.terms
undo-join s c a b k v w d = undone s.terms (classed-forest s c) a b k v w (root-term s c a w) (c.class_ends a w) d (top-term s c a w)
