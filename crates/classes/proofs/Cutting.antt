-- Undoing a join: what the numbers of a trace say of the table, and what is left of the table.
use mathlib.Core.Path.{◌≡◌, refl, sym, ap, subst, ◌∙◌}
use mathlib.Core.Bool.{Bool, true, not, ◌&&◌}
use mathlib.Core.List.{List}
use mathlib.Core.Option.{Option, none, some}
use Prim.Native.Nat.{ℕ, zero, suc}
use native.Mathlib.Decide.{ℕ_discrete}
use native.Mathlib.Omega.{arith}
use lib.ListN.{length}
use lib.Dec.{eqb}
use borrow.Author.Tests.{eqb-false, ne_eqb, not-true}
use Rattle.records.specs.Store.{Term, term_in, within, climb, class_up, forest_up, top_in}
use Rattle.records.specs.Working.Audited.{Closed}
use Rattle.records.proofs.Lists.{decide, both_left, both_right, both_true}
use Rattle.records.proofs.Repeats.{climb_enough}
use Rattle.classes.specs.Joins.{no_edge, edge_of, put_edge, reroot_in, Trace, is_trace, cut_in, undo_in}
use Rattle.classes.specs.Working.Carries.{Forest}
use Rattle.classes.proofs.MovedClimbs.{closed-put}
use Rattle.classes.proofs.Tables.{edge-long, edge_here, edge-away, edge-words, class-here, class-away}
use Rattle.classes.proofs.Alike.{Like, like-then, like-edge, like-class}
use Rattle.classes.proofs.Turning.{Stops}
use Rattle.classes.proofs.Undoing.{class-forest}
use Rattle.classes.proofs.Rounds.{Same, reroot_same}

-- A TRACE

-- three terms, the first no root of its tree, the last no root of its class
pub record Traced (ts : List Term) (x : Trace) : Type 0 where
  pub child : within (length ts) x.child ≡ true
  pub old_root : within (length ts) x.old_root ≡ true
  pub under : within (length ts) x.under ≡ true
  pub linked : forest_up ts x.child ≡ x.child → ⊥
  pub put : class_up ts x.under ≡ x.under → ⊥

module _ (ts : List Term) (x : Trace) where
  abbrev terms : Bool
  terms = within (length ts) x.child && within (length ts) x.old_root && within (length ts) x.under

  abbrev edged : Bool
  edged = terms && not (eqb (forest_up ts x.child) x.child)

  pub trace-says : is_trace ts x ≡ true → Traced ts x
  unfolding is_trace
  trace-says h =
      let p = both_left edged _ h in
      let q = both_left terms _ p in
      let r = both_left (within (length ts) x.child && within (length ts) x.old_root) _ q in
      record {
        child = both_left _ _ r;
        old_root = both_right (within (length ts) x.child) _ r;
        under = both_right (within (length ts) x.child && within (length ts) x.old_root) _ q;
        linked = eqb-false _ _ (not-true _ (both_right terms _ p));
        put = eqb-false _ _ (not-true _ (both_right edged _ h));
      }

  pub trace_is : Traced ts x → is_trace ts x ≡ true
  unfolding is_trace
  trace_is h = both_true _ _ (both_true _ _ (both_true _ _ (both_true _ _ h.child h.old_root) h.under) (ap not (ne_eqb _ _ h.linked))) (ap not (ne_eqb _ _ h.put))

-- us is what cutting leaves of ts, where the numbers are a trace
pub record Cuts (ts us : List Term) (x : Trace) : Type 0 where
  pub traced : Traced ts x
  pub is : cut_in ts x ≡ us

pub undo_cuts : (ts us : List Term) (x : Trace) → undo_in ts x ≡ some us → Cuts ts us x
unfolding undo_in
undo_cuts ts us x h = decide (is_trace ts x) (λ p. yes p (rw p at h)) (λ p. absurd (not_none (rw p at h)))
  where
    not_none : ◌≡◌ {A = Option (List Term)} none (some us) → ⊥
    not_none q = let z : ◌≡◌ {A = ℕ} 0 1 = cc in absurd (omega arith)

    yes : is_trace ts x ≡ true → some (cut_in ts x) ≡ some us → Cuts ts us x
    yes p q = record { traced = trace-says ts x p; is = cc }

pub undo-is : (ts us : List Term) (x : Trace) → Cuts ts us x → undo_in ts x ≡ some us
unfolding undo_in
undo-is ts us x u = rw (trace_is ts x u.traced) (ap some u.is)

-- AN EDGE CUT: every walk still ends

module _ (up up' : ℕ → ℕ) (c : ℕ) (here : up' c ≡ c) (away : (t : ℕ) → (t ≡ c → ⊥) → up' t ≡ up t) where
  stops-here : (t : ℕ) → t ≡ c → Stops up' t
  unfolding climb
  stops-here t e = record { steps = 0; self = ap up' e ∙ here ∙ sym e }

  stops : (k t : ℕ) → up (climb up k t) ≡ climb up k t → Stops up' t
  unfolding climb
  stops zero t e = go (ℕ_discrete t c)
    where
      go : Dec (t ≡ c) → Stops up' t
      go (yes q) = stops-here t q
      go (no d) = record { steps = 0; self = away t d ∙ e }
  stops (suc k) t e = go (ℕ_discrete t c) (stops k (up t) e)
    where
      go : Dec (t ≡ c) → Stops up' (up t) → Stops up' t
      go (yes q) s = stops-here t q
      go (no d) s = record { steps = suc s.steps; self = subst (λ (z : ℕ). up' (climb up' s.steps z) ≡ climb up' s.steps z) (sym (away t d)) s.self }

module _ (ts : List Term) (f : Forest ts) (child : ℕ) (w : within (length ts) child ≡ true) where
  abbrev cut : List Term
  cut = put_edge ts child (no_edge child)

  cut-within : (t : ℕ) → within (length cut) t ≡ within (length ts) t
  cut-within t = ap (λ (n : ℕ). within n t) (edge-long ts child _)

  cut-here : forest_up cut child ≡ child
  cut-here = ap (λ (y : Term). y.forest_parent) (edge_here ts child _ w)

  cut-away : (t : ℕ) → (t ≡ child → ⊥) → forest_up cut t ≡ forest_up ts t
  cut-away t d = ap (λ (y : Term). y.forest_parent) (edge-away ts child _ w t d)

  cut-closed : Closed (forest_up cut) (length cut)
  cut-closed = subst (Closed (forest_up cut)) (sym (edge-long ts child _)) (closed-put f.closed w cut-here cut-away)

  cut-ends : (t : ℕ) → within (length cut) t ≡ true → forest_up cut (top_in cut t) ≡ top_in cut t
  cut-ends t h =
      let s = stops (forest_up ts) (forest_up cut) child cut-here cut-away (length ts) t (f.ended t (sym (cut-within t) ∙ h)) in
      climb_enough (forest_up cut) (length cut) t cut-closed h s.steps s.self

  pub cut-forest : Forest cut
  cut-forest = record { closed = cut-closed; ended = cut-ends; unlabelled = λ t h e. go t (sym (cut-within t) ∙ h) e (ℕ_discrete t child) }
    where
      go : (t : ℕ) → within (length ts) t ≡ true → forest_up cut t ≡ t → Dec (t ≡ child) → edge_of (term_in cut t) ≡ no_edge t
      go t h e (yes q) = subst (λ (z : ℕ). edge_of (term_in cut z) ≡ no_edge z) (sym q) (ap edge_of (edge_here ts child _ w))
      go t h e (no d) = ap edge_of (edge-away ts child _ w t d) ∙ f.unlabelled t h (sym (cut-away t d) ∙ e)

-- A JOIN UNDONE

-- whatever the three terms, what is left is a forest again, and the class parents but one are as they were
module _ (ts : List Term) (x : Trace) (f : Forest ts) (wc : within (length ts) x.child ≡ true) (wr : within (length ts) x.old_root ≡ true) (wu : within (length ts) x.under ≡ true) where
  abbrev opened : List Term
  opened = put_edge ts x.child (no_edge x.child)

  abbrev rooted : List Term
  rooted = reroot_in opened x.old_root

  same : Same opened rooted
  same = reroot_same opened (cut-forest ts f x.child wc) x.old_root (ap (λ (n : ℕ). within n x.old_root) (edge-long ts x.child _) ∙ wr)

  rooted-like : Like ts rooted
  rooted-like = like-then (like-edge ts x.child _ wc) (record { long = same.long; words = λ g p t. same.words g p.edges t })

  rooted-under : within (length rooted) x.under ≡ true
  rooted-under = ap (λ (n : ℕ). within n x.under) rooted-like.long ∙ wu

  pub cut-kept : Forest (cut_in ts x)
  cut-kept = class-forest rooted x.under x.under rooted-under same.forest

  pub cut-like : Like ts (cut_in ts x)
  cut-like = like-then rooted-like (like-class rooted x.under x.under rooted-under)

  pub cut-class : class_up (cut_in ts x) x.under ≡ x.under
  cut-class = ap (λ (y : Term). y.class_parent) (class-here rooted x.under x.under rooted-under)

  pub cut-classes : (t : ℕ) → (t ≡ x.under → ⊥) → class_up (cut_in ts x) t ≡ class_up ts t
  cut-classes t d =
      ap (λ (y : Term). y.class_parent) (class-away rooted x.under x.under rooted-under t d)
      ∙ same.words (λ y. y.class_parent) (λ y e. refl) t ∙ edge-words ts x.child _ wc (λ y. y.class_parent) (λ y. refl) t

  pub cut-stays : Closed (class_up ts) (length ts) → Closed (class_up (cut_in ts x)) (length ts)
  cut-stays c = closed-put c wu cut-class cut-classes
