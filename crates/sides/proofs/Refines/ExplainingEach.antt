-- Departure B: the loop that explains each variable of a side with one.
use Rattle.std.specs.Prelude.{if◌then◌else◌}
use mathlib.Core.Path.{◌≡◌, refl, sym, ap, subst, ◌∙◌}
use mathlib.Core.Bool.{Bool, true, false, not}
use mathlib.Core.List.{List, [], ◌∷◌}
use Prim.Native.Nat.{ℕ, ◌+◌, ◌≤◌, ◌<◌}
use lib.ListN.{length, drop, get_or, drop_of_length-le}
use lib.Dec.{eqb}
use borrow.Author.Tests.{eqb-true, eq-eqb, ne_eqb}
use Rattle.records.specs.declared.State.{State}
use Rattle.std.specs.Prelude.{Ok, Err}
use Rattle.records.specs.declared.refusal.Refusal.{Refusal}
use Rattle.records.specs.Lists.{all, keep, Every, none_left, and}
use Rattle.records.specs.Store.{Store, Term, Out, ok, Work, and_then, term_in, is_constant, is_string, root, same_class}
use Rattle.records.specs.View.{Lent, lent, store_of, terms_view, read_in}
use Rattle.records.specs.Working.Audited.{Audited, Ready}
use Rattle.records.specs.Calls.{added}
use Rattle.records.specs.Working.Doing.{Working}
use Rattle.records.proofs.Lists.{both_left, both_right, clash, decide, every_at, drop_head}
use Rattle.records.proofs.Doing.{working_same, working_is}
use Rattle.engine.specs.Explain.{explain}
use Rattle.records.proofs.Outcomes.{ends-give, ends-map, ends_if}
use Rattle.sides.specs.Wordeq.{same, explain_all, variables}
use Rattle.sides.specs.Working.Stripping.{Pair}
use Rattle.sides.specs.Working.Explaining.{OneClass, explain_atom}
use Rattle.sides.proofs.StepOutcomes.{Ends}
use Rattle.sides.proofs.Cited.{Cited, cited-none, cited-map, explain-ends}
use Rattle.sides.proofs.Strip.{same_class_lem}
use Rattle.sides.proofs.Refines.AddingReasons.{going_pair, terms_kept}
use Rattle.sides.proofs.Refines.Turning.{Turning, turning_none, turning_end, turning_refused, turning_on}

-- ONE ATOM

module _ (t e h r ks : List ℕ) (c : State) (u v k : ℕ) (i : k ≡ (term_in (terms_view t c.terms) u).kind) where
  pub atom-constant : Ready (lent t e h r ks) c → k ≡ 1 → Working (explain_atom u v) (lent t e h r ks) (lent t e h r ks) c (added (Ok c) (lent t e h r ks))
  unfolding explain_atom
  atom-constant d j = working_same d (rw (eq-eqb (term_in (terms_view t c.terms) u).kind 1 (sym i ∙ j)))

  module _ (d : k ≡ 1 → ⊥) where
    other : eqb (term_in (terms_view t c.terms) u).kind 1 ≡ false
    other = ne_eqb _ 1 (λ q. d (i ∙ q))

    pub atom-explained : {m' : Lent} {o : Out (Unit {0})} → Working (explain u v) (lent t e h r ks) m' c o → Working (explain_atom u v) (lent t e h r ks) m' c o
    unfolding explain_atom
    atom-explained w = working_is (rw other) w

atom-ends : (u v : ℕ) (s : Store) → Audited s → is_string s u ≡ true → is_string s v ≡ true → (is_constant s u ≡ false → same_class s u v ≡ true) → Ends (λ s' x. Cited (λ w. Unit {0}) s s') (explain_atom u v s)
unfolding explain_atom
atom-ends u v s d p q f =
    ends_if (is_constant s u) _ _ (λ e. ends-give (cited-none s d (λ w rd. tt)))
    (λ e. ends-map (λ s' x m. cited-map (λ w k. tt) m) (explain-ends u v s d p q (f e)))

-- EACH ATOM

atom-step : (s₀ : Store) (a v : ℕ) (l : List ℕ) (s : Store) → is_constant s a ≡ is_constant s₀ a → (o : Out (Unit {0})) → explain_atom a v s ≡ o
    → explain_all (variables s₀ (a ∷ l)) v s ≡ and_then (λ x. explain_all (variables s₀ l) v) o
unfolding keep explain_all explain_atom
atom-step s₀ a v l s q o i = go (is_constant s₀ a) refl
  where
    go : (b : Bool) → is_constant s₀ a ≡ b → explain_all (variables s₀ (a ∷ l)) v s ≡ and_then (λ x. explain_all (variables s₀ l) v) o
    go true p = let k : explain_atom a v s ≡ ok s tt = rw (q ∙ p) in rw p (ap (and_then (λ x. explain_all (variables s₀ l) v)) (sym k ∙ i))
    go false p = let k : explain_atom a v s ≡ explain a v s = rw (q ∙ p) in rw p (ap (and_then (λ x. explain_all (variables s₀ l) v)) (sym k ∙ i))

module _ (t e h ks l : List ℕ) (v : ℕ) where
  abbrev now : List ℕ → State → Store
  now rs c = store_of (lent t e h rs ks) c

  abbrev left : State → ℕ → Work (Unit {0})
  left c i = explain_all (variables (read_in t h c) (drop i l)) v

  abbrev pub Citing : State → List ℕ → State → List ℕ → ℕ → Type 0
  Citing c = Turning t e h ks (left c) c

  pub citing-none : {c : State} {rs : List ℕ} → Ready (lent t e h rs ks) c → Citing c rs c rs 0
  citing-none {c} d = turning_none t e h ks (left c) d

  module _ {c d : State} {rs rs₁ : List ℕ} {i : ℕ} (g : Citing c rs d rs₁ i) where
    pub citing-end : length l ≤ i → Working (explain_all (variables (read_in t h c) l) v) (lent t e h rs ks) (lent t e h rs₁ ks) c (added (Ok d) (lent t e h rs₁ ks))
    unfolding keep explain_all
    citing-end z = turning_end t e h ks (left c) g (rw (drop_of_length-le l z))

    module _ (b : i < length l) (pairs : Every (λ u. Pair (read_in t h c) u v) l) (classes : Every (λ u. OneClass (terms_view t c.terms) u v) l) where
      pub citing-pair : Pair (read_in t h d) (get_or l i 0) v
      citing-pair = going_pair t e h ks g.going _ _ (every_at l i 0 pairs b)

      pub citing-class : OneClass (terms_view t d.terms) (get_or l i 0) v
      citing-class = subst (λ (x : List Term). OneClass x (get_or l i 0) v) (sym (terms_kept t e h ks g.going)) (every_at l i 0 classes b)

      next : left c i (now rs₁ d) ≡ and_then (λ u. left c (i + 1)) (explain_atom (get_or l i 0) v (now rs₁ d))
      next =
          ap (λ (x : List ℕ). explain_all (variables (read_in t h c) x) v (now rs₁ d)) (drop_head l i b)
          ∙ atom-step (read_in t h c) (get_or l i 0) v (drop (i + 1) l) (now rs₁ d) (ap (λ (x : List Term). eqb (term_in x (get_or l i 0)).kind 1) (terms_kept t e h ks g.going)) (explain_atom (get_or l i 0) v (now rs₁ d)) refl

      module _ (rs₂ : List ℕ) where
        pub citing-refused : (n : Refusal) → Working (explain_atom (get_or l i 0) v) (lent t e h rs₁ ks) (lent t e h rs₂ ks) d (added (Err n) (lent t e h rs₂ ks))
            → Working (explain_all (variables (read_in t h c) l) v) (lent t e h rs ks) (lent t e h rs₂ ks) c (added (Err n) (lent t e h rs₂ ks))
        citing-refused n w = turning_refused t e h ks (left c) g (explain_atom (get_or l i 0) v) next rs₂ n w

        pub citing-turn : (d₂ : State) → Working (explain_atom (get_or l i 0) v) (lent t e h rs₁ ks) (lent t e h rs₂ ks) d (added (Ok d₂) (lent t e h rs₂ ks)) → Citing c rs d₂ rs₂ (i + 1)
        citing-turn d₂ w =
            turning_on t e h ks (left c) g (explain_atom (get_or l i 0) v) next rs₂ d₂ w
            ((atom-ends (get_or l i 0) v (now rs₁ d) g.going.ready.audited citing-pair.one citing-pair.other citing-class.class).given (now rs₂ d₂) tt)

-- WHAT STEP 5 TESTED is what the loop requires

same-one : (s : Store) (u v : ℕ) → same s u v ≡ true → OneClass s.terms u v
same-one s u v h = record {
  class = λ e. decide (eqb u v) (λ q. eq-eqb _ _ (ap (root s) (eqb-true u v q))) (λ q. same_class_lem s u v h (rw (q, e)));
}

pub same-classes : (s : Store) (v : ℕ) (l : List ℕ) → all (λ u. same s u v) (variables s l) ≡ true → Every (λ u. OneClass s.terms u v) l
unfolding keep all
same-classes s v [] h = none_left
same-classes s v (u ∷ l) h = go (is_constant s u) refl (same-classes s v l) h
  where
    go : (b : Bool) → is_constant s u ≡ b → (all (λ x. same s x v) (variables s l) ≡ true → Every (λ x. OneClass s.terms x v) l)
        → all (λ x. same s x v) (if not b then u ∷ variables s l else variables s l) ≡ true → Every (λ x. OneClass s.terms x v) (u ∷ l)
    go true p ih k = and (record { class = λ e. clash p e }) (ih k)
    go false p ih k = and (same-one s u v (both_left _ _ k)) (ih (both_right (same s u v) _ k))
