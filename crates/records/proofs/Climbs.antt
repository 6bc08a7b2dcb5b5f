-- Following parents: roots, what stands above a term, and that the steps counted in the definitions are enough where the walk ends.
use mathlib.Core.Path.{◌≡◌, refl, sym, ap, ◌∙◌}
use mathlib.Core.Bool.{Bool, true, false}
use mathlib.Core.List.{List, [], ◌∷◌}
use Prim.Native.Nat.{ℕ, zero, suc, ◌+◌, ◌-◌, ◌≤◌, ◌<◌}
use native.Mathlib.Nat.{zero-add}
use native.Mathlib.Numerals.{add-one}
use native.Mathlib.Omega.{arith}
use lib.ListN.{length}
use lib.Dec.{eqb}
use borrow.Author.Tests.{eq-eqb, ne_eqb}
use Rattle.records.specs.declared.State.{State}
use Rattle.records.specs.Store.{Term, Store, term, term_in, count, is_term, is_string, within, climb, class_up, forest_up, root_in, top_in, above_by, above_in}
use Rattle.records.specs.View.{Lent, term_at, terms_view, store_of}
use Rattle.records.specs.Rules.{parents_rule, each_term}
use Rattle.records.specs.Working.Audited.{Closed, Steps, Classed}
use Rattle.records.proofs.Lists.{both_left, both_right, upto-at, upto_all, within_low, within-high, table-length}
use Rattle.records.proofs.Views.{term_is}
use Rattle.records.proofs.Grown.{string-term}
use Rattle.records.specs.Working.Leaves.{parent_of, up_in}

-- STEPS

module _ (up : ℕ → ℕ) where
  -- the first step apart, and the last
  pub climb-suc : (n t : ℕ) → climb up (suc n) t ≡ climb up n (up t)
  unfolding climb
  climb-suc n t = refl

  pub climb-last : (n t : ℕ) → climb up (suc n) t ≡ up (climb up n t)
  unfolding climb
  climb-last zero t = refl
  climb-last (suc n) t = climb-last n (up t)

  pub climb-stays : (n t : ℕ) → up t ≡ t → climb up n t ≡ t
  unfolding climb
  climb-stays zero t e = refl
  climb-stays (suc n) t e = rw e (climb-stays n t e)

  pub climb_add : (a b t : ℕ) → climb up (a + b) t ≡ climb up b (climb up a t)
  unfolding climb
  climb_add zero b t = ap (λ (n : ℕ). climb up n t) (zero-add b)
  climb_add (suc a) b t = let e : suc a + b ≡ suc (a + b) = omega arith in rw e (climb_add a b (up t))

  -- where the walk ends within n steps, one step first makes no difference
  pub climb-up : (n t : ℕ) → up (climb up n t) ≡ climb up n t → climb up n (up t) ≡ climb up n t
  climb-up n t e = sym (climb-suc n t) ∙ climb-last n t ∙ e

  pub climb-within : (n k t : ℕ) → Closed up n → within n t ≡ true → within n (climb up k t) ≡ true
  unfolding climb
  climb-within n zero t h w = w
  climb-within n (suc k) t h w = climb-within n k (up t) h (h.stays t w)

-- the loop: with i of n steps made, t has led to x
pub record Climbing (up : ℕ → ℕ) (n t x i : ℕ) : Type 0 where
  pub counted : i ≤ n
  pub here : within n x ≡ true
  pub led : climb up i t ≡ x

module _ (up : ℕ → ℕ) (n t : ℕ) where
  pub climbing_begin : within n t ≡ true → Climbing up n t t 0
  unfolding climb
  climbing_begin w = record { counted = omega arith; here = w; led = refl }

  module _ (x i y : ℕ) (p : Climbing up n t x i) (e : y ≡ up x) where
    pub climbing_turn : Closed up n → i < n → Climbing up n t y (i + 1)
    climbing_turn h l = record { counted = omega arith; here = rw e (h.stays x p.here); led = rw (add-one i) (climb-last up i t ∙ ap up p.led ∙ sym e) }

    pub climbing_here : y ≡ x → x ≡ climb up n t
    climbing_here f =
        let b = p.counted in
        let k : i + (n - i) ≡ n = omega arith in
        sym (climb-stays up (n - i) x (sym e ∙ f)) ∙ sym (ap (climb up (n - i)) p.led) ∙ sym (climb_add up i (n - i) t) ∙ ap (λ (m : ℕ). climb up m t) k

  pub climbing_done : (x i : ℕ) → Climbing up n t x i → n ≤ i → x ≡ climb up n t
  climbing_done x i p l = let b = p.counted in let f : i ≡ n = omega arith in sym p.led ∙ ap (λ (m : ℕ). climb up m t) f

-- WALKS THAT END

-- where the audit holds, a step in the forest or in the class leads from a term to a term
pub classed-up : (s : Store) → Classed s → (forest : Bool) → Closed (up_in forest s.terms) (count s)
classed-up s a true = record { stays = a.forest_parents }
classed-up s a false = record { stays = a.class_parents }

abbrev pub classed_roots : (s : Store) → Classed s → Closed (class_up s.terms) (count s)
classed_roots s a = classed-up s a false

abbrev pub classed_tops : (s : Store) → Classed s → Closed (forest_up s.terms) (count s)
classed_tops s a = classed-up s a true

pub rule_at : (s : Store) (rule : ℕ → Bool) → each_term s rule ≡ true → (t : ℕ) → is_term s t ≡ true → rule t ≡ true
rule_at s rule = upto-at rule (count s)

pub rule_all : (s : Store) (rule : ℕ → Bool) → ((t : ℕ) → is_term s t ≡ true → rule t ≡ true) → each_term s rule ≡ true
rule_all s rule = upto_all rule (count s)

pub parents_up : (s : Store) → each_term s (parents_rule s) ≡ true → (forest : Bool) → Closed (up_in forest s.terms) (count s)
unfolding parents_rule
parents_up s h true = record { stays = λ t w. both_right (is_term s (term s t).class_parent) _ (rule_at s (parents_rule s) h t w) }
parents_up s h false = record { stays = λ t w. both_left _ _ (rule_at s (parents_rule s) h t w) }

module _ (s : Store) (a : Classed s) (t : ℕ) (w : is_term s t ≡ true) where
  -- the root's root is itself
  pub root-root : root_in s.terms (root_in s.terms t) ≡ root_in s.terms t
  root-root = climb-stays (class_up s.terms) (count s) (root_in s.terms t) (a.class_ends t w)

  pub root-term : is_term s (root_in s.terms t) ≡ true
  root-term = climb-within (class_up s.terms) (count s) (count s) t (classed_roots s a) w

  pub top-term : is_term s (top_in s.terms t) ≡ true
  top-term = climb-within (forest_up s.terms) (count s) (count s) t (classed_tops s a) w

-- a self-parent is its own root
pub root-self : (ts : List Term) (t : ℕ) → class_up ts t ≡ t → root_in ts t ≡ t
root-self ts t e = climb-stays (class_up ts) (length ts) t e

pub top-self : (ts : List Term) (t : ℕ) → forest_up ts t ≡ t → top_in ts t ≡ t
top-self ts t e = climb-stays (forest_up ts) (length ts) t e

-- WHAT STANDS ABOVE

module _ (ts : List Term) where
  -- where k steps reach a self-parent, one term more than k steps is all there is
  above_enough : (k t : ℕ) → forest_up ts (climb (forest_up ts) k t) ≡ climb (forest_up ts) k t → above_by (suc (suc k)) ts t ≡ above_by (suc k) ts t
  unfolding above_by climb
  above_enough zero t e = rw (eq-eqb (forest_up ts t) t e)
  above_enough (suc k) t e = go (eqb (forest_up ts t) t) (above_enough k (forest_up ts t) e)
    where
      go : (b : Bool) → above_by (suc (suc k)) ts (forest_up ts t) ≡ above_by (suc k) ts (forest_up ts t)
          → ◌≡◌ {A = List ℕ} (t ∷ elim b [ true ↦ [] | false ↦ above_by (suc (suc k)) ts (forest_up ts t) ]) (t ∷ elim b [ true ↦ [] | false ↦ above_by (suc k) ts (forest_up ts t) ])
      go true h = refl
      go false h = ap (λ (l : List ℕ). t ∷ l) h

  pub above_step : (k t : ℕ) → (forest_up ts t ≡ t → ⊥) → above_by (suc k) ts t ≡ t ∷ above_by k ts (forest_up ts t)
  unfolding above_by
  above_step k t d = rw (ne_eqb (forest_up ts t) t d)

  -- a tree's root has nothing above it; any other term has its parent and what is above that
  pub above_root : (t : ℕ) → forest_up ts t ≡ t → above_in ts t ≡ t ∷ []
  unfolding above_by
  above_root t e = rw (eq-eqb (forest_up ts t) t e)

  pub above_is : (t : ℕ) → forest_up ts (top_in ts t) ≡ top_in ts t → (forest_up ts t ≡ t → ⊥) → above_in ts t ≡ t ∷ above_in ts (forest_up ts t)
  above_is t e d = sym (above_enough (length ts) t e) ∙ above_step (suc (length ts)) t d

-- THE LENT WORDS

module _ (l : List ℕ) (n : ℕ) where
  pub view_term : (t : ℕ) → within n t ≡ true → term_in (terms_view l n) t ≡ term_at l t
  view_term t w = term_is l n t (within_low n t w) (within-high n t w)

  pub view_count : length (terms_view l n) ≡ n
  view_count = table-length (λ i. term_at l (suc i)) n

  pub view_up : (forest : Bool) (t y : ℕ) → within n t ≡ true → y ≡ parent_of forest (term_at l t) → y ≡ up_in forest (terms_view l n) t
  view_up forest t y w e = e ∙ ap (parent_of forest) (sym (view_term t w))

  pub view_steps : (forest : Bool) (answers : ℕ → ℕ → Type 0) → Closed (up_in forest (terms_view l n)) n → ((x y : ℕ) → answers x y → y ≡ parent_of forest (term_at l x)) → Steps answers (up_in forest (terms_view l n)) n
  view_steps forest answers h e = record { closed = h; is = λ x y w p. view_up forest x y w (e x y p) }

  pub view_class : (t y : ℕ) → within n t ≡ true → y ≡ (term_at l t).class_parent → y ≡ class_up (terms_view l n) t
  view_class = view_up false

  pub view_forest : (t y : ℕ) → within n t ≡ true → y ≡ (term_at l t).forest_parent → y ≡ forest_up (terms_view l n) t
  view_forest = view_up true

  pub root-counted : (t x : ℕ) → x ≡ climb (class_up (terms_view l n)) n t → x ≡ root_in (terms_view l n) t
  root-counted t x e = rw view_count e

  pub top-counted : (t x : ℕ) → x ≡ climb (forest_up (terms_view l n)) n t → x ≡ top_in (terms_view l n) t
  top-counted t x e = rw view_count e

-- the parent that the code reads
pub parent-forest : (forest : Bool) (x : Term) (r : ℕ) → forest ≡ true → r ≡ x.forest_parent → r ≡ parent_of forest x
parent-forest forest x r e h = rw e h

pub parent-class : (forest : Bool) (x : Term) (r : ℕ) → forest ≡ false → r ≡ x.class_parent → r ≡ parent_of forest x
parent-class forest x r e h = rw e h

-- what the climbs require, of a store that passes the audit
module _ (m : Lent) (c : State) where
  pub term-within : (t : ℕ) → is_term (store_of m c) t ≡ true → within c.terms t ≡ true
  term-within t w = rw (view_count m.terms c.terms) at w

  pub within-term : (t : ℕ) → within c.terms t ≡ true → is_term (store_of m c) t ≡ true
  within-term t w = rw (view_count m.terms c.terms) w

  pub string-within : (t : ℕ) → is_string (store_of m c) t ≡ true → within c.terms t ≡ true
  string-within t e = term-within t (string-term (store_of m c) t e)

  pub ready_up : Classed (store_of m c) → (forest : Bool) → Closed (up_in forest (terms_view m.terms c.terms)) c.terms
  ready_up a forest = rw (view_count m.terms c.terms) at (classed-up (store_of m c) a forest)

  abbrev pub ready_roots : Classed (store_of m c) → Closed (class_up (terms_view m.terms c.terms)) c.terms
  ready_roots a = ready_up a false
