-- Re-rooting a tree, edge by edge: what it does to the table, and that re-rooting at the old root gives the table back.
use mathlib.Core.Path.{◌≡◌, refl, sym, ap, subst, ◌∙◌}
use mathlib.Core.Bool.{true}
use mathlib.Core.List.Memᴰ
use mathlib.Core.List.{List, [], ◌∷◌, ◌++◌, Memᴰ}
use mathlib.Core.Logic.{◌⊎◌, inl, inr, ⊎_elim}
use Prim.Native.Nat.{ℕ, suc}
use native.Mathlib.Decide.{ℕ_discrete}
use native.Mathlib.Omega.{arith}
use lib.ListN.{length}
use Rattle.records.specs.Store.{Term, term_in, within, climb, forest_up, above_in}
use Rattle.records.specs.Working.Audited.{Closed}
use Rattle.records.proofs.Repeats.{climb_enough}
use Rattle.records.proofs.Rises.{Rise, ends, goes, rise-by, rise_one, rise_from, Onward}
use Rattle.classes.specs.Joins.{Edge, no_edge, edge_of, bearing, turn, turns}
use Rattle.classes.proofs.Tables.{Flipped, turn-root, turn_flips, turn-back}

-- LISTS

mem-last : {u x : ℕ} (l : List ℕ) → Memᴰ u (l ++ (x ∷ [])) → Memᴰ u l ⊎ (u ≡ x)
mem-last l m = ⊎_elim inl (λ n. inr (Memᴰ.eq_of_singleton n)) (Memᴰ.append_cases l m)

-- WAYS UP

-- it begins with the term itself
pub rise_head : {ts : List Term} {t : ℕ} {l : List ℕ} → Rise ts t l → Memᴰ t l
rise_head (ends e) = Memᴰ.head refl
rise_head (goes d r) = Memᴰ.head refl

-- a way up is one in each table that has the same parents on it
pub rise-same : {ts us : List Term} {t : ℕ} {l : List ℕ} → Rise ts t l → ((u : ℕ) → Memᴰ u l → forest_up us u ≡ forest_up ts u) → Rise us t l
rise-same {t = t} (ends e) f = ends (f t (Memᴰ.head refl) ∙ e)
rise-same {us = us} {t = t} (goes {l = l} d r) f =
    let i = f t (Memᴰ.head refl) in
    goes (λ z. d (sym i ∙ z)) (subst (λ (z : ℕ). Rise us z l) (sym i) (rise-same r (λ u m. f u (Memᴰ.tail m))))

-- no term stands above its parent
pub rise-fresh : {ts : List Term} {t : ℕ} {l : List ℕ} → (forest_up ts t ≡ t → ⊥) → Rise ts (forest_up ts t) l → Memᴰ t l → ⊥
rise-fresh {ts} {t} {l} d r m = go (rise_from ts r m)
  where
    go : Onward ts (forest_up ts t) l t → ⊥
    go k =
        let e : length k.from ≡ suc (length l) = ap length (rise_one ts k.rise (goes d r)) in
        ⊎_elim (λ q. d (sym q)) (λ h. absurd (omega arith)) k.shorter

-- a walk that comes to its end
pub record Stops (up : ℕ → ℕ) (t : ℕ) : Type 0 where
  pub steps : ℕ
  pub self : up (climb up steps t) ≡ climb up steps t

pub rise-ends : {ts : List Term} {t : ℕ} {l : List ℕ} → Rise ts t l → Stops (forest_up ts) t
unfolding climb
rise-ends (ends e) = record { steps = 0; self = e }
rise-ends (goes d r) = let k = rise-ends r in record { steps = suc k.steps; self = k.self }

-- a way up is what stands above, where each parent is a term
pub rise-above : {ts : List Term} {t : ℕ} {l : List ℕ} → Closed (forest_up ts) (length ts) → within (length ts) t ≡ true → Rise ts t l → above_in ts t ≡ l
rise-above {ts} {t} {l} c w r =
    let k = rise-ends r in
    rise_one ts (rise-by ts (length ts) t (climb_enough (forest_up ts) (length ts) t c w k.steps k.self)) r

-- ONE EDGE

module _ {ts us : List Term} {x p : ℕ} (f : Flipped ts us x p) where
  pub up-child : forest_up us x ≡ x
  up-child = ap (λ (y : Term). y.forest_parent) f.child

  pub up-parent : forest_up us p ≡ x
  up-parent = ap (λ (y : Term). y.forest_parent) f.parent

  pub up-away : (u : ℕ) → (u ≡ x → ⊥) → (u ≡ p → ⊥) → forest_up us u ≡ forest_up ts u
  up-away u c b = ap (λ (y : Term). y.forest_parent) (f.away u c b)

  -- kind, first, second and class parent are as they were
  pub flip_words : (f : Term → ℕ) → ((y : Term) (e : Edge) → f (bearing y e) ≡ f y) → (u : ℕ) → f (term_in us u) ≡ f (term_in ts u)
  flip_words g h u = go (ℕ_discrete u x) (ℕ_discrete u p)
    where
      go : Dec (u ≡ x) → Dec (u ≡ p) → g (term_in us u) ≡ g (term_in ts u)
      go (yes a) b = subst (λ (z : ℕ). g (term_in us z) ≡ g (term_in ts z)) (sym a) (ap g f.child ∙ h _ _)
      go (no a) (yes b) = subst (λ (z : ℕ). g (term_in us z) ≡ g (term_in ts z)) (sym b) (ap g f.parent ∙ h _ _)
      go (no a) (no b) = ap g (f.away u a b)

  pub flip_closed : within (length ts) x ≡ true → Closed (forest_up ts) (length ts) → Closed (forest_up us) (length us)
  flip_closed w c = record { stays = λ t h. let h' = sym (ap (λ (n : ℕ). within n t) f.long) ∙ h in ap (λ (n : ℕ). within n (forest_up us t)) f.long ∙ go t h' (ℕ_discrete t x) (ℕ_discrete t p) }
    where
      go : (t : ℕ) → within (length ts) t ≡ true → Dec (t ≡ x) → Dec (t ≡ p) → within (length ts) (forest_up us t) ≡ true
      go t h (yes a) b = ap (λ (u : ℕ). within (length ts) (forest_up us u)) a ∙ ap (within (length ts)) up-child ∙ w
      go t h (no a) (yes b) = ap (λ (u : ℕ). within (length ts) (forest_up us u)) b ∙ ap (within (length ts)) up-parent ∙ w
      go t h (no a) (no b) = ap (within (length ts)) (up-away t a b) ∙ c.stays t h

  module _ (d : p ≡ x → ⊥) (e : forest_up ts p ≡ p) where
    -- a way up to p, x not on it, goes on to x
    flip_on : {t : ℕ} {w : List ℕ} → Rise ts t w → (Memᴰ x w → ⊥) → ((u : ℕ) → Memᴰ u w → forest_up ts u ≡ u → u ≡ p) → Rise us t (w ++ (x ∷ []))
    flip_on {t} (ends q) n g = subst (λ (z : ℕ). Rise us z (z ∷ x ∷ [])) (sym (g t (Memᴰ.head refl) q)) (goes (λ z. d (sym z ∙ up-parent)) (subst (λ (z : ℕ). Rise us z (x ∷ [])) (sym up-parent) (ends up-child)))
    flip_on {t} (goes {l = l} q r) n g =
        let k = flip_on r (λ m. n (Memᴰ.tail m)) (λ u m. g u (Memᴰ.tail m)) in
        let i : forest_up us t ≡ forest_up ts t = up-away t (λ z. n (Memᴰ.head (sym z))) (λ z. q (ap (forest_up ts) z ∙ e ∙ sym z)) in
        goes (λ z. q (sym i ∙ z)) (subst (λ (z : ℕ). Rise us z (l ++ (x ∷ []))) (sym i) k)

  -- the edges of a way up to p turned round: us gives what ts gives, since turning p's edge there gives ts back
  flip_back : {t : ℕ} {w : List ℕ} → Rise ts t w → ((u : ℕ) → Memᴰ u w → forest_up ts u ≡ u → u ≡ p) → turn p us ≡ ts → turns w us ≡ turns w ts
  unfolding turns
  flip_back {t} (ends q) g b = ap (λ (z : ℕ). turn z us) (g t (Memᴰ.head refl) q) ∙ b ∙ sym (turn-root ts t q)
  flip_back {t} (goes q r) g b = ap (turn t) (flip_back r (λ u m. g u (Memᴰ.tail m)) b)

-- a root at the end of a way is not turned
turns-last : (w : List ℕ) (x : ℕ) (ts : List Term) → turn x ts ≡ ts → turns (w ++ (x ∷ [])) ts ≡ turns w ts
unfolding turns
turns-last [] x ts e = e
turns-last (t ∷ w) x ts e = ap (turn t) (turns-last w x ts e)

-- A WHOLE WAY

-- us is ts with the edges of the way l from x to the root turned round: x is a root, what is not on the way is as it was, and the way
-- from the old root leads to x, so that turning its edges round gives ts back
pub record Rerooted (ts us : List Term) (x : ℕ) (l : List ℕ) : Type 0 where
  pub long : length us ≡ length ts
  pub here : edge_of (term_in us x) ≡ no_edge x
  pub away : (u : ℕ) → (Memᴰ u l → ⊥) → term_in us u ≡ term_in ts u
  pub closed : Closed (forest_up us) (length us)
  pub old : ℕ
  pub old_in : Memᴰ old l
  pub root_of_old : forest_up ts old ≡ old
  pub way : List ℕ
  pub rises : Rise us old way
  pub only : (u : ℕ) → Memᴰ u way → Memᴰ u l
  pub end : (u : ℕ) → Memᴰ u way → forest_up us u ≡ u → u ≡ x
  pub back : turns way us ≡ ts
  pub words : (f : Term → ℕ) → ((y : Term) (e : Edge) → f (bearing y e) ≡ f y) → (u : ℕ) → f (term_in us u) ≡ f (term_in ts u)

module _ (ts : List Term) (closed : Closed (forest_up ts) (length ts)) (unlabelled : (t : ℕ) → within (length ts) t ≡ true → forest_up ts t ≡ t → edge_of (term_in ts t) ≡ no_edge t) where
  -- a way of no edge, a way of one more, and any
  turned_none : (x : ℕ) → forest_up ts x ≡ x → within (length ts) x ≡ true → Rerooted ts ts x (x ∷ [])
  unfolding turns
  turned_none x e w = record {
    long = refl;
    here = unlabelled x w e;
    away = λ u n. refl;
    closed = closed;
    old = x;
    old_in = Memᴰ.head refl;
    root_of_old = e;
    way = x ∷ [];
    rises = ends e;
    only = λ u m. m;
    end = λ u m q. ⊎_elim (λ z. z) (λ n. absurd (Memᴰ.not-nil n)) (Memᴰ.cases_cons m);
    back = turn-root ts x e;
    words = λ f h u. refl;
  }

  module _ (x : ℕ) (l : List ℕ) (d : forest_up ts x ≡ x → ⊥) (fresh : Memᴰ x l → ⊥) (first : Memᴰ (forest_up ts x) l) (wx : within (length ts) x ≡ true) (us : List Term) (k : Rerooted ts us (forest_up ts x) l) where
    abbrev p : ℕ
    p = forest_up ts x

    above : forest_up us x ≡ p
    above = ap (λ (y : Term). y.forest_parent) (k.away x fresh)

    wx' : within (length us) x ≡ true
    wx' = ap (λ (n : ℕ). within n x) k.long ∙ wx

    wp' : within (length us) p ≡ true
    wp' = ap (λ (n : ℕ). within n p) k.long ∙ closed.stays x wx

    root-p : forest_up us p ≡ p
    root-p = ap (λ (y : Edge). y.parent) k.here

    flips : Flipped us (turn x us) x p
    flips = turn_flips us x p wx' wp' above d

    not-p : (u : ℕ) → (Memᴰ u (x ∷ l) → ⊥) → u ≡ p → ⊥
    not-p u n e = n (Memᴰ.tail (subst (λ (z : ℕ). Memᴰ z l) (sym e) first))

    turned-step : Rerooted ts (turn x us) x (x ∷ l)
    turned-step = record {
      long = flips.long ∙ k.long;
      here = ap edge_of flips.child;
      away = λ u n. flips.away u (λ e. n (Memᴰ.head e)) (not-p u n) ∙ k.away u (λ m. n (Memᴰ.tail m));
      closed = flip_closed flips wx' k.closed;
      old = k.old;
      old_in = Memᴰ.tail k.old_in;
      root_of_old = k.root_of_old;
      way = k.way ++ (x ∷ []);
      rises = flip_on flips d root-p k.rises (λ m. fresh (k.only x m)) k.end;
      only = λ u m. ⊎_elim (λ n. Memᴰ.tail (k.only u n)) (λ e. Memᴰ.head e) (mem-last k.way m);
      end = λ u m q. ⊎_elim (λ n. last u n q (ℕ_discrete u p) (ℕ_discrete u x)) (λ e. e) (mem-last k.way m);
      back = turns-last k.way x (turn x us) (turn-root (turn x us) x (up-child flips)) ∙ flip_back flips k.rises k.end (turn-back us x p wx' wp' above d k.here) ∙ k.back;
      words = λ f h u. flip_words flips f h u ∙ k.words f h u;
    }
      where
        last : (u : ℕ) → Memᴰ u k.way → forest_up (turn x us) u ≡ u → Dec (u ≡ p) → Dec (u ≡ x) → u ≡ x
        last u m q (yes a) b = absurd (d (sym a ∙ sym q ∙ ap (forest_up (turn x us)) a ∙ up-parent flips))
        last u m q (no a) (yes b) = b
        last u m q (no a) (no b) = absurd (a (k.end u m (sym (up-away flips u b a) ∙ q)))

  pub turned-way : {x : ℕ} {l : List ℕ} → Rise ts x l → within (length ts) x ≡ true → Rerooted ts (turns l ts) x l
  unfolding turns
  turned-way {x} (ends e) w = subst (λ (us : List Term). Rerooted ts us x (x ∷ [])) (sym (turn-root ts x e)) (turned_none x e w)
  turned-way {x} (goes {l = l} d r) w = turned-step x l d (rise-fresh d r) (rise_head r) w (turns l ts) (turned-way r (closed.stays x w))
