-- Tables of terms with an edge or a class parent put in, term by term.
use mathlib.Core.Path.{◌≡◌, refl, sym, ap, subst, ◌∙◌}
use mathlib.Core.Bool.{true}
use mathlib.Core.List.{List, ◌∷◌}
use Prim.Native.Nat.{ℕ, zero, suc, ◌-◌, ◌≤◌, ◌<◌}
use native.Mathlib.Decide.{ℕ_discrete}
use native.Mathlib.Omega.{arith}
use lib.ListN.{length, set, get_or, length-set}
use lib.Seq.{get_or-set_same, get_or-set_other, set-get_or, set-set, set_comm, ext_get_or}
use borrow.Author.Tests.{eq-eqb, ne_eqb}
use Rattle.records.specs.Store.{Term, term_in, no_term, within, class_up, forest_up}
use Rattle.records.proofs.Lists.{within_low, within-high, within-is}
use Rattle.records.specs.Make.{with_class}
use Rattle.classes.specs.Joins.{Edge, no_edge, edge_of, turned, bearing, put_edge, put_class, turn}

-- ONE RECORD

module _ (ts : List Term) (t : ℕ) (x : Term) (w : within (length ts) t ≡ true) where
  set_in : term_in (set ts (t - 1) x) t ≡ x
  unfolding term_in
  set_in = go t (within_low (length ts) t w) (within-high (length ts) t w)
    where
      go : (u : ℕ) → 0 < u → u ≤ length ts → get_or (no_term ∷ set ts (u - 1) x) u no_term ≡ x
      go zero l h = absurd (omega arith)
      go (suc i) l h = let e : suc i - 1 ≡ i = omega arith in ap (λ (j : ℕ). get_or (set ts j x) i no_term) e ∙ get_or-set_same ts i x no_term (omega arith)

  set-away : (u : ℕ) → (u ≡ t → ⊥) → term_in (set ts (t - 1) x) u ≡ term_in ts u
  unfolding term_in
  set-away zero d = refl
  set-away (suc j) d = let l = within_low (length ts) t w in get_or-set_other ts (t - 1) j x no_term (λ e. d (omega arith))

  -- what the record put in reads as the one that it replaces
  set_words : {A : Type 0} (g : Term → A) → g x ≡ g (term_in ts t) → (u : ℕ) → g (term_in (set ts (t - 1) x) u) ≡ g (term_in ts u)
  set_words g h u = go (ℕ_discrete u t)
    where
      go : Dec (u ≡ t) → g (term_in (set ts (t - 1) x) u) ≡ g (term_in ts u)
      go (yes e) = subst (λ (z : ℕ). g (term_in (set ts (t - 1) x) z) ≡ g (term_in ts z)) (sym e) (ap g set_in ∙ h)
      go (no d) = ap g (set-away u d)

-- a record put where it stands
set_same : (ts : List Term) (t : ℕ) → within (length ts) t ≡ true → set ts (t - 1) (term_in ts t) ≡ ts
unfolding term_in
set_same ts t w = go t (within_low (length ts) t w)
  where
    go : (u : ℕ) → 0 < u → set ts (u - 1) (get_or (no_term ∷ ts) u no_term) ≡ ts
    go zero l = absurd (omega arith)
    go (suc i) l = let e : suc i - 1 ≡ i = omega arith in ap (λ (j : ℕ). set ts j (get_or ts i no_term)) e ∙ set-get_or ts i no_term

-- two tables of one length are equal where each term is
pub ext_term : (ts us : List Term) → length us ≡ length ts → ((t : ℕ) → within (length ts) t ≡ true → term_in us t ≡ term_in ts t) → us ≡ ts
unfolding term_in
ext_term ts us e f = ext_get_or no_term us ts e (λ i b. f (suc i) (within-is (length ts) (suc i) (omega arith) (omega arith)))

module _ (ts : List Term) (t : ℕ) (e : Edge) where
  pub edge-long : length (put_edge ts t e) ≡ length ts
  unfolding put_edge
  edge-long = length-set ts (t - 1) _

  pub edge_here : within (length ts) t ≡ true → term_in (put_edge ts t e) t ≡ bearing (term_in ts t) e
  unfolding put_edge
  edge_here w = set_in ts t _ w

  pub edge-away : within (length ts) t ≡ true → (u : ℕ) → (u ≡ t → ⊥) → term_in (put_edge ts t e) u ≡ term_in ts u
  unfolding put_edge
  edge-away w u d = set-away ts t _ w u d

  -- words other than the edge's
  pub edge-words : within (length ts) t ≡ true → {A : Type 0} (g : Term → A) → ((x : Term) → g (bearing x e) ≡ g x) → (u : ℕ) → g (term_in (put_edge ts t e) u) ≡ g (term_in ts u)
  unfolding put_edge
  edge-words w g h u = set_words ts t _ w g (h _) u

module _ (ts : List Term) (t p : ℕ) where
  pub class-long : length (put_class ts t p) ≡ length ts
  unfolding put_class
  class-long = length-set ts (t - 1) _

  pub class-here : within (length ts) t ≡ true → term_in (put_class ts t p) t ≡ with_class (term_in ts t) p
  unfolding put_class
  class-here w = set_in ts t _ w

  pub class-away : within (length ts) t ≡ true → (u : ℕ) → (u ≡ t → ⊥) → term_in (put_class ts t p) u ≡ term_in ts u
  unfolding put_class
  class-away w u d = set-away ts t _ w u d

  -- words other than the class parent
  pub class-words : within (length ts) t ≡ true → {A : Type 0} (g : Term → A) → ((x : Term) → g (with_class x p) ≡ g x) → (u : ℕ) → g (term_in (put_class ts t p) u) ≡ g (term_in ts u)
  unfolding put_class
  class-words w g h u = set_words ts t _ w g (h _) u

-- PUT AGAIN

module _ (ts : List Term) (t : ℕ) (w : within (length ts) t ≡ true) where
  -- an edge that is there already, and one put in the place of another
  pub edge_same : (e : Edge) → e ≡ edge_of (term_in ts t) → put_edge ts t e ≡ ts
  unfolding put_edge
  edge_same e q = ap (λ (f : Edge). set ts (t - 1) (bearing (term_in ts t) f)) q ∙ set_same ts t w

  pub edge-twice : (e f : Edge) → put_edge (put_edge ts t e) t f ≡ put_edge ts t f
  unfolding put_edge
  edge-twice e f = ap (λ (x : Term). set (put_edge ts t e) (t - 1) (bearing x f)) (edge_here ts t e w) ∙ set-set ts (t - 1) _ _

  pub edge-again : (e f : Edge) → f ≡ edge_of (term_in ts t) → put_edge (put_edge ts t e) t f ≡ ts
  edge-again e f q = edge-twice e f ∙ edge_same f q

  -- and a class parent
  pub class-again : (p q : ℕ) → q ≡ class_up ts t → put_class (put_class ts t p) t q ≡ ts
  unfolding put_class
  class-again p q e =
      ap (λ (x : Term). set (put_class ts t p) (t - 1) (with_class x q)) (class-here ts t p w) ∙ set-set ts (t - 1) _ _
      ∙ ap (λ (z : ℕ). set ts (t - 1) (with_class (term_in ts t) z)) e ∙ set_same ts t w

-- edges put on two terms, in either order
pub edge_swap : (ts : List Term) (x p : ℕ) (e f : Edge) → within (length ts) x ≡ true → within (length ts) p ≡ true → (p ≡ x → ⊥) → put_edge (put_edge ts x e) p f ≡ put_edge (put_edge ts p f) x e
unfolding put_edge
edge_swap ts x p e f wx wp d =
    let lx = within_low (length ts) x wx in
    let lp = within_low (length ts) p wp in
    ap (λ (y : Term). set (put_edge ts x e) (p - 1) (bearing y f)) (edge-away ts x e wx p d)
    ∙ set_comm ts (x - 1) (p - 1) _ _ (λ z. d (omega arith))
    ∙ sym (ap (λ (y : Term). set (put_edge ts p f) (x - 1) (bearing y e)) (edge-away ts p f wp x (λ z. d (sym z))))

-- ONE EDGE TURNED ROUND

-- us is ts with the edge from x to p turned round
pub record Flipped (ts us : List Term) (x p : ℕ) : Type 0 where
  pub long : length us ≡ length ts
  pub child : term_in us x ≡ bearing (term_in ts x) (no_edge x)
  pub parent : term_in us p ≡ bearing (term_in ts p) (turned x (term_in ts x))
  pub away : (u : ℕ) → (u ≡ x → ⊥) → (u ≡ p → ⊥) → term_in us u ≡ term_in ts u

pub turn-root : (ts : List Term) (x : ℕ) → forest_up ts x ≡ x → turn x ts ≡ ts
unfolding turn
turn-root ts x e = rw (eq-eqb (forest_up ts x) x e, turn)

module _ (ts : List Term) (x p : ℕ) (wx : within (length ts) x ≡ true) (wp : within (length ts) p ≡ true) (e : forest_up ts x ≡ p) (d : p ≡ x → ⊥) where
  abbrev mid : List Term
  mid = put_edge ts p (turned x (term_in ts x))

  mid_flips : within (length mid) x ≡ true → Flipped ts (put_edge mid x (no_edge x)) x p
  mid_flips w = record {
    long = edge-long mid x (no_edge x) ∙ edge-long ts p _;
    child = edge_here mid x (no_edge x) w ∙ ap (λ (y : Term). bearing y (no_edge x)) (edge-away ts p _ wp x (λ z. d (sym z)));
    parent = edge-away mid x (no_edge x) w p d ∙ edge_here ts p _ wp;
    away = λ u c b. edge-away mid x (no_edge x) w u c ∙ edge-away ts p _ wp u b;
  }

  pub turn_is : turn x ts ≡ put_edge mid x (no_edge x)
  unfolding turn
  turn_is = rw (ne_eqb (forest_up ts x) x (λ z. d (sym e ∙ z)), turn) (ap (λ (q : ℕ). put_edge (put_edge ts q (turned x (term_in ts x))) x (no_edge x)) e)

  pub turn_flips : Flipped ts (turn x ts) x p
  turn_flips = subst (λ (us : List Term). Flipped ts us x p) (sym turn_is) (mid_flips (ap (λ (n : ℕ). within n x) (edge-long ts p (turned x (term_in ts x))) ∙ wx))

-- turned round again it is as it was, where p was a root
pub turn-back : (ts : List Term) (x p : ℕ) → within (length ts) x ≡ true → within (length ts) p ≡ true → forest_up ts x ≡ p → (p ≡ x → ⊥) → edge_of (term_in ts p) ≡ no_edge p → turn p (turn x ts) ≡ ts
turn-back ts x p wx wp e d r =
    let f = turn_flips ts x p wx wp e d in
    let l = f.long in
    let g = turn_flips (turn x ts) p x (ap (λ (n : ℕ). within n p) l ∙ wp) (ap (λ (n : ℕ). within n x) l ∙ wx) (ap (λ (y : Term). y.forest_parent) f.parent) (λ z. d (sym z)) in
    ext_term ts _ (g.long ∙ l) (λ u v. go f g u (ℕ_discrete u x) (ℕ_discrete u p))
  where
    go : Flipped ts (turn x ts) x p → Flipped (turn x ts) (turn p (turn x ts)) p x → (u : ℕ) → Dec (u ≡ x) → Dec (u ≡ p) → term_in (turn p (turn x ts)) u ≡ term_in ts u
    go f g u (yes a) b = subst (λ (z : ℕ). term_in (turn p (turn x ts)) z ≡ term_in ts z) (sym a)
        (g.parent ∙ ap (λ (y : Term). bearing y (turned p (term_in (turn x ts) p))) f.child ∙ ap (λ (y : Term). bearing (term_in ts x) (turned p y)) f.parent
        ∙ ap (λ (q : ℕ). bearing (term_in ts x) (turned q (term_in ts x))) (sym e))
    go f g u (no a) (yes b) = subst (λ (z : ℕ). term_in (turn p (turn x ts)) z ≡ term_in ts z) (sym b)
        (g.child ∙ ap (λ (y : Term). bearing y (no_edge p)) f.parent ∙ ap (bearing (term_in ts p)) (sym r))
    go f g u (no a) (no b) = g.away u b a ∙ f.away u a b
