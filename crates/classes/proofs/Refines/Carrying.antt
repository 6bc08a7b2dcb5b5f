-- The loop that re-roots from below: each term on the way up gets what is carried, and its own edge, turned round, is carried on.
use mathlib.Core.Path.{◌≡◌, refl, sym, ap, subst, ◌∙◌}
use mathlib.Core.Bool.{Bool, true, false}
use mathlib.Core.List.Memᴰ
use mathlib.Core.List.{List, [], ◌∷◌, Memᴰ}
use Prim.Native.Nat.{ℕ, zero, suc, ◌≤◌}
use native.Mathlib.Decide.{ℕ_discrete}
use native.Mathlib.Omega.{arith}
use lib.ListN.{length}
use lib.Dec.{eqb}
use borrow.Author.Tests.{eq-eqb, ne_eqb}
use Rattle.records.specs.Lists.{Every, and}
use Rattle.records.specs.Store.{Term, term_in, within, forest_up, above_by}
use Rattle.records.proofs.Lists.{every_map, every_mem}
use Rattle.records.proofs.Paths.{above_within}
use Rattle.records.proofs.Rises.{Rise, ends, goes, rise-by}
use Rattle.classes.specs.Joins.{Edge, edge, no_edge, turned, put_edge, turn, turns, reroot_in, link_in}
use Rattle.classes.specs.Working.Carries.{Forest, carry_by}
use Rattle.classes.proofs.Tables.{edge-long, edge-away, edge_same, edge-twice, edge_swap, turn-root, turn_is, turn_flips}
use Rattle.classes.proofs.Turning.{rise_head, rise-fresh, rise-same}
use Rattle.classes.proofs.Undoing.{rerooted}

-- the loop's two ways
pub carry_root : (n : ℕ) (ts : List Term) (x : ℕ) (e : Edge) → forest_up ts x ≡ x → carry_by (suc n) ts x e ≡ put_edge ts x e
unfolding carry_by
carry_root n ts x e q = rw (eq-eqb (forest_up ts x) x q, carry_by)

pub carry_turn : (n : ℕ) (ts : List Term) (x : ℕ) (e : Edge) → (forest_up ts x ≡ x → ⊥) → carry_by (suc n) ts x e ≡ carry_by n (put_edge ts x e) (forest_up ts x) (turned x (term_in ts x))
unfolding carry_by
carry_turn n ts x e d = rw (ne_eqb (forest_up ts x) x d, carry_by)

-- AN EDGE PUT

module _ (ts : List Term) (x : ℕ) (e : Edge) (wx : within (length ts) x ≡ true) where
  still : (t : ℕ) → within (length ts) t ≡ true → within (length (put_edge ts x e)) t ≡ true
  still t w = ap (λ (n : ℕ). within n t) (edge-long ts x e) ∙ w

-- AN EDGE PUT OFF THE WAY

-- turning the edge of y and putting one on x, neither of its ends
turn-put : (ts : List Term) (x y : ℕ) (e : Edge) → within (length ts) x ≡ true → within (length ts) y ≡ true → within (length ts) (forest_up ts y) ≡ true
    → (y ≡ x → ⊥) → (forest_up ts y ≡ x → ⊥) → turn y (put_edge ts x e) ≡ put_edge (turn y ts) x e
turn-put ts x y e wx wy wp d n = go (ℕ_discrete (forest_up ts y) y)
  where
    here : term_in (put_edge ts x e) y ≡ term_in ts y
    here = edge-away ts x e wx y d

    up-here : forest_up (put_edge ts x e) y ≡ forest_up ts y
    up-here = ap (λ (z : Term). z.forest_parent) here

    go : Dec (forest_up ts y ≡ y) → turn y (put_edge ts x e) ≡ put_edge (turn y ts) x e
    go (yes q) = turn-root (put_edge ts x e) y (up-here ∙ q) ∙ sym (ap (λ (us : List Term). put_edge us x e) (turn-root ts y q))
    go (no q) =
        let p = forest_up ts y in
        let wy' = still ts x e wx y wy in
        turn_is (put_edge ts x e) y p wy' (still ts x e wx p wp) up-here q
        ∙ ap (λ (z : Term). put_edge (put_edge (put_edge ts x e) p (turned y z)) y (no_edge y)) here
        ∙ ap (λ (us : List Term). put_edge us y (no_edge y)) (edge_swap ts x p e (turned y (term_in ts y)) wx wp n)
        ∙ edge_swap (put_edge ts p (turned y (term_in ts y))) x y e (no_edge y) (still ts p _ wp x wx) (still ts p _ wp y wy) d
        ∙ sym (ap (λ (us : List Term). put_edge us x e) (turn_is ts y p wy wp refl q))

record Light (ts us : List Term) (l : List ℕ) : Type 0 where
  long : length us ≡ length ts
  away : (u : ℕ) → (Memᴰ u l → ⊥) → term_in us u ≡ term_in ts u

light : {ts : List Term} {x : ℕ} {l : List ℕ} → Rise ts x l → Every (λ t. within (length ts) t ≡ true) l → Light ts (turns l ts) l
unfolding turns
light {ts} {x} (ends q) h = subst (λ (us : List Term). Light ts us (x ∷ [])) (sym (turn-root ts x q)) (record { long = refl; away = λ u n. refl })
light {ts} {x} (goes {l = l} d r) (and w h) =
    let k = light r h in
    let first = rise_head r in
    let i : forest_up (turns l ts) x ≡ forest_up ts x = ap (λ (y : Term). y.forest_parent) (k.away x (rise-fresh d r)) in
    let f = turn_flips (turns l ts) x (forest_up ts x) (ap (λ (n : ℕ). within n x) k.long ∙ w) (ap (λ (n : ℕ). within n (forest_up ts x)) k.long ∙ every_mem h first) i d in
    record {
      long = f.long ∙ k.long;
      away = λ u n. f.away u (λ z. n (Memᴰ.head z)) (λ z. n (Memᴰ.tail (subst (λ (y : ℕ). Memᴰ y l) (sym z) first))) ∙ k.away u (λ m. n (Memᴰ.tail m));
    }

turns-put : {ts : List Term} {y : ℕ} {l : List ℕ} (x : ℕ) (e : Edge) → Rise ts y l → Every (λ t. within (length ts) t ≡ true) l → within (length ts) x ≡ true → (Memᴰ x l → ⊥)
    → turns l (put_edge ts x e) ≡ put_edge (turns l ts) x e
unfolding turns
turns-put {ts} {y} x e (ends q) (and w h) wx n =
    turn-put ts x y e wx w (ap (within (length ts)) q ∙ w) (λ z. n (Memᴰ.head (sym z))) (λ z. n (Memᴰ.head (sym z ∙ q)))
turns-put {ts} {y} x e (goes {l = l} d r) (and w h) wx n =
    let k = light r h in
    let first = rise_head r in
    let i : forest_up (turns l ts) y ≡ forest_up ts y = ap (λ (z : Term). z.forest_parent) (k.away y (rise-fresh d r)) in
    ap (turn y) (turns-put x e r h wx (λ m. n (Memᴰ.tail m)))
    ∙ turn-put (turns l ts) x y e (ap (λ (m : ℕ). within m x) k.long ∙ wx) (ap (λ (m : ℕ). within m y) k.long ∙ w)
    (ap (λ (m : ℕ). within m (forest_up (turns l ts) y)) k.long ∙ ap (within (length ts)) i ∙ every_mem h first)
    (λ z. n (Memᴰ.head (sym z))) (λ z. n (Memᴰ.tail (subst (λ (u : ℕ). Memᴰ u l) (sym i ∙ z) first)))

rise-put : {ts : List Term} {y : ℕ} {l : List ℕ} (x : ℕ) (e : Edge) → Rise ts y l → within (length ts) x ≡ true → (Memᴰ x l → ⊥) → Rise (put_edge ts x e) y l
rise-put {ts} x e r wx n = rise-same r (λ u m. ap (λ (z : Term). z.forest_parent) (edge-away ts x e wx u (λ z. n (Memᴰ.cast (sym z) m))))

-- the loop from x is: re-root at x, then put the carried edge on x
carry_way : (n : ℕ) {ts : List Term} {x : ℕ} {l : List ℕ} (e : Edge) → Rise ts x l → Every (λ t. within (length ts) t ≡ true) l → length l ≤ n → carry_by n ts x e ≡ put_edge (turns l ts) x e
unfolding turns
carry_way zero e (ends q) h s = absurd (omega arith)
carry_way zero e (goes d r) h s = absurd (omega arith)
carry_way (suc n) {ts} {x} e (ends q) h s = carry_root n ts x e q ∙ sym (ap (λ (us : List Term). put_edge us x e) (turn-root ts x q))
carry_way (suc n) {ts} {x} e (goes {l = l} d r) (and w h) s =
    let p = forest_up ts x in
    let f = turned x (term_in ts x) in
    let k = light r h in
    let fresh = rise-fresh d r in
    let wp = every_mem h (rise_head r) in
    let us = turns l ts in
    let wx' = ap (λ (m : ℕ). within m x) k.long ∙ w in
    let wp' = ap (λ (m : ℕ). within m p) k.long ∙ wp in
    let same = k.away x fresh in
    carry_turn n ts x e d
    ∙ carry_way n f (rise-put x e r w fresh) (every_map (λ t v. still ts x e w t v) h) (omega arith)
    ∙ ap (λ (y : List Term). put_edge y p f) (turns-put x e r h w fresh)
    ∙ edge_swap us x p e f wx' wp' d
    ∙ sym (ap (λ (y : List Term). put_edge y x e) (turn_is us x p wx' wp' (ap (λ (z : Term). z.forest_parent) same) d)
    ∙ edge-twice (put_edge us p (turned x (term_in us x))) x (ap (λ (m : ℕ). within m x) (edge-long us p _) ∙ wx') (no_edge x) e
    ∙ ap (λ (z : Term). put_edge (put_edge us p (turned x z)) x e) same)

-- n steps up meet at most n terms
above-short : (n : ℕ) (ts : List Term) (t : ℕ) → length (above_by n ts t) ≤ n
unfolding above_by
above-short zero ts t = omega arith
above-short (suc n) ts t = go (eqb (forest_up ts t) t) (above-short n ts (forest_up ts t))
  where
    go : (b : Bool) → length (above_by n ts (forest_up ts t)) ≤ n → length (t ∷ elim b [ true ↦ [] | false ↦ above_by n ts (forest_up ts t) ]) ≤ suc n
    go true h = omega arith
    go false h = omega arith

module _ (ts : List Term) (f : Forest ts) (a : ℕ) (w : within (length ts) a ≡ true) where
  carried : (e : Edge) → carry_by (suc (length ts)) ts a e ≡ put_edge (reroot_in ts a) a e
  carried e = carry_way (suc (length ts)) e (rise-by ts (length ts) a (f.ended a w)) (above_within ts (length ts) (suc (length ts)) a f.closed w) (above-short (suc (length ts)) ts a)

  -- one loop re-roots and adds the new edge
  pub carry_link : (b k v : ℕ) → carry_by (suc (length ts)) ts a (edge b k v 0) ≡ link_in ts a b k v
  carry_link b k v = carried (edge b k v 0)

  -- and, carrying no edge, re-roots
  pub carry_reroot : carry_by (suc (length ts)) ts a (no_edge a) ≡ reroot_in ts a
  carry_reroot = carried (no_edge a) ∙ edge_same (reroot_in ts a) a (ap (λ (n : ℕ). within n a) (rerooted ts f a w).long ∙ w) (no_edge a) (sym (rerooted ts f a w).here)
