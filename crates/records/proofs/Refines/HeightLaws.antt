-- The heights of pairs' paths: each way through the functions of src/heights.rt, and what the audit of a chain's pairs takes from them.
use mathlib.Core.Path.{◌≡◌, refl, sym, ap, ◌∙◌}
use mathlib.Core.Bool.{Bool, true, false, not, ◌&&◌}
use mathlib.Core.List.{List, [], ◌∷◌}
use Prim.Native.Nat.{ℕ, suc, ◌+◌, ◌-◌, ◌≤◌, ◌<◌, max}
use native.Mathlib.Omega.{arith}
use native.Mathlib.Decide.{ℕ_discrete}
use lib.ListN.{length, get_or, set, replicate}
use lib.Seq.{get_or-set_same, get_or-set_other}
use lib.Dec.{eqb, ltb, leb}
use borrow.Author.Tests.{ltb-true, ltb-false, leb-true, leb-false, lt-leb, le-leb, eq-eqb, ne_eqb}
use Rattle.records.specs.declared.State.{State}
use Rattle.records.specs.Lists.{all, up_to}
use Rattle.records.specs.Store.{Store, within, forest_up, above_in, nearest_in, path_in, same_tree}
use Rattle.records.specs.View.{terms_view, term_at, cell_at, termed}
use Rattle.records.specs.Rules.{stamp_below, falls_rule}
use Rattle.records.specs.Working.Audited.{Closed, Pathed}
use Rattle.records.specs.Working.Heights.{never, Above, Height, Heights, KeptHeight}
use Rattle.records.proofs.Lists.{decide, and-stop, all-zero}
use Rattle.records.proofs.Climbs.{view_count, view_term}
use Rattle.records.proofs.Paths.{Rising, rising_begin, rising_stop, rising-root, rising_turn, rising_done, upto-end, upto_next, upto-none, nearest-tree, path-sides}

-- TESTS OF TWO

both : (h k m : ℕ) → leb (max h k) m ≡ (leb h m && leb k m)
both h k m = decide (leb h m)
    (λ e. decide (leb k m)
    (λ f. let a = leb-true h m e in let b = leb-true k m f in rw (e, f) (le-leb (max h k) m (omega arith)))
    (λ f. let b = leb-false k m f in rw (e, f) (lt-leb (max h k) m (omega arith))))
    (λ e. let a = leb-false h m e in rw e (lt-leb (max h k) m (omega arith)))

below : (v m : ℕ) → leb (suc v) m ≡ ltb v m
below v m = decide (ltb v m)
    (λ e. let a = ltb-true v m e in e' e (le-leb (suc v) m (omega arith)))
    (λ e. let a = ltb-false v m e in e' e (lt-leb (suc v) m (omega arith)))
  where
    e' : {b : Bool} → ltb v m ≡ b → leb (suc v) m ≡ b → leb (suc v) m ≡ ltb v m
    e' i j = j ∙ sym i

with_true : (a b : Bool) → b ≡ true → (a && b) ≡ a
with_true true b e = e
with_true false b e = refl

with_both : (a b c : Bool) → ((a && b) && c) ≡ (a && (b && c))
with_both true b c = refl
with_both false b c = refl

-- FROM A TERM UP

-- h is above the stamps passed by, and what is left decides the rest
pub record Raising (l : List ℕ) (n y x z h i : ℕ) : Type 0 where
  pub low : h < never
  pub rising : (m : ℕ) → Rising l n (λ (r : List ℕ). leb h m && all (stamp_below (terms_view l n) m) (up_to x r)) (all (stamp_below (terms_view l n) m) (up_to x (above_in (terms_view l n) y))) z i

pub raising_begin : (l : List ℕ) (n y x : ℕ) → within n y ≡ true → Raising l n y x y 0 0
raising_begin l n y x w = record {
  low = omega arith;
  rising = λ m. let q = stamp_below (terms_view l n) m in
      rw (le-leb 0 m (omega arith)) (rising_begin l n (λ (r : List ℕ). all q (up_to x r)) y w);
}

module _ (l : List ℕ) (n y x z h i : ℕ) (p : Raising l n y x z h i) where
  pub raising_end : i ≤ n → z ≡ x → Above l n y x h
  raising_end j e = record {
    low = p.low;
    is = λ m. let q = stamp_below (terms_view l n) m in
        sym (rising_stop (p.rising m) (leb h m) j (λ r. with_true (leb h m) _ (upto-end q x z r e)));
  }

  pub raising_done : n < i → Above l n y x h
  raising_done j = record {
    low = p.low;
    is = λ m. let q = stamp_below (terms_view l n) m in sym (sym (with_true (leb h m) _ (upto-none q x)) ∙ rising_done (p.rising m) j);
  }

  module _ (d : z ≡ x → ⊥) (v : ℕ) (ev : v ≡ (term_at l z).stamp) (f : v < 4294967296) (g : ℕ) (eg : g ≡ max h (suc v)) where
    low-next : g < never
    low-next = let a = p.low in omega arith

    -- one stamp more
    next : (m : ℕ) (r : List ℕ) → (leb h m && all (stamp_below (terms_view l n) m) (up_to x (z ∷ r))) ≡ (leb g m && all (stamp_below (terms_view l n) m) (up_to x r))
    next m r =
        let q = stamp_below (terms_view l n) m in
        let s : leb (suc v) m ≡ q z = below v m ∙ (rw (view_term l n z (p.rising 0).here) (ap (λ (a : ℕ). ltb a m) ev)) in
        ap (λ (a : Bool). leb h m && a) (upto_next q x z r d ∙ ap (λ (a : Bool). a && all q (up_to x r)) (sym s)) ∙ sym (with_both (leb h m) (leb (suc v) m) _)
        ∙ ap (λ (a : Bool). a && all q (up_to x r)) (sym (both h (suc v) m) ∙ ap (λ (a : ℕ). leb a m) (sym eg))

    module _ (u : ℕ) (j : i ≤ n) (eu : u ≡ (term_at l z).forest_parent) where
      pub raising_root : u ≡ z → Above l n y x g
      raising_root e = record {
        low = low-next;
        is = λ m. let q = stamp_below (terms_view l n) m in
            sym (rising-root (p.rising m) u j eu e) ∙ next m [] ∙ with_true (leb g m) _ (upto-none q x);
      }

      pub raising_turn : Closed (forest_up (terms_view l n)) n → (u ≡ z → ⊥) → Raising l n y x u g (i + 1)
      raising_turn k e = record {
        low = low-next;
        rising = λ m. rising_turn (p.rising m) (λ (r : List ℕ). leb g m && all (stamp_below (terms_view l n) m) (up_to x r)) u k j eu e (next m);
      }

-- THE PATH OF A PAIR

module _ (l : List ℕ) (c : State) (a b x : ℕ) (h : Pathed l c.terms) (wa : within c.terms a ≡ true) (wb : within c.terms b ≡ true)
    (e : x ≡ nearest_in (terms_view l c.terms) a b) where
  tree : same_tree (termed l c) a b ≡ not (eqb x 0)
  tree =
      let n = view_count l c.terms in
      nearest-tree (terms_view l c.terms) (rw n h.tops) (λ t w. h.ends t (rw n at w)) a b (rw n wa) (rw n wb) ∙ ap (λ y. not (eqb y 0)) (sym e)

  pub height-none : x ≡ 0 → Height (termed l c) (a, b) never
  unfolding falls_rule
  height-none z = record { low = omega arith; is = λ m k. sym (and-stop _ _ (tree ∙ ap not (eq-eqb x 0 z))) ∙ sym (lt-leb never m k) }

  pub height-both : (x ≡ 0 → ⊥) → (p k r : ℕ) → Above l c.terms a x p → Above l c.terms b x k → r ≡ max p k → Height (termed l c) (a, b) r
  unfolding falls_rule
  height-both z p k r i j q = record {
    low = (let u = i.low in let v = j.low in omega arith);
    is = λ m w.
        let t = stamp_below (terms_view l c.terms) m in
        let sides : all t (path_in (terms_view l c.terms) a b) ≡ (leb p m && leb k m)
        = rw (← i.is m, ← j.is m, e) (path-sides t (terms_view l c.terms) a b) in
        rw (tree ∙ ap not (ne_eqb x 0 z), q) (sides ∙ sym (both p k m));
  }

-- KEPT BY CELL

module _ (s : Store) (cells table : List ℕ) (x : ℕ) (h : Heights s cells table) where
  pub kept-known : (k : ℕ) → k ≡ get_or table x 0 → (k ≡ 0 → ⊥) → KeptHeight s cells table x (k - 1)
  kept-known k e d = record { is = rw e (h.entries x (λ z. d (e ∙ z))); kept = h }

  module _ (a b r : ℕ) (ea : a ≡ (cell_at cells x).value) (eb : b ≡ (cell_at cells x).other) (i : Height s (a, b) r) where
    here : Height s ((cell_at cells x).value, (cell_at cells x).other) r
    here = rw (← ea, ← eb) i

    pub kept-past : KeptHeight s cells table x r
    kept-past = record { is = here; kept = h }

    pub kept_new : x < length table → KeptHeight s cells (set table x (r + 1)) x r
    kept_new l = record { is = here; kept = record { entries = λ y d. go y d (ℕ_discrete y x) } }
      where
        go : (y : ℕ) → (get_or (set table x (r + 1)) y 0 ≡ 0 → ⊥) → Dec (y ≡ x) → Height s ((cell_at cells y).value, (cell_at cells y).other) (get_or (set table x (r + 1)) y 0 - 1)
        go y d (yes e) =
            let k : (r + 1) - 1 ≡ r = omega arith in
            rw (e, get_or-set_same table x (r + 1) 0 l, k) here
        go y d (no n) = rw (get_or-set_other table x y (r + 1) 0 n) (h.entries y (λ z. d (get_or-set_other table x y (r + 1) 0 n ∙ z)))

-- nothing is kept at first
pub heights_none : (s : Store) (cells : List ℕ) (w : ℕ) → Heights s cells (replicate w 0)
heights_none s cells w = record { entries = λ x d. absurd (d (all-zero w x)) }

-- what a height says of one stamp
module _ (s : Store) (p : ℕ × ℕ) (h m : ℕ) (i : Height s p h) (k : m < 4294967296) where
  pub height-fails : m < h → false ≡ falls_rule s m p
  height-fails l = sym (i.is m (omega arith) ∙ lt-leb h m l)

  pub height-passes : h ≤ m → true ≡ falls_rule s m p
  height-passes l = sym (i.is m (omega arith) ∙ le-leb h m l)
