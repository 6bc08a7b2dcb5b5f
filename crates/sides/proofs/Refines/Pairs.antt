-- The loop of `nf_explain`: the pairs of two lists explained one after the other, from their fronts or from their ends on.
use mathlib.Core.Path.{◌≡◌, refl, sym, ◌∙◌}
use mathlib.Core.Bool.{Bool, true, false, not, ◌&&◌}
use mathlib.Core.List.{List, [], ◌∷◌}
use Prim.Native.Nat.{ℕ, ◌+◌, ◌≤◌, ◌<◌}
use native.Mathlib.Omega.{arith}
use lib.ListN.{length, drop, get_or, length-drop}
use borrow.Author.Tests.{not-true, not-false, eq-eqb, ne_eqb}
use Rattle.records.specs.declared.State.{State}
use Rattle.std.specs.Prelude.{Ok, Err}
use Rattle.records.specs.declared.refusal.Refusal.{Refusal}
use Rattle.records.specs.Lists.{all, same_word}
use Rattle.records.specs.Store.{Store, Out, ok, Work, and_then, is_constant, is_string, text, same_class}
use Rattle.records.specs.View.{Lent, lent, store_of, read_in}
use Rattle.records.specs.Working.Audited.{Ready}
use Rattle.records.specs.Calls.{added}
use Rattle.records.specs.Working.Doing.{Working}
use Rattle.records.proofs.Lists.{all_every, every_at, drop_head}
use Rattle.records.proofs.Doing.{working_same, working_is}
use Rattle.engine.specs.Explain.{explain}
use Rattle.sides.specs.Wordeq.{explain_pair, nf_explain}
use Rattle.sides.specs.Working.Stripping.{Pair, way}
use Rattle.sides.proofs.Refines.AddingReasons.{going_pair}
use Rattle.sides.proofs.FrontOrEnd.{way-length, way_every}
use Rattle.sides.proofs.Refines.Turning.{Turning, turning_none, turning_end, turning_refused, turning_on}
use Rattle.sides.proofs.Equal.{pair_ends}

-- ONE PAIR

module _ (t e h r ks : List ℕ) (c : State) (a b : ℕ) where
  abbrev m : Lent
  m = lent t e h r ks

  abbrev s : Store
  s = store_of m c

  pub pair-number : Ready m c → a ≡ b → Working (explain_pair a b) m m c (added (Ok c) m)
  unfolding explain_pair
  pair-number y i = working_same y (rw (eq-eqb a b i))

  module _ (d : a ≡ b → ⊥) (x : Bool) (i : x ≡ (is_constant s a && is_constant s b && same_word (text s a) (text s b))) where
    pub pair-alike : Ready m c → x ≡ true → Working (explain_pair a b) m m c (added (Ok c) m)
    unfolding explain_pair
    pair-alike y j = working_same y (rw (ne_eqb a b d, sym i ∙ j))

    module _ (j : x ≡ false) (y : Bool) (f : y ≡ same_class s a b) where
      pub pair-apart : Ready m c → not y ≡ true → Working (explain_pair a b) m m c (added (Ok c) m)
      unfolding explain_pair
      pair-apart k z = working_same k (rw (ne_eqb a b d, sym i ∙ j, sym f ∙ not-true y z))

      module _ (z : not y ≡ false) where
        pub pair-explained : {m' : Lent} {o : Out (Unit {0})} → Working (explain a b) m m' c o → Working (explain_pair a b) m m' c o
        unfolding explain_pair
        pair-explained w = working_is (rw (ne_eqb a b d, sym i ∙ j, sym f ∙ not-false y z)) w

-- two atoms of two lists, as they are read
pub pair_at_lem : (s : Store) (tail : Bool) (l r : List ℕ) → all (is_string s) l ≡ true → all (is_string s) r ≡ true → {i : ℕ} → i < length l → i < length r
    → {a b : ℕ} → a ≡ get_or (way tail l) i 0 → b ≡ get_or (way tail r) i 0 → Pair s a b
pair_at_lem s tail l r p q {i} f k x y = record { one = at l p f x; other = at r q k y }
  where
    at : (l : List ℕ) → all (is_string s) l ≡ true → i < length l → {a : ℕ} → a ≡ get_or (way tail l) i 0 → is_string s a ≡ true
    at l p f x = rw x (every_at (way tail l) i 0 (way_every tail (all_every _ l p)) (rw (way-length tail l) f))

-- EACH PAIR

explain-done : (l r : List ℕ) (s : Store) → length l ≡ 0 → nf_explain l r s ≡ ok s tt
unfolding nf_explain
explain-done [] r s e = refl
explain-done (a ∷ l) r s e = absurd (omega arith)

module _ (t e h ks l r : List ℕ) (tail : Bool) where
  abbrev now : List ℕ → State → Store
  now rs c = store_of (lent t e h rs ks) c

  abbrev left : ℕ → Work (Unit {0})
  left i = nf_explain (drop i (way tail l)) (drop i (way tail r))

  -- the first i pairs are explained
  abbrev pub Pairing : State → List ℕ → State → List ℕ → ℕ → Type 0
  Pairing = Turning t e h ks left

  pub pairing_none : {c : State} {rs : List ℕ} → Ready (lent t e h rs ks) c → Pairing c rs c rs 0
  pairing_none d = turning_none t e h ks left d

  module _ {c d : State} {rs rs₁ : List ℕ} {i : ℕ} (g : Pairing c rs d rs₁ i) where
    pub pairing_end : length l ≤ i → Working (nf_explain (way tail l) (way tail r)) (lent t e h rs ks) (lent t e h rs₁ ks) c (added (Ok d) (lent t e h rs₁ ks))
    pairing_end z =
        let k = length-drop i (way tail l) in
        let n = way-length tail l in
        turning_end t e h ks left g (explain-done (drop i (way tail l)) (drop i (way tail r)) (now rs₁ d) (omega arith))

    module _ (n : length l ≡ length r) (one_side : all (is_string (read_in t h c)) l ≡ true) (other-side : all (is_string (read_in t h c)) r ≡ true) (f : i < length l)
        {a b : ℕ} (x : a ≡ get_or (way tail l) i 0) (y : b ≡ get_or (way tail r) i 0) where
      pub pairing_pair : Pair (read_in t h d) a b
      pairing_pair = going_pair t e h ks g.going _ _ (pair_at_lem (read_in t h c) tail l r one_side other-side f (omega arith) x y)

      next : left i (now rs₁ d) ≡ and_then (λ u. left (i + 1)) (explain_pair a b (now rs₁ d))
      unfolding nf_explain
      next =
          let p = way-length tail l in
          let q = way-length tail r in
          rw (x, y, drop_head (way tail l) i (omega arith), drop_head (way tail r) i (omega arith))

      module _ (rs₂ : List ℕ) where
        pub pairing_refused : (k : Refusal) → Working (explain_pair a b) (lent t e h rs₁ ks) (lent t e h rs₂ ks) d (added (Err k) (lent t e h rs₂ ks))
            → Working (nf_explain (way tail l) (way tail r)) (lent t e h rs ks) (lent t e h rs₂ ks) c (added (Err k) (lent t e h rs₂ ks))
        pairing_refused k w = turning_refused t e h ks left g (explain_pair a b) next rs₂ k w

        pub pairing_turn : (d₂ : State) → Working (explain_pair a b) (lent t e h rs₁ ks) (lent t e h rs₂ ks) d (added (Ok d₂) (lent t e h rs₂ ks)) → Pairing c rs d₂ rs₂ (i + 1)
        pairing_turn d₂ w =
            turning_on t e h ks left g (explain_pair a b) next rs₂ d₂ w ((pair_ends a b (now rs₁ d) g.going.ready.audited pairing_pair.one pairing_pair.other).given (now rs₂ d₂) tt)

-- from the fronts on
pub front-pairs : (l r : List ℕ) {m m' : Lent} {c : State} {o : Out (Unit {0})} → Working (nf_explain (way false l) (way false r)) m m' c o → Working (nf_explain l r) m m' c o
unfolding way
front-pairs l r w = w
