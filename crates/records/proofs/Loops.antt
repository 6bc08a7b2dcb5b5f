-- Loops over the elements of a list in turn: the test, or the sum, of those that are left and of those that were met is that of all.
use mathlib.Core.Path.{◌≡◌, sym, ap, ◌∙◌}
use mathlib.Core.Bool.{Bool, true, false, ◌&&◌, ◌||◌}
use mathlib.Core.List.{List, [], ◌∷◌}
use Prim.Native.Nat.{ℕ, suc, ◌+◌, ◌*◌, ◌≤◌, ◌<◌}
use native.Mathlib.Numerals.{add-one}
use native.Mathlib.Omega.{arith}
use lib.ListN.{length, drop, get_or, drop_of_length-le}
use lib.Seq.{drop-cons}
use Rattle.records.specs.Lists.{all, any}
use Rattle.records.proofs.Lists.{left_false, or_left}

-- TESTS

module _ (p : ℕ → Bool) (l : List ℕ) (i : ℕ) where
  -- each passes
  module _ (h : all p (drop i l) ≡ all p l) where
    module _ (q : i < length l) where
      all-at : all p l ≡ (p (get_or l i 0) && all p (drop (suc i) l))
      unfolding all
      all-at = sym h ∙ rw (drop-cons l i 0 q)

      pub all-stop : p (get_or l i 0) ≡ false → false ≡ all p l
      all-stop e = sym (all-at ∙ left_false _ _ e)

      pub all-turn : p (get_or l i 0) ≡ true → all p (drop (i + 1) l) ≡ all p l
      all-turn e = rw add-one (sym (all-at ∙ ap (λ (x : Bool). x && all p (drop (suc i) l)) e))

    pub all_done : length l ≤ i → true ≡ all p l
    unfolding all
    all_done q = rw (drop_of_length-le l q) at h

  -- some one passes
  module _ (h : any p (drop i l) ≡ any p l) where
    module _ (q : i < length l) where
      any_at : any p l ≡ (p (get_or l i 0) || any p (drop (suc i) l))
      unfolding any
      any_at = sym h ∙ rw (drop-cons l i 0 q)

      pub any-stop : p (get_or l i 0) ≡ true → true ≡ any p l
      any-stop e = sym (any_at ∙ or_left _ _ e)

      pub any-turn : p (get_or l i 0) ≡ false → any p (drop (i + 1) l) ≡ any p l
      any-turn e = rw add-one (sym (any_at ∙ ap (λ (x : Bool). x || any p (drop (suc i) l)) e))

    pub any-done : length l ≤ i → false ≡ any p l
    unfolding any
    any-done q = rw (drop_of_length-le l q) at h

-- SUMS

-- a number, at most `most`, is added for each element: what is added so far, and the sum of those that are left, is the sum of all
pub record Summing (sum : List ℕ → ℕ) (most : ℕ) (l : List ℕ) (total i : ℕ) : Type 0 where
  pub within : i ≤ length l
  pub small : total ≤ most * i
  pub rest : total + sum (drop i l) ≡ sum l

module _ (sum : List ℕ → ℕ) (most : ℕ) (l : List ℕ) where
  pub summing_none : Summing sum most l 0 0
  summing_none = record { within = omega arith; small = omega arith; rest = omega arith }

  module _ (total i : ℕ) (s : Summing sum most l total i) where
    pub summing_turn : (one : ℕ → ℕ) → ((a : ℕ) (r : List ℕ) → sum (a ∷ r) ≡ one a + sum r) → (n : ℕ) → i < length l → n ≡ one (get_or l i 0) → n ≤ most → Summing sum most l (total + n) (i + 1)
    summing_turn one cons n h e b =
        let f : sum (drop i l) ≡ one (get_or l i 0) + sum (drop (suc i) l) = ap sum (drop-cons l i 0 h) ∙ cons (get_or l i 0) (drop (suc i) l) in
        let r = s.rest in
        let k = s.small in
        record { within = omega arith; small = omega arith; rest = rw add-one (omega arith) }

    pub summing_all : sum [] ≡ 0 → length l ≤ i → total ≡ sum l
    summing_all z h =
        let r = s.rest in
        let e : sum (drop i l) ≡ 0 = ap sum (drop_of_length-le l h) ∙ z in
        omega arith
