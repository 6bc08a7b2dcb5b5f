-- The lowest of n terms above another in a bucket, over plain functions: what `next_in` is, and that it is one.
use mathlib.Core.Path.{◌≡◌, refl, sym, ◌∙◌}
use mathlib.Core.Bool.{Bool, true, false, ◌&&◌}
use mathlib.Core.Option.{Option, none, some}
use Prim.Native.Nat.{ℕ, suc, ◌≤◌, ◌<◌}
use native.Mathlib.Omega.{arith}
use lib.Dec.{eqb, ltb}
use borrow.Author.Tests.{eqb-true, eq-eqb, ltb-true, ltb-false, lt-ltb}
use Rattle.records.specs.Lists.{first_below}
use Rattle.records.specs.Store.{or_none}
use Rattle.records.proofs.Lists.{both_left, both_right, both_true, clash, decide, first-none, first_some, first-stays}
use Rattle.records.specs.Index.{next_in}

-- what is below the lowest number that passes does not pass
first-lower : (p : ℕ → Bool) (n i : ℕ) → first_below p n ≡ some i → (k : ℕ) → k < i → p k ≡ false
first-lower p n i e k h = go (first_below p i) refl
  where
    go : (o : Option ℕ) → first_below p i ≡ o → p k ≡ false
    go none q = first-none p i q k h
    go (some j) q =
        let f = first_some p n i e in
        let g = first_some p i j q in
        let a = f.below in
        let b = g.below in
        let z = first-stays p i n j q (omega arith) in
        let y : i ≡ j = cc in absurd (omega arith)

-- x is the lowest above t of n terms that is in bucket b, or 0 where there is none
pub data Lowest (f : ℕ → ℕ) (n t b x : ℕ) : Type 0 where
  nothing : x ≡ 0 → ((u : ℕ) → t < u → u ≤ n → f u ≡ b → ⊥) → Lowest f n t b x
  lowest : t < x → x ≤ n → f x ≡ b → ((u : ℕ) → t < u → u < x → f u ≡ b → ⊥) → Lowest f n t b x

module _ (f : ℕ → ℕ) (n t b : ℕ) where
  abbrev sought : ℕ → Bool
  sought u = ltb t u && eqb (f u) b

  sought-is : (u : ℕ) → t < u → f u ≡ b → sought u ≡ true
  sought-is u h e = both_true (ltb t u) (eqb (f u) b) (lt-ltb t u h) (eq-eqb (f u) b e)

  pub next-lowest : Lowest f n t b (next_in f n t b)
  unfolding next_in
  next-lowest = go (first_below sought (suc n)) refl
    where
      go : (o : Option ℕ) → first_below sought (suc n) ≡ o → Lowest f n t b (or_none o)
      go none e = nothing refl (λ u h k q. clash (sought-is u h q) (first-none sought (suc n) e u (omega arith)))
      go (some x) e =
          let g = first_some sought (suc n) x e in
          let k = g.below in
          let p = g.passes in
          lowest (ltb-true t x (both_left (ltb t x) (eqb (f x) b) p)) (omega arith) (eqb-true (f x) b (both_right (ltb t x) (eqb (f x) b) p))
          (λ u h l q. clash (sought-is u h q) (first-lower sought (suc n) x e u l))

  lowest-one : (x y : ℕ) → Lowest f n t b x → Lowest f n t b y → x ≡ y
  lowest-one x y (nothing e g) (nothing e' g') = e ∙ sym e'
  lowest-one x y (nothing e g) (lowest h k q g') = absurd (g y h k q)
  lowest-one x y (lowest h k q g) (nothing e g') = absurd (g' x h k q)
  lowest-one x y (lowest h k q g) (lowest h' k' q' g') =
      decide (ltb x y) (λ e. absurd (g' x h (ltb-true x y e) q))
      (λ e. decide (ltb y x) (λ e'. absurd (g y h' (ltb-true y x e') q')) (λ e'. let i = ltb-false x y e in let j = ltb-false y x e' in omega arith))

  pub next_is : (x : ℕ) → Lowest f n t b x → x ≡ next_in f n t b
  next_is x w = lowest-one x (next_in f n t b) w next-lowest

  -- it is one of the n terms, or 0
  pub next_most : next_in f n t b ≤ n
  next_most = go (next_in f n t b) next-lowest
    where
      go : (x : ℕ) → Lowest f n t b x → x ≤ n
      go x (nothing e g) = omega arith
      go x (lowest h k q g) = k

  -- where there is none, no term above t is in bucket b
  pub next-none : next_in f n t b ≡ 0 → (u : ℕ) → t < u → u ≤ n → f u ≡ b → ⊥
  next-none e = go (next_in f n t b) e next-lowest
    where
      go : (x : ℕ) → x ≡ 0 → Lowest f n t b x → (u : ℕ) → t < u → u ≤ n → f u ≡ b → ⊥
      go x e (nothing z g) u h k q = g u h k q
      go x e (lowest h k q g) u h' k' q' = omega arith
