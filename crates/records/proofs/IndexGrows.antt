-- One term more, and a cut back to fewer: the lowest above a term in a bucket, from that of more or of fewer terms.
use Rattle.std.specs.Prelude.{if◌then◌else◌}
use mathlib.Core.Path.{◌≡◌, refl, sym, ◌∙◌}
use mathlib.Core.Bool.{Bool, true, false}
use mathlib.Core.Logic.{⊎_elim}
use Prim.Native.Nat.{ℕ, suc, ◌≤◌, ◌<◌}
use native.Mathlib.Nat.{eq-or-lt_of_le, le_of_suc-le-suc}
use native.Mathlib.Omega.{arith}
use lib.Dec.{leb}
use borrow.Author.Tests.{leb-true, leb-false}
use Rattle.records.specs.Index.{next_in}
use Rattle.records.specs.Working.Indexing.{cut_at}
use Rattle.records.proofs.IndexNexts.{Lowest, nothing, lowest, next-lowest, next_is}

-- buckets that agree on the terms
pub next-same : (f g : ℕ → ℕ) (n t b : ℕ) → ((u : ℕ) → 0 < u → u ≤ n → g u ≡ f u) → next_in g n t b ≡ next_in f n t b
next-same f g n t b h = next_is f n t b (next_in g n t b) (go (next_in g n t b) (next-lowest g n t b))
  where
    go : (x : ℕ) → Lowest g n t b x → Lowest f n t b x
    go x (nothing e k) = nothing e (λ u a c q. k u a c (h u (omega arith) c ∙ q))
    go x (lowest a c q k) = lowest a c (sym (h x (omega arith) c) ∙ q) (λ u a' c' q'. k u a' c' (h u (omega arith) (omega arith) ∙ q'))

module _ (f : ℕ → ℕ) (n t b : ℕ) where
  -- the last term ends its chain
  pub next_last : n ≤ t → next_in f n t b ≡ 0
  next_last h = sym (next_is f n t b 0 (nothing refl (λ u a c q. omega arith)))

  -- a new term of bucket b follows where a chain ended
  pub next-new : t ≤ n → f (suc n) ≡ b → next_in f n t b ≡ 0 → next_in f (suc n) t b ≡ suc n
  next-new h q e = sym (next_is f (suc n) t b (suc n) (lowest (omega arith) (omega arith) q (go (next-lowest f n t b))))
    where
      go : Lowest f n t b (next_in f n t b) → (u : ℕ) → t < u → u < suc n → f u ≡ b → ⊥
      go (nothing z k) u a c p = k u a (omega arith) p
      go (lowest z c p k) u a d r = omega arith

  -- no other word changes
  pub next-kept : (f (suc n) ≡ b → t ≤ n → next_in f n t b ≡ 0 → ⊥) → next_in f (suc n) t b ≡ next_in f n t b
  next-kept d = sym (next_is f (suc n) t b (next_in f n t b) (go (next-lowest f n t b)))
    where
      go : Lowest f n t b (next_in f n t b) → Lowest f (suc n) t b (next_in f n t b)
      go (nothing e k) = nothing e (λ u a c q. ⊎_elim (λ i. d (rw i at q) (omega arith) e) (λ i. k u a (le_of_suc-le-suc i) q) (eq-or-lt_of_le c))
      go (lowest a c q k) = lowest a (omega arith) q k

  -- a word that names a term above the n first becomes 0, and no other changes
  pub next-cut : (m : ℕ) → n ≤ m → next_in f n t b ≡ cut_at n (next_in f m t b)
  next-cut m h = sym (next_is f n t b _ (go (next_in f m t b) (next-lowest f m t b)))
    where
      cut : (x : ℕ) → t < x → f x ≡ b → ((u : ℕ) → t < u → u < x → f u ≡ b → ⊥) → (c : Bool) → leb x n ≡ c → Lowest f n t b (if c then x else 0)
      cut x a q k true e = lowest a (leb-true x n e) q k
      cut x a q k false e = let i = leb-false x n e in nothing refl (λ u a' c' q'. k u a' (omega arith) q')

      zero-stays : (x : ℕ) → x ≡ 0 → ((u : ℕ) → t < u → u ≤ m → f u ≡ b → ⊥) → (c : Bool) → Lowest f n t b (if c then x else 0)
      zero-stays x e k true = nothing e (λ u a c q. k u a (omega arith) q)
      zero-stays x e k false = nothing refl (λ u a c q. k u a (omega arith) q)

      go : (x : ℕ) → Lowest f m t b x → Lowest f n t b (cut_at n x)
      go x (nothing e k) = zero-stays x e k (leb x n)
      go x (lowest a c q k) = cut x a q k (leb x n) refl
