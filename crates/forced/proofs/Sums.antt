-- The quotient and the remainder, or the shortage, add up.
use Rattle.std.specs.Prelude.{if◌then◌else◌}
use mathlib.Core.Path.{◌≡◌, refl}
use mathlib.Core.Bool.{Bool, true, false}
use Prim.Native.Nat.{ℕ, ◌+◌, ◌*◌, ◌-◌, ◌/◌, ◌%◌, ◌≤◌, ◌<◌}
use native.Mathlib.Nat.{mod-lt, mod-le, div-add-mod, div-le_self}
use native.Mathlib.Omega.{arith}
use lib.Dec.{ltb}
use borrow.Author.Tests.{ltb-true, ltb-false}
use Rattle.forced.specs.Forced.{spans, short, span_of}
use Rattle.forced.specs.Forces.{Sums, Unfit, letter_limit, FewSpan}

-- the number is its quotient's multiple and its remainder
parts : (n k : ℕ) → k * (n / k) + n % k ≡ n
parts n k = div-add-mod n k

added : (l c y r : ℕ) → c ≤ l → y + r ≡ l - c → l ≡ c + y + r
added l c y r h e = omega arith

pub span-sums : (k c l : ℕ) → 0 < k → Sums k c l (span_of k c l)
span-sums k c l p = go (ltb l c) refl
  where
    go : (b : Bool) → ltb l c ≡ b → Sums k c l (if b then short (c - l) else spans ((l - c) / k) ((l - c) % k))
    go true e = let h = ltb-true l c e in (omega arith, omega arith)
    go false e = (added l c (k * ((l - c) / k)) ((l - c) % k) (ltb-false l c e) (parts (l - c) k), mod-lt (l - c) p)

pub span-few : (k c l : ℕ) → c ≤ letter_limit → l ≤ letter_limit → FewSpan (span_of k c l)
span-few k c l p q = go (ltb l c)
  where
    go : (b : Bool) → FewSpan (if b then short (c - l) else spans ((l - c) / k) ((l - c) % k))
    go true = omega arith
    go false = (let a = div-le_self (l - c) k in omega arith, let a = mod-le (l - c) k in omega arith)

-- WHERE SOMETHING IS LEFT OVER OR LACKING

-- a shortage, or a remainder above 0
pub data Cause (k c l : ℕ) : Type 0 where
  lacks : l < c → Cause k c l
  leaves : c ≤ l → 0 < (l - c) % k → Cause k c l

pub cause_of : (k c l : ℕ) → Unfit (span_of k c l) → Cause k c l
cause_of k c l u = go (ltb l c) refl u
  where
    go : (b : Bool) → ltb l c ≡ b → Unfit (if b then short (c - l) else spans ((l - c) / k) ((l - c) % k)) → Cause k c l
    go true e u = lacks (ltb-true l c e)
    go false e u = leaves (ltb-false l c e) u

module _ (k c l : ℕ) (h : c ≤ l) (u : 0 < (l - c) % k) where
  -- no quotient makes up l
  pub uneven : k * ((l - c) / k) + c ≡ l → ⊥
  uneven e = go (k * ((l - c) / k)) ((l - c) % k) (parts (l - c) k) e u
    where
      go : (y r : ℕ) → y + r ≡ l - c → y + c ≡ l → 0 < r → ⊥
      go y r d e p = omega arith

  -- something is left over, so l is not 0, and there are two variables or more
  pub some_left : 0 < l
  some_left = go (k * ((l - c) / k)) ((l - c) % k) (parts (l - c) k) u
    where
      go : (y r : ℕ) → y + r ≡ l - c → 0 < r → 0 < l
      go y r e p = omega arith

  pub two-left : 0 < k → 2 ≤ k
  two-left p = go ((l - c) % k) (mod-lt (l - c) p) u
    where
      go : (r : ℕ) → r < k → 0 < r → 2 ≤ k
      go r q p = omega arith
