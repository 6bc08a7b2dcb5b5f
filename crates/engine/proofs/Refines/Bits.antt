-- One bit of a word set, and the places of pairs in a table.
use mathlib.Core.Path.{◌≡◌, refl, sym, ap, ◌∙◌}
use mathlib.Core.Bool.{Bool, true, false}
use mathlib.Core.List.{List}
use Prim.Native.Nat.{ℕ, zero, suc, ◌+◌, ◌*◌, ◌/◌, ◌%◌, ◌^◌, ◌≤◌, ◌<◌, min, max}
use native.Mathlib.Nat.{mul-le-mul, pow-suc}
use native.Mathlib.Decide.{ℕ_discrete}
use native.Mathlib.Omega.{arith}
use lib.ListN.{length, get_or, set, length-set}
use lib.Seq.{get_or-set_same, get_or-set_other}
use lib.Pow.{shr-shr, shl_exact}
use lib.Dec.{eqb, ltb}
use borrow.Author.Tests.{eqb-false, eq-eqb, ltb-true, ltb-false}
use Rattle.engine.specs.Working.Seen.{triangle, place, bit, seen_at, Noted}

-- a digit of the half is the next digit of the whole
half : (w j : ℕ) → w / 2 ^ suc j ≡ w / 2 / 2 ^ j
half w j = sym (shr-shr w 1 j ∙ ap (λ (k : ℕ). w / 2 ^ k) (omega arith))

twice : (j : ℕ) → 2 ^ suc j ≡ 2 * 2 ^ j
twice j = pow-suc 2 j ∙ (let p = 2 ^ j in omega arith)

half_add : (w j : ℕ) → (w + 2 ^ suc j) / 2 ≡ w / 2 + 2 ^ j
half_add w j = let e = twice j in omega arith

digit_set : (b w : ℕ) → w / 2 ^ b % 2 ≡ 0 → (w + 2 ^ b) / 2 ^ b % 2 ≡ 1
digit_set zero w h = omega arith
digit_set (suc b) w h =
    rw (half (w + 2 ^ suc b) b, half_add w b) (digit_set b (w / 2) (rw (half w b) at h))

digit_kept : (b j w : ℕ) → (j ≡ b → ⊥) → w / 2 ^ b % 2 ≡ 0 → (w + 2 ^ b) / 2 ^ j % 2 ≡ w / 2 ^ j % 2
digit_kept zero zero w d h = absurd (d refl)
digit_kept zero (suc j) w d h =
    let e : (w + 2 ^ 0) / 2 ≡ w / 2 = omega arith in
    rw (half (w + 2 ^ 0) j, half w j, e)
digit_kept (suc b) zero w d h = let e = twice b in omega arith
digit_kept (suc b) (suc j) w d h =
    rw (half (w + 2 ^ suc b) j, half_add w b, half w j) (digit_kept b j (w / 2) (λ e. d (ap suc e)) (rw (half w b) at h))

digit_fits : (b n w : ℕ) → b < n → w / 2 ^ b % 2 ≡ 0 → w < 2 ^ n → w + 2 ^ b < 2 ^ n
digit_fits zero zero w l h f = absurd (omega arith)
digit_fits zero (suc n) w l h f = let e = twice n in omega arith
digit_fits (suc b) zero w l h f = absurd (omega arith)
digit_fits (suc b) (suc n) w l h f =
    let e = twice n in
    let g = twice b in
    let k = digit_fits b n (w / 2) (omega arith) (rw (half w b) at h) (omega arith) in omega arith

digit_low : (w b : ℕ) → bit w b ≡ false → w / 2 ^ b % 2 ≡ 0
unfolding bit
digit_low w b e = let d = eqb-false (w / 2 ^ b % 2) 1 e in omega arith

pub bit-fits : (w b : ℕ) → b < 32 → bit w b ≡ false → w < 2 ^ 32 → w + 2 ^ b < 2 ^ 32
bit-fits w b l e f = digit_fits b 32 w l (digit_low w b e) f

pub bit-set : (w b : ℕ) → bit w b ≡ false → bit (w + 2 ^ b) b ≡ true
unfolding bit
bit-set w b e = eq-eqb _ 1 (digit_set b w (digit_low w b e))

pub bit_kept : (w b j : ℕ) → bit w b ≡ false → (j ≡ b → ⊥) → bit (w + 2 ^ b) j ≡ bit w j
unfolding bit
bit_kept w b j e d = ap (λ (x : ℕ). eqb x 1) (digit_kept b j w d (digit_low w b e))

-- the table with the bit of place k set
pub note_set : (table : List ℕ) (k : ℕ) → k < 32 * length table → seen_at table k ≡ false
    → Noted table (set table (k / 32) (get_or table (k / 32) 0 + 2 ^ (k % 32))) k
unfolding seen_at
note_set table k h e =
    let i = k / 32 in
    let w = get_or table (k / 32) 0 in
    let inside : k / 32 < length table = omega arith in
    let now : get_or (set table (k / 32) (w + 2 ^ (k % 32))) (k / 32) 0 ≡ w + 2 ^ (k % 32) = get_or-set_same table (k / 32) (w + 2 ^ (k % 32)) 0 inside in
    record {
      here = rw now (bit-set w (k % 32) e);
      elsewhere = λ j d. go j d (ℕ_discrete (j / 32) (k / 32));
      long = length-set table (k / 32) (w + 2 ^ (k % 32));
    }
  where
    go : (j : ℕ) → (j ≡ k → ⊥) → Dec (j / 32 ≡ k / 32)
        → bit (get_or (set table (k / 32) (get_or table (k / 32) 0 + 2 ^ (k % 32))) (j / 32) 0) (j % 32) ≡ bit (get_or table (j / 32) 0) (j % 32)
    go j d (no n) = ap (λ (x : ℕ). bit x (j % 32)) (get_or-set_other table (k / 32) (j / 32) (get_or table (k / 32) 0 + 2 ^ (k % 32)) 0 n)
    go j d (yes y) =
        let m : j % 32 ≡ k % 32 → ⊥ = λ q. d (omega arith) in
        rw (y, get_or-set_same table (k / 32) (get_or table (k / 32) 0 + 2 ^ (k % 32)) 0 (omega arith)) (bit_kept (get_or table (k / 32) 0) (k % 32) (j % 32) e m)

-- THE PLACE OF A PAIR

triangle-twice : (n : ℕ) → n * (n + 1) ≡ 2 * triangle n
unfolding triangle
triangle-twice zero = native.Mathlib.Nat.zero-mul 1
triangle-twice (suc n) =
    let e = triangle-twice n in
    let a : suc n + 1 ≡ (n + 1) + 1 = omega arith in
    let b = native.Mathlib.Nat.suc-mul n ((n + 1) + 1) in
    let d = native.Mathlib.Nat.mul-add n (n + 1) 1 in
    let f = native.Mathlib.Nat.mul-one n in rw a (omega arith)

-- as it is computed
triangle_half : (n : ℕ) → n * (n + 1) / 2 ≡ triangle n
triangle_half n = let e = triangle-twice n in omega arith

triangle-up : (m n : ℕ) → m ≤ n → triangle m ≤ triangle n
unfolding triangle
triangle-up m zero h = let e : m ≡ 0 = omega arith in rw e (omega arith)
triangle-up m (suc n) h = go (triangle-up m n) (ℕ_discrete m (suc n))
  where
    go : (m ≤ n → triangle m ≤ triangle n) → Dec (m ≡ suc n) → triangle m ≤ triangle n + suc n
    go ih (yes e) = rw e (omega arith)
    go ih (no d) = let k = ih (omega arith) in omega arith

triangle-next : (m n : ℕ) → m < n → triangle m + m < triangle n
unfolding triangle
triangle-next m n h = let k = triangle-up (suc m) n (omega arith) in omega arith

pub place_of_sorted : (a b h l : ℕ) → h ≡ max a b → l ≡ min a b → h * (h + 1) / 2 + l ≡ place a b
place_of_sorted a b h l i j = rw (i, j, triangle_half (max a b))

-- the places of numbers up to n
pub place-small : (n a b : ℕ) → a ≤ n → b ≤ n → place a b ≤ triangle n + n
place-small n a b h k = let p = triangle-up (max a b) n (omega arith) in omega arith

-- a table for numbers up to m is one for fewer; m is given as it is computed
pub triangle-within : (n m w : ℕ) → n ≤ m → 32 * (m + 1) + m * (m + 1) / 2 + m < w → 32 * (n + 1) + triangle n + n < w
triangle-within n m w h k = let p = triangle-up n m h in let e = triangle_half m in omega arith

-- equal places are equal pairs, each in one order
pub place-pair : (a b c d : ℕ) → place a b ≡ place c d → (min a b ≡ min c d) × (max a b ≡ max c d)
place-pair a b c d e = go (ℕ_discrete (max a b) (max c d))
  where
    apart : (p q r s : ℕ) → p < r → q ≤ p → triangle p + q ≡ triangle r + s → ⊥
    apart p q r s h k i = let z = triangle-next p r h in omega arith

    go : Dec (max a b ≡ max c d) → (min a b ≡ min c d) × (max a b ≡ max c d)
    go (yes i) = let t = ap triangle i in (omega arith, i)
    go (no n) = absurd (n (low (ltb (max a b) (max c d)) refl))
      where
        low : (v : Bool) → ltb (max a b) (max c d) ≡ v → max a b ≡ max c d
        low true i = absurd (apart (max a b) (min a b) (max c d) (min c d) (ltb-true _ _ i) (omega arith) e)
        low false i = let h = ltb-false (max a b) (max c d) i in absurd (apart (max c d) (min c d) (max a b) (min a b) (omega arith) (omega arith) (sym e))

-- a shifted 1
pub one_shifted : (j : ℕ) → j < 32 → (1 * 2 ^ j) % 4294967296 ≡ 2 ^ j
one_shifted j h = shl_exact {a = 1} 1 j 32 (omega arith) (omega arith) ∙ native.Mathlib.Nat.one-mul (2 ^ j)

pub shifted_fits : (w k : ℕ) → bit w (k % 32) ≡ false → w < 2 ^ 32 → w + (1 * 2 ^ (k % 32)) % 4294967296 < 2 ^ 32
shifted_fits w k e f = rw (one_shifted (k % 32) (omega arith)) (bit-fits w (k % 32) (omega arith) e f)

pub note_shifted : (table : List ℕ) (k : ℕ) → k < 32 * length table → seen_at table k ≡ false
    → Noted table (set table (k / 32) (get_or table (k / 32) 0 + (1 * 2 ^ (k % 32)) % 4294967296)) k
note_shifted table k h e = rw (one_shifted (k % 32) (omega arith)) (note_set table k h e)
