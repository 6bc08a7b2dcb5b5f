-- Where a walk among n numbers ends at all, it ends within n steps: of n + 1 numbers met two are equal.
use Rattle.std.specs.Prelude.{if◌then◌else◌}
use mathlib.Core.Path.{◌≡◌, refl, sym, ap, subst, ◌∙◌}
use mathlib.Core.Bool.{true}
use mathlib.Core.Logic.{◌⊎◌, inl, inr, ⊎_elim}
use Prim.Native.Nat.{ℕ, zero, suc, ◌+◌, ◌-◌, ◌≤◌, ◌<◌}
use native.Mathlib.Nat.{eq-or-lt_of_le}
use native.Mathlib.Decide.{ℕ_discrete}
use native.Mathlib.Omega.{arith}
use lib.Dec.{ltb}
use borrow.Author.Tests.{ltb-true, ltb-false}
use Rattle.records.specs.Store.{within, climb}
use Rattle.records.specs.Working.Audited.{Closed}
use Rattle.records.proofs.Lists.{decide, within_low, within-high}
use Rattle.records.proofs.Climbs.{climb-last, climb-stays, climb_add, climb-within}

-- TWO EQUAL VALUES

record Repeat (f : ℕ → ℕ) (n : ℕ) : Type 0 where
  one : ℕ
  other : ℕ
  before : one < other
  last : other ≤ n
  same : f one ≡ f other

record Met (f : ℕ → ℕ) (v k : ℕ) : Type 0 where
  at : ℕ
  below : at < k
  is : f at ≡ v

seek_last : (f : ℕ → ℕ) (v k : ℕ) → ((i : ℕ) → i < k → f i ≡ v → ⊥) → Dec (f k ≡ v) → Met f v (suc k) ⊎ ((i : ℕ) → i < suc k → f i ≡ v → ⊥)
seek_last f v k z (yes e) = inl (record { at = k; below = omega arith; is = e })
seek_last f v k z (no d) = inr (λ i h e. let j : i ≤ k = omega arith in ⊎_elim (λ q. d (subst (λ (x : ℕ). f x ≡ v) q e)) (λ q. z i q e) (eq-or-lt_of_le j))

seek : (f : ℕ → ℕ) (v k : ℕ) → Met f v k ⊎ ((i : ℕ) → i < k → f i ≡ v → ⊥)
seek f v zero = inr (λ i h e. absurd (omega arith))
seek f v (suc k) =
    ⊎_elim (λ m. inl (record { at = m.at; below = (let b = m.below in omega arith); is = m.is })) (λ z. seek_last f v k z (ℕ_discrete (f k) v)) (seek f v k)

-- v left out, what is above it is one lower
abbrev squeeze : ℕ → ℕ → ℕ
squeeze v x = if ltb v x then x - 1 else x

lower : (v x : ℕ) → (x ≡ v → ⊥) → x ≤ v → x < v
lower v x d h = ⊎_elim (λ e. absurd (d e)) (λ e. e) (eq-or-lt_of_le h)

squeezed : (v x n : ℕ) → (x ≡ v → ⊥) → x < suc n → v < suc n → squeeze v x < n
squeezed v x n d h k = decide (ltb v x) (λ e. let l = ltb-true v x e in rw e (omega arith)) (λ e. let l = lower v x d (ltb-false v x e) in rw e (omega arith))

unsqueezed : (v x y : ℕ) → (x ≡ v → ⊥) → (y ≡ v → ⊥) → squeeze v x ≡ squeeze v y → x ≡ y
unsqueezed v x y d k q = decide (ltb v x)
    (λ e. decide (ltb v y)
    (λ f. let g = rw (e, f) at q in let l = ltb-true v x e in let m = ltb-true v y f in omega arith)
    (λ f. let g = rw (e, f) at q in let l = ltb-true v x e in let m = lower v y k (ltb-false v y f) in absurd (omega arith)))
    (λ e. decide (ltb v y)
    (λ f. let g = rw (e, f) at q in let l = lower v x d (ltb-false v x e) in let m = ltb-true v y f in absurd (omega arith))
    (λ f. rw (e, f) at q))

-- n + 1 values below n
repeat_next : (n : ℕ) → ((f : ℕ → ℕ) → ((i : ℕ) → i ≤ n → f i < n) → Repeat f n) → (f : ℕ → ℕ) → ((i : ℕ) → i ≤ suc n → f i < suc n) → Repeat f (suc n)
repeat_next n ih f h = ⊎_elim met new (seek f (f (suc n)) (suc n))
  where
    met : Met f (f (suc n)) (suc n) → Repeat f (suc n)
    met m = record { one = m.at; other = suc n; before = m.below; last = omega arith; same = m.is }

    new : ((i : ℕ) → i < suc n → f i ≡ f (suc n) → ⊥) → Repeat f (suc n)
    new z =
        let r = ih (λ i. squeeze (f (suc n)) (f i)) (λ i k. squeezed (f (suc n)) (f i) n (z i (omega arith)) (h i (omega arith)) (h (suc n) (omega arith))) in
        let b = r.before in
        let l = r.last in
        record {
          one = r.one;
          other = r.other;
          before = b;
          last = omega arith;
          same = unsqueezed (f (suc n)) (f r.one) (f r.other) (z r.one (omega arith)) (z r.other (omega arith)) r.same;
        }

repeat : (n : ℕ) (f : ℕ → ℕ) → ((i : ℕ) → i ≤ n → f i < n) → Repeat f n
repeat zero f h = let q = h 0 (omega arith) in absurd (omega arith)
repeat (suc n) f h = repeat_next n (repeat n) f h

-- WALKS

module _ (up : ℕ → ℕ) where
  record Back (x y : ℕ) : Type 0 where
    steps : ℕ
    leads : climb up steps y ≡ x

  -- a number that p + 1 steps lead back to is led back to from each that it leads to
  back_next : (p x y : ℕ) → climb up (suc p) x ≡ x → (j : ℕ) → climb up j y ≡ x → Back x (up y)
  unfolding climb
  back_next p x y e zero q = record { steps = p; leads = ap (λ (z : ℕ). climb up p (up z)) q ∙ e }
  back_next p x y e (suc j) q = record { steps = j; leads = q }

  back : (p x : ℕ) → climb up (suc p) x ≡ x → (k : ℕ) → Back x (climb up k x)
  unfolding climb
  back p x e zero = record { steps = 0; leads = refl }
  back p x e (suc k) = let b = back p x e k in subst (Back x) (sym (climb-last up k x)) (back_next p x (climb up k x) e b.steps b.leads)

  -- two ends of one walk are one
  pub climb_one : (j k t : ℕ) → up (climb up j t) ≡ climb up j t → up (climb up k t) ≡ climb up k t → climb up j t ≡ climb up k t
  climb_one j k t e f =
      let c : j + k ≡ k + j = omega arith in
      sym (climb-stays up k (climb up j t) e) ∙ sym (climb_add up j k t) ∙ ap (λ (n : ℕ). climb up n t) c ∙ climb_add up k j t ∙ climb-stays up j (climb up k t) f

  module _ (n t : ℕ) (closed : Closed up n) (w : within n t ≡ true) (k : ℕ) (ends : up (climb up k t) ≡ climb up k t) where
    met_low : (i : ℕ) → 0 < climb up i t
    met_low i = within_low n (climb up i t) (climb-within up n i t closed w)

    met_high : (i : ℕ) → climb up i t ≤ n
    met_high i = within-high n (climb up i t) (climb-within up n i t closed w)

    -- a number that is met twice is the end
    twice : (i p : ℕ) → climb up (suc p) (climb up i t) ≡ climb up i t → up (climb up i t) ≡ climb up i t
    twice i p e =
        let c : i + k ≡ k + i = omega arith in
        let q : climb up k (climb up i t) ≡ climb up k t =
        sym (climb_add up i k t) ∙ ap (λ (m : ℕ). climb up m t) c ∙ climb_add up k i t ∙ climb-stays up i (climb up k t) ends in
        let b = back p (climb up i t) e k in
        let r : climb up i t ≡ climb up k t = sym b.leads ∙ ap (climb up b.steps) q ∙ climb-stays up b.steps (climb up k t) ends in
        rw r ends

    -- n steps are enough
    pub climb_enough : up (climb up n t) ≡ climb up n t
    climb_enough =
        let r = repeat n (λ i. climb up i t - 1) (λ i h. let a = met_low i in let b = met_high i in omega arith) in
        let b = r.before in
        let l = r.last in
        let s : climb up r.one t - 1 ≡ climb up r.other t - 1 = r.same in
        let m₁ = met_low r.one in
        let m₂ = met_low r.other in
        let e : climb up r.one t ≡ climb up r.other t = omega arith in
        at r.one r.other b l e
      where
        at : (i j : ℕ) → i < j → j ≤ n → climb up i t ≡ climb up j t → up (climb up n t) ≡ climb up n t
        at i j b l e =
            let c : i + suc (j - suc i) ≡ j = omega arith in
            let d : i + (n - i) ≡ n = omega arith in
            let f = twice i (j - suc i) (sym (climb_add up i (suc (j - suc i)) t) ∙ ap (λ (m : ℕ). climb up m t) c ∙ sym e) in
            let g : climb up n t ≡ climb up i t = sym (ap (λ (m : ℕ). climb up m t) d) ∙ climb_add up i (n - i) t ∙ climb-stays up (n - i) (climb up i t) f in
            rw g f
