-- Signed numbers: a u32 read as an i32, and the minus sign.
use mathlib.Core.Path.{◌≡◌, refl, sym, ap, ◌∙◌}
use mathlib.Core.Bool.{Bool, true, false, ◌&&◌}
use mathlib.Core.List.{List, [], ◌∷◌}
use mathlib.Core.Option.{none, some}
use Prim.Native.Nat.{ℕ, zero, suc, ◌<◌, ◌≤◌}
use native.Mathlib.Omega.{arith}
use lib.ListN.{length, take, drop}
use lib.IntN.{ℤ, pos}
use lib.Dec.{eqb, ltb, leb}
use lib.Pointwise.{pointwise}
use borrow.Author.Tests.{ltb-true}
use Rattle.records.specs.Lists.{all}
use Rattle.records.proofs.Lists.{decide, both_left, both_right}
use mir.Syntax.{w32}
use mir.Val.{to_z, of_z}
use mir.ValLaws.{to_z_pos}
use mir.Facts.{to_z-of_z}
use Rattle.commands.specs.Texts.{negated, above, below, number_below, guard_of, is_digit, value_from}

pub positive_is : (x : ℕ) → x < 0x8000_0000 → to_z w32 x ≡ pos x
positive_is x h = to_z_pos w32 x h

-- the number that was read is below the limit
pub number-low : (m : ℕ) (w : List ℕ) (x : ℕ) → some x ≡ number_below m w → x < m
unfolding number_below
number-low m w x s = decide (leb 1 (length w) && all is_digit w && ltb (value_from 0 w) m)
    (λ t. let p : some x ≡ some (value_from 0 w) = s ∙ rw t in
    let q : x ≡ value_from 0 w = cc in
    let h = ltb-true (value_from 0 w) m (both_right (leb 1 (length w) && all is_digit w) (ltb (value_from 0 w) m) t) in
    omega arith)
    (λ t. let p : some x ≡ none = s ∙ rw t in let z : ◌≡◌ {A = ℕ} 0 1 = cc in absurd (omega arith))

-- a number that an i32 holds is what its bits say
negated_back : (x : ℕ) → x ≤ 0x8000_0000 → to_z w32 (of_z w32 (negated x)) ≡ negated x
negated_back zero h = refl
negated_back (suc x) h = to_z-of_z {w = w32} (record { sfits = h })

-- A GUARD

-- whether the first byte is the minus sign
abbrev signed : List ℕ → Bool
signed w = pointwise eqb (take 1 w) (45 ∷ [])

guard-below : (w : List ℕ) → signed w ≡ true → guard_of w ≡ below (number_below 0x8000_0001 (drop 1 w))
unfolding guard_of
guard-below [] e = let z : ◌≡◌ {A = ℕ} 0 1 = cc in absurd (omega arith)
guard-below (b ∷ w) e = rw (both_left (eqb b 45) true e, guard_of)

guard-above : (w : List ℕ) → signed w ≡ false → guard_of w ≡ above (number_below 0x8000_0000 w)
unfolding guard_of number_below
guard-above [] e = refl
guard-above (b ∷ w) e = decide (eqb b 45)
    (λ t. let z : ◌≡◌ {A = Bool} true false = rw t at e in absurd (let y : ◌≡◌ {A = ℕ} 0 1 = cc in omega arith))
    (λ t. rw (t, guard_of))

module _ (w d : List ℕ) (e : signed w ≡ true) (p : d ≡ drop 1 w) where
  whole_below : guard_of w ≡ below (number_below 0x8000_0001 d)
  whole_below = rw p (guard-below w e)

  pub below-is : (x : ℕ) (g : ℤ) → some x ≡ number_below 0x8000_0001 d → g ≡ negated x → some (to_z w32 (of_z w32 g)) ≡ guard_of w
  below-is x g s k =
      let h = number-low 0x8000_0001 d x s in
      sym (whole_below ∙ ap below (sym s) ∙ ap some (sym (ap (λ (z : ℤ). to_z w32 (of_z w32 z)) k ∙ negated_back x (omega arith))))

  pub below_none : none ≡ number_below 0x8000_0001 d → none ≡ guard_of w
  below_none s = sym (whole_below ∙ ap below (sym s))

module _ (w : List ℕ) (e : signed w ≡ false) where
  pub above_is : (x : ℕ) (g : ℤ) → some x ≡ number_below 0x8000_0000 w → g ≡ pos x → some (to_z w32 (of_z w32 g)) ≡ guard_of w
  above_is x g s k =
      let h = number-low 0x8000_0000 w x s in
      sym (guard-above w e ∙ ap above (sym s) ∙ ap some (sym (ap (λ (z : ℤ). to_z w32 (of_z w32 z)) k ∙ positive_is x h)))

  pub above-none : none ≡ number_below 0x8000_0000 w → none ≡ guard_of w
  above-none s = sym (guard-above w e ∙ ap above (sym s))
