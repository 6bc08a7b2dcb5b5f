-- The pieces of a printed line.
use mathlib.Core.Path.{◌≡◌, refl, sym, ap, ◌∙◌}
use mathlib.Core.Bool.{Bool, true, false}
use mathlib.Core.List.{List, [], ◌∷◌, ◌++◌}
use Prim.Native.Nat.{ℕ, ◌≤◌}
use native.Mathlib.Omega.{arith}
use lib.ListN.{length, take, set, length-set}
use Rattle.records.proofs.Naming.{decimal-length}
use lib.Seq.{length-take-le, sets, sets-eq, take-suc-set}
use borrow.Author.Tests.{le-ltb}
use Rattle.records.specs.Make.{decimal_by}
use Rattle.records.specs.Working.Puts.{Written}
use lib.IntN.{ℤ, pos, negsuc, nat_abs}
use lib.Signed.{lt_z}
use mir.Syntax.{w32}
use mir.Val.{SFits, to_z, of_z}
use mir.Facts.{to_z-of_z}
use Rattle.commands.specs.Answers.{number_text, reason_letter, reason_text, is_below, guard_text, Piece}

piece : (l w : List ℕ) (r : ℕ) → take r l ≡ w → r ≤ length l → Piece l w r
piece l w r e h = record { text = e; within = h; whole = sym (length-take-le r l h) }

pub number_put : (l l' : List ℕ) (x r : ℕ) → 24 ≤ length l → length l' ≡ length (set l 0 32) → Written (set l 0 32) l' 1 (decimal_by 20 x) r → Piece l' (number_text x) r
unfolding number_text
number_put l l' x r h g w =
    let a = w.after in
    let b = length-set l 0 32 in
    let d = decimal-length 20 x in
    piece l' (32 ∷ decimal_by 20 x) r (w.words ∙ ap (λ (v : List ℕ). v ++ decimal_by 20 x) (take-suc-set l 0 32 (omega arith))) (omega arith)

reason_start : (l : List ℕ) (a : ℕ) → 2 ≤ length l → take 2 (sets l 0 (32 ∷ a ∷ [])) ≡ 32 ∷ a ∷ []
reason_start l a h = rw (sets-eq (32 ∷ a ∷ []) l 0 h)

pub reason_put : (l l' : List ℕ) (k n a r : ℕ) → 24 ≤ length l → length l' ≡ length (set (set l 0 32) 1 a) → a ≡ reason_letter k → Written (set (set l 0 32) 1 a) l' 2 (decimal_by 20 n) r
    → Piece l' (reason_text (k, n)) r
unfolding reason_text
reason_put l l' k n a r h g e w =
    let b = w.after in
    let c : length (set (set l 0 32) 1 a) ≡ length l = length-set (set l 0 32) 1 a ∙ length-set l 0 32 in
    let d = decimal-length 20 n in
    piece l' (32 ∷ reason_letter k ∷ decimal_by 20 n) r
    (w.words ∙ ap (λ (v : List ℕ). v ++ decimal_by 20 n) (reason_start l a (omega arith)) ∙ ap (λ (x : ℕ). 32 ∷ x ∷ decimal_by 20 n) e)
    (omega arith)

-- A GUARD

guard-low : (g : ℤ) → is_below g ≡ true → guard_text g ≡ 32 ∷ 45 ∷ decimal_by 20 (nat_abs g)
unfolding guard_text
guard-low (pos n) e = let z : ◌≡◌ {A = ℕ} 0 1 = cc in absurd (omega arith)
guard-low (negsuc n) e = refl

guard-high : (g : ℤ) → is_below g ≡ false → guard_text g ≡ 32 ∷ decimal_by 20 (nat_abs g)
unfolding guard_text
guard-high (pos n) e = refl
guard-high (negsuc n) e = let z : ◌≡◌ {A = ℕ} 0 1 = cc in absurd (omega arith)

module _ (l l' : List ℕ) (g : ℤ) (x r : ℕ) (h : 24 ≤ length l) (q : x ≡ nat_abs g) (b : Bool) (i : b ≡ is_below g) where
  pub guard-below : b ≡ true → length l' ≡ length (set (set l 0 32) 1 45) → Written (set (set l 0 32) 1 45) l' 2 (decimal_by 20 x) r → Piece l' (guard_text g) r
  guard-below e k w =
      let c : length (set (set l 0 32) 1 45) ≡ length l = length-set (set l 0 32) 1 45 ∙ length-set l 0 32 in
      let a = rw q at w in
      let p = a.after in
      let d = decimal-length 20 (nat_abs g) in
      rw (guard-low g (sym i ∙ e))
      (piece l' (32 ∷ 45 ∷ decimal_by 20 (nat_abs g)) r (a.words ∙ ap (λ (v : List ℕ). v ++ decimal_by 20 (nat_abs g)) (reason_start l 45 (omega arith))) (omega arith))

  pub guard-above : b ≡ false → length l' ≡ length (set l 0 32) → Written (set l 0 32) l' 1 (decimal_by 20 x) r → Piece l' (guard_text g) r
  guard-above e k w =
      let c = length-set l 0 32 in
      let a = rw q at w in
      let p = a.after in
      let d = decimal-length 20 (nat_abs g) in
      rw (guard-high g (sym i ∙ e))
      (piece l' (32 ∷ decimal_by 20 (nat_abs g)) r (a.words ∙ ap (λ (v : List ℕ). v ++ decimal_by 20 (nat_abs g)) (take-suc-set l 0 32 (omega arith))) (omega arith))

pub below_test : (g : ℤ) → SFits w32 g → lt_z (to_z w32 (of_z w32 g)) (to_z w32 0) ≡ is_below g
below_test g f = rw (to_z-of_z f) (go g)
  where
    go : (z : ℤ) → lt_z z (pos 0) ≡ is_below z
    go (pos n) = le-ltb n 0 (omega arith)
    go (negsuc n) = refl
