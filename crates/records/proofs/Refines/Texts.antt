-- Texts: two words are equal where they are equal at each place.
use mathlib.Core.Path.{◌≡◌, refl, sym, ap, ◌∙◌}
use mathlib.Core.Bool.{Bool, true, false}
use mathlib.Core.List.{List, ◌++◌, append_cancel_left}
use mathlib.Core.Logic.{⊎_elim}
use Prim.Native.Nat.{ℕ, ◌+◌, ◌-◌, ◌<◌, ◌≤◌}
use native.Mathlib.Numerals.{add-one}
use native.Mathlib.Nat.{le_antisymm, eq-or-lt_of_le}
use native.Mathlib.Omega.{arith}
use lib.ListN.{length, take, drop, get_or, set, length-set, length-take}
use lib.Seq.{ext_get_or, get_or-take, get_or-set_same, get_or-set_other}
use lib.Dec.{eqb}
use lib.Pointwise.{pointwise}
use borrow.Author.Tests.{eqb-true, eq-eqb, ne_eqb}
use Rattle.records.specs.Lists.{same_word, all_below}
use Rattle.records.specs.View.{span, chars_view}
use Rattle.records.specs.Working.Puts.{CharsPut}
use Rattle.records.proofs.Lists.{table_at_lem, table_same, table_add, table-length, same_test, word_is, word_same, below-zero, below_suc, below_at, below_all, below_false, pointwise-words}
use Rattle.records.proofs.Views.{part-span}

-- the test of one place
abbrev pub agree_at : List ℕ → List ℕ → ℕ → Bool
agree_at v w k = eqb (get_or v k 0) (get_or w k 0)

-- words of one length
pub word_below : (v w : List ℕ) → length v ≡ length w → same_word v w ≡ all_below (agree_at v w) (length w)
word_below v w e =
    same_test _ _
    (λ h. let q = word_is v w h in below_all (agree_at v w) (length w) (λ k l. eq-eqb (get_or v k 0) (get_or w k 0) (ap (λ (x : List ℕ). get_or x k 0) q)))
    (λ h. word_same v w (ext_get_or 0 v w e (λ k l. eqb-true (get_or v k 0) (get_or w k 0) (below_at (agree_at v w) (length w) h k (omega arith)))))

-- a part of a slice compared by the library
pub part-equal : (l w : List ℕ) (p : ℕ) (r : Bool) → p + length w ≤ length l → r ≡ pointwise eqb (take (p + length w - p) (drop p l)) w → r ≡ same_word (span l p (length w)) w
part-equal l w p r h e = let q : p + length w - p ≡ length w = omega arith in rw (q, part-span l p (length w) h, pointwise-words) at e

-- THE LOOP that compares a span with a word

module _ (l w : List ℕ) (p : ℕ) where
  pub span-length : length (span l p (length w)) ≡ length w
  span-length = table-length (λ i. get_or l (p + i) 0) (length w)

  pub span-at : (k : ℕ) → k < length w → get_or (span l p (length w)) k 0 ≡ get_or l (p + k) 0
  span-at k h = table_at_lem (λ i. get_or l (p + i) 0) (length w) k 0 h

  -- the characters up to i agree
  pub record Agreed (i : ℕ) : Type 0 where
    pub within : i ≤ length w
    pub so_far : all_below (agree_at (span l p (length w)) w) i ≡ true

  pub agreed_none : Agreed 0
  agreed_none = record { within = omega arith; so_far = below-zero _ }

  pub agreed_one : (i : ℕ) → Agreed i → i < length w → get_or l (p + i) 0 ≡ get_or w i 0 → Agreed (i + 1)
  agreed_one i a h e =
      record { within = omega arith; so_far = rw add-one (below_suc (agree_at (span l p (length w)) w) i a.so_far (eq-eqb _ _ (span-at i h ∙ e))) }

  pub agreed_all : (i : ℕ) → Agreed i → length w ≤ i → true ≡ same_word (span l p (length w)) w
  agreed_all i a h =
      let e : i ≡ length w = le_antisymm a.within h in
      sym (word_below (span l p (length w)) w span-length ∙ (rw e at a.so_far))

  pub disagree : (i : ℕ) → Agreed i → i < length w → (get_or l (p + i) 0 ≡ get_or w i 0 → ⊥) → false ≡ same_word (span l p (length w)) w
  disagree i a h d =
      sym (word_below (span l p (length w)) w span-length
      ∙ below_false (agree_at (span l p (length w)) w) (length w) i h (ne_eqb _ _ (λ e. d (sym (span-at i h) ∙ e))))

-- COPYING

pub view-take : (l : List ℕ) (n : ℕ) → n ≤ length l → chars_view l n ≡ take n l
view-take l n h =
    let m = table-length (λ i. get_or l i 0) n in
    ext_get_or 0 _ _ (simp (length-take, table-length) (omega arith)) (λ i q.
    let r : i < n = omega arith in
    table_at_lem (λ j. get_or l j 0) n i 0 r ∙ sym (get_or-take n l i 0 r))

-- the first i characters of w stand from place n on, and what was below n is there still
pub record Copied (l l' : List ℕ) (n : ℕ) (w : List ℕ) (i : ℕ) : Type 0 where
  pub within : i ≤ length w
  pub long : length l' ≡ length l
  pub lower : (j : ℕ) → j < n → get_or l' j 0 ≡ get_or l j 0
  pub copied : (k : ℕ) → k < i → get_or l' (n + k) 0 ≡ get_or w k 0

pub copied_none : (l : List ℕ) (n : ℕ) (w : List ℕ) → Copied l l n w 0
copied_none l n w = record { within = omega arith; long = refl; lower = λ j h. refl; copied = λ k h. absurd (omega arith) }

pub copied-one : (l l' : List ℕ) (n : ℕ) (w : List ℕ) (i v : ℕ) → Copied l l' n w i → i < length w → n + length w ≤ length l → v ≡ get_or w i 0
    → Copied l (set l' (n + i) v) n w (i + 1)
copied-one l l' n w i v a h f e =
    let g = a.long in
    record {
      within = omega arith;
      long = length-set l' (n + i) v ∙ a.long;
      lower = λ j q. get_or-set_other l' (n + i) j v 0 (λ z. omega arith) ∙ a.lower j q;
      copied = λ k q. ⊎_elim (λ z. rw z (get_or-set_same l' (n + i) v 0 (omega arith) ∙ e))
          (λ z. get_or-set_other l' (n + i) (n + k) v 0 (λ y. omega arith) ∙ a.copied k z)
          (eq-or-lt_of_le (let z : k ≤ i = omega arith in z));
    }

pub copied_all : (l l' : List ℕ) (n : ℕ) (w : List ℕ) (i : ℕ) → Copied l l' n w i → length w ≤ i → CharsPut l l' n w
copied_all l l' n w i a h =
    record {
      grown = table_add (λ j. get_or l' j 0) n (length w) ∙ (let p = kept_is in let q = word_there in cc);
      kept = kept_is;
    }
  where
    kept_is : chars_view l' n ≡ chars_view l n
    kept_is = table_same (λ j. get_or l' j 0) (λ j. get_or l j 0) n a.lower

    word_there : span l' n (length w) ≡ w
    word_there = ext_get_or 0 (span l' n (length w)) w (span-length l' w n) (λ k q.
        let e = span-length l' w n in
        span-at l' w n k (omega arith) ∙ a.copied k (omega arith))

-- what stands below a lower place is as it was too
pub lower_view : (a b : List ℕ) (i j : ℕ) → i ≤ j → chars_view b j ≡ chars_view a j → chars_view b i ≡ chars_view a i
lower_view a b i j t z = table_same (λ x. get_or b x 0) (λ x. get_or a x 0) i (λ x y.
    sym (table_at_lem (λ x. get_or b x 0) j x 0 (omega arith)) ∙ ap (λ (w : List ℕ). get_or w x 0) z ∙ table_at_lem (λ x. get_or a x 0) j x 0 (omega arith))

-- the word that was put stands there
pub put_word : (l l' : List ℕ) (n : ℕ) (w : List ℕ) → CharsPut l l' n w → span l' n (length w) ≡ w
put_word l l' n w p =
    append_cancel_left (chars_view l n) (span l' n (length w)) w
    (ap (λ (v : List ℕ). v ++ span l' n (length w)) (sym p.kept) ∙ sym (table_add (λ j. get_or l' j 0) n (length w)) ∙ p.grown)
