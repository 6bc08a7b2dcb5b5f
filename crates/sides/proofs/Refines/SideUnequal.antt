-- Two constant sides compared: the walk of one over the other.
use mathlib.Core.Path.{◌≡◌, refl, sym, ap, ◌∙◌}
use mathlib.Core.Bool.{Bool, true, not}
use mathlib.Core.List.{List, [], ◌∷◌}
use Prim.Native.Nat.{ℕ}
use Rattle.records.specs.View.{read_in, termed}
use Rattle.records.specs.declared.State.{State}
use Rattle.records.specs.Lists.{all, concat_map, same_word}
use Rattle.records.specs.Store.{Store, is_constant}
use Rattle.records.proofs.Lists.{both_left, both_right, word_is, word_same, same_test}
use Rattle.sides.specs.Wordeq.{fixed, letters_of, letters, unequal, filled}

-- a side of constants has no place to fill
pub filled-fixed : (s : Store) (u l : List ℕ) → fixed s l ≡ true → filled s u l ≡ letters s l
unfolding filled letters letters_of fixed all concat_map
filled-fixed s u [] e = refl
filled-fixed s u (a ∷ l) e =
    let p = both_left (is_constant s a) (all (is_constant s) l) e in
    let q = filled-fixed s u l (both_right (is_constant s a) (all (is_constant s) l) e) in
    rw (p, q)

word_flip : (v w : List ℕ) → same_word v w ≡ same_word w v
word_flip v w = same_test _ _ (λ e. word_same w v (sym (word_is v w e))) (λ e. word_same v w (sym (word_is w v e)))

-- sides of constants are unequal where the walk of the one over the other does not end with both
pub unequal-is : (w h : List ℕ) (c : State) (l r : List ℕ) → fixed (termed w c) l ≡ true → fixed (termed w c) r ≡ true → (u : List ℕ) (b : Bool)
    → b ≡ same_word (filled (read_in w h c) u r) (letters (read_in w h c) l) → not b ≡ unequal (read_in w h c) l r
unfolding unequal fixed
unequal-is w h c l r p q u b g =
    rw (p, q) (ap not (g ∙ ap (λ (z : List ℕ). same_word z (letters (read_in w h c) l)) (filled-fixed (read_in w h c) u r q) ∙ word_flip (letters (read_in w h c) r) (letters (read_in w h c) l)))
