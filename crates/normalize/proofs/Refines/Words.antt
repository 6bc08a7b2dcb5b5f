-- The first words of a slice: one more put, appended, compared.
use mathlib.Core.Path.{◌≡◌, refl, sym, ap, ◌∙◌}
use mathlib.Core.Bool.{Bool, ◌&&◌, ◌||◌}
use mathlib.Core.List.{List, [], ◌∷◌, ◌++◌}
use Prim.Native.Nat.{ℕ, suc, ◌+◌, ◌≤◌, ◌<◌}
use native.Mathlib.Omega.{arith}
use lib.ListN.{length, take, get_or, set, length-append, length-take}
use lib.Seq.{get_or-set_same, get_or-set_other, ext_get_or, get_or-take, length-take-le, take-length}
use borrow.Rule.Slice.PartMut.{put_mid, post_of}
use Rattle.std.proofs.lemmas.Slice.{take-put_mid}
use lib.Dec.{eqb}
use lib.Pointwise.{pointwise}
use Rattle.std.specs.List.{list_any}
use Rattle.records.specs.Lists.{any, same_word, table}
use Rattle.records.proofs.Lists.{table-length, table-suc, table_same, table_at_lem}
use Rattle.normalize.specs.Calls.{first_words}

pub words-length : (l : List ℕ) (n : ℕ) → length (first_words l n) ≡ n
words-length l n = table-length (λ i. get_or l i 0) n

pub words-none : (l : List ℕ) → first_words l 0 ≡ []
unfolding table
words-none l = refl

pub words-put : (l : List ℕ) (n x : ℕ) → n < length l → first_words (set l n x) (suc n) ≡ first_words l n ++ x ∷ []
words-put l n x h =
    table-suc (λ i. get_or (set l n x) i 0) n ∙ ap (λ (w : List ℕ). w ++ get_or (set l n x) n 0 ∷ []) (table_same _ _ n (λ i k. get_or-set_other l n i x 0 (λ e. omega arith)))
    ∙ ap (λ (y : ℕ). first_words l n ++ y ∷ []) (get_or-set_same l n x 0 h)

-- the library's comparison of two slices
pub words_compared : (v w : List ℕ) → pointwise eqb v w ≡ same_word v w
unfolding same_word
words_compared [] [] = refl
words_compared [] (y ∷ w) = refl
words_compared (x ∷ v) [] = refl
words_compared (x ∷ v) (y ∷ w) = ap (λ (b : Bool). eqb x y && b) (words_compared v w)

-- the library's search of a slice
pub any_listed : (p : ℕ → Bool) (l : List ℕ) → list_any p l ≡ any p l
unfolding any
any_listed p [] = refl
any_listed p (x ∷ l) = ap (λ (b : Bool). p x || b) (any_listed p l)

pub words-take : (l : List ℕ) (n : ℕ) → n ≤ length l → first_words l n ≡ take n l
words-take l n h =
    let m = words-length l n in
    ext_get_or 0 _ _ (simp length-take (omega arith)) (λ i q. let r : i < n = omega arith in table_at_lem (λ j. get_or l j 0) n i 0 r ∙ sym (get_or-take n l i 0 r))

pub words-whole : (l : List ℕ) → first_words l (length l) ≡ l
words-whole l = words-take l (length l) (omega arith) ∙ take-length l

-- the library's comparison of the first words of two slices
pub words_same : (one other : List ℕ) (n k : ℕ) → n ≤ length one → k ≤ length other → pointwise eqb (take n one) (take k other) ≡ same_word (first_words one n) (first_words other k)
words_same one other n k h i = rw (words-take one n h, words-take other k i) (words_compared (take n one) (take k other))

-- the library's copy of the first words of a list after k words of a slice
pub words-part : (to from new : List ℕ) (k n j : ℕ) → n ≤ length from → k + n ≤ length to → new ≡ take n from → first_words (put_mid k j to new) (k + n) ≡ first_words to k ++ first_words from n
words-part to from new k n j h i e =
    let l : length new ≡ n = ap length e ∙ length-take-le n from h in
    let m = length-take-le k to (omega arith) in
    let a = length-append (take k to) (new ++ post_of k j to) in
    let b = length-append new (post_of k j to) in
    rw (words-take to k (omega arith), words-take from n h)
    (words-take _ (k + n) (omega arith) ∙ take-put_mid k j to new (k + n) (omega arith) (omega arith) ∙ ap (λ (w : List ℕ). take k to ++ w) e)
