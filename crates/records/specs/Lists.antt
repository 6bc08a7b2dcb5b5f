-- Lists, words and numbers, with nothing of a store: tests of each element, the first that passes, words joined.
use Rattle.std.specs.Prelude.{Bool, true, false, ◌&&◌, ◌||◌, List, [], ◌∷◌, ◌++◌, ℕ, zero, suc, eqb, if◌then◌else◌}
use Rattle.std.proofs.Math.Option.{Option, none, some}

module _ {A : Type 0} where
  unfoldable pub all : (A → Bool) → List A → Bool
  all p [] = true
  all p (x ∷ l) = p x && all p l

  unfoldable pub any : (A → Bool) → List A → Bool
  any p [] = false
  any p (x ∷ l) = p x || any p l

  unfoldable pub first_of : (A → Bool) → List A → Option A
  first_of p [] = none
  first_of p (x ∷ l) = elim (p x) [ true ↦ some x | false ↦ first_of p l ]

  unfoldable pub keep : (A → Bool) → List A → List A
  keep p [] = []
  keep p (x ∷ l) = if p x then (x ∷ keep p l) else keep p l

  -- the words of each, one after the other
  unfoldable pub concat_map : {B : Type 0} → (A → List B) → List A → List B
  concat_map f [] = []
  concat_map f (x ∷ l) = f x ++ concat_map f l

  -- f 0, f 1, .. : n of them
  unfoldable pub table : (ℕ → A) → ℕ → List A
  table f zero = []
  table f (suc n) = table f n ++ (f n ∷ [])

-- two words are equal
unfoldable pub same_word : List ℕ → List ℕ → Bool
same_word [] [] = true
same_word [] (y ∷ w) = false
same_word (x ∷ v) [] = false
same_word (x ∷ v) (y ∷ w) = eqb x y && same_word v w

unfoldable pub is_in : ℕ → List ℕ → Bool
is_in x = any (eqb x)

unfoldable pub firsts : List (ℕ × ℕ) → List ℕ
firsts [] = []
firsts (p ∷ l) = p.0 ∷ firsts l

unfoldable pub seconds : List (ℕ × ℕ) → List ℕ
seconds [] = []
seconds (p ∷ l) = p.1 ∷ seconds l

-- the elements before the first x
unfoldable pub up_to : ℕ → List ℕ → List ℕ
up_to x [] = []
up_to x (y ∷ l) = elim (eqb y x) [ true ↦ [] | false ↦ y ∷ up_to x l ]

-- each number below n passes
unfoldable pub all_below : (ℕ → Bool) → ℕ → Bool
all_below p zero = true
all_below p (suc n) = all_below p n && p n

-- the lowest number below n that passes
unfoldable pub first_below : (ℕ → Bool) → ℕ → Option ℕ
first_below p zero = none
first_below p (suc n) = elim (first_below p n) [ some i ↦ some i | none ↦ (if p n then some n else none) ]

-- the highest number below n that passes; 0 where none does
unfoldable pub last_below : (ℕ → Bool) → ℕ → ℕ
last_below p zero = 0
last_below p (suc n) = if p n then n else last_below p n

-- a list with one more at its end
abbrev pub one_more : {A : Type 0} → List A → A → List A
one_more l a = l ++ (a ∷ [])

-- P of each element
pub data Every {A : Type 0} (P : A → Type 0) : List A → Type 0 where
  none_left : Every P []
  and : {a : A} {l : List A} → P a → Every P l → Every P (a ∷ l)
