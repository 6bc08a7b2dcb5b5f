-- The characters of a side's constants, counted.
use Rattle.std.specs.Prelude.{if◌then◌else◌}
use mathlib.Core.Path.{◌≡◌, sym, ap, ◌∙◌, refl}
use mathlib.Core.Bool.{Bool, true, false, ◌&&◌}
use mathlib.Core.List.{List, [], ◌++◌, ◌∷◌}
use Prim.Native.Nat.{ℕ, suc, ◌+◌, ◌<◌, ◌≤◌}
use native.Mathlib.Omega.{arith}
use lib.ListN.{length, get_or, drop, length-append, length-take, length-drop, drop_of_length-le}
use lib.Seq.{drop-cons}
use lib.Dec.{ltb}
use borrow.Author.Tests.{eq-eqb, ne_eqb}
use Rattle.records.specs.declared.State.{State}
use Rattle.records.specs.Lists.{concat_map}
use Rattle.records.specs.Store.{Store, Term, text_in, kind, term, is_constant, text}
use Rattle.records.specs.View.{char_limit, term_at, read_in, termed}
use Rattle.records.proofs.Lists.{table-length}
use Rattle.records.proofs.Views.{term-there}
use Rattle.records.proofs.Loops.{Summing, summing_turn}
use Rattle.sides.specs.Wordeq.{letters_of, letters, is_full}
use Rattle.sides.specs.Working.Sides.{Texts, fill_count}

module _ (l h : List ℕ) (c : State) where
  -- a text within the count has its whole length
  pub text-length : (t : ℕ) → (term (termed l c) t).first + (term (termed l c) t).second ≤ c.chars → length (text (read_in l h c) t) ≡ (term (termed l c) t).second
  unfolding text_in
  text-length t q = let e = table-length (λ i. get_or h i 0) c.chars in simp (length-take, length-drop) (omega arith)

  module _ (x : Texts l c) (a : ℕ) where
    pub letters-constant : kind (termed l c) a ≡ 1 → length (letters_of (read_in l h c) a) ≡ (term_at l a).second
    unfolding letters_of
    letters-constant e = rw (eq-eqb (kind (termed l c) a) 1 e) (text-length a (x.constants a e) ∙ ap (λ (t : Term). t.second) (term-there l c a 0 e))

    pub letters-other : (kind (termed l c) a ≡ 1 → ⊥) → letters_of (read_in l h c) a ≡ []
    unfolding letters_of
    letters-other e = rw (ne_eqb (kind (termed l c) a) 1 e)

pub count-some : (l : List ℕ) (c : State) (a k v r : ℕ) → Texts l c → k ≡ kind (termed l c) a → k ≡ 1 → v ≡ (term_at l a).second → r ≡ v → r ≡ length (letters_of (termed l c) a)
count-some l c a k v r x e n f g = g ∙ f ∙ sym (letters-constant l [] c x a (sym e ∙ n))

-- a constant with letters
pub full-letters : (s : Store) (a : ℕ) → is_full s a ≡ ltb 0 (length (letters_of s a))
unfolding is_full letters_of
full-letters s a = go (is_constant s a)
  where
    go : (b : Bool) → (b && ltb 0 (length (text s a))) ≡ ltb 0 (length (if b then text s a else []))
    go true = refl
    go false = refl

-- the letters of an atom are what fills its place, and nothing for a variable
module _ (s : Store) (a n : ℕ) (e : n ≡ fill_count s a 0) where
  pub count-letters : n ≡ length (letters_of s a)
  unfolding letters_of
  count-letters = e ∙ go (is_constant s a)
    where
      go : (b : Bool) → (if b then length (if b then text s a else []) else 0) ≡ length (if b then text s a else [])
      go true = refl
      go false = refl

  pub count-full : ltb 0 n ≡ is_full s a
  count-full = ap (ltb 0) count-letters ∙ sym (full-letters s a)

-- the letters of an atom are no more than are counted
pub count-limit : (l h : List ℕ) (c : State) (a : ℕ) → length (letters_of (read_in l h c) a) ≤ c.chars
unfolding letters_of text_in
count-limit l h c a = go (is_constant (read_in l h c) a)
  where
    go : (b : Bool) → length (if b then text (read_in l h c) a else []) ≤ c.chars
    go true = let e = table-length (λ i. get_or h i 0) c.chars in simp (length-take, length-drop) (omega arith)
    go false = omega arith

-- the atom at i, and those after it
pub letters-at : (s : Store) (l : List ℕ) (i : ℕ) → i < length l → letters s (drop i l) ≡ letters_of s (get_or l i 0) ++ letters s (drop (suc i) l)
unfolding letters concat_map
letters-at s l i h = rw (drop-cons l i 0 h)

pub letters-end : (s : Store) (l : List ℕ) (i : ℕ) → length l ≤ i → letters s (drop i l) ≡ []
unfolding letters concat_map
letters-end s l i h = rw (drop_of_length-le l h)

-- the sum of the first i
abbrev pub letter_count : Store → List ℕ → ℕ
letter_count s l = length (letters s l)

pub letters_none : (s : Store) → letter_count s [] ≡ 0
unfolding letters concat_map
letters_none s = refl

letters-cons : (s : Store) (a : ℕ) (l : List ℕ) → letter_count s (a ∷ l) ≡ length (letters_of s a) + letter_count s l
unfolding letters concat_map
letters-cons s a l = length-append (letters_of s a) (concat_map (letters_of s) l)

pub counted-one : (w : List ℕ) (c : State) (l : List ℕ) (total i n : ℕ) → Texts w c → Summing (letter_count (termed w c)) char_limit l total i → i < length l
    → n ≡ length (letters_of (termed w c) (get_or l i 0)) → Summing (letter_count (termed w c)) char_limit l (total + n) (i + 1)
counted-one w c l total i n x s q e =
    summing_turn (letter_count (termed w c)) char_limit l total i s (λ t. length (letters_of (termed w c) t)) (letters-cons (termed w c)) n q e
    (let b = count-limit w [] c (get_or l i 0) in let d = x.limited in omega arith)
