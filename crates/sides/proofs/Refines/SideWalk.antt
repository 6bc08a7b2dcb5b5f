-- A place in the constant characters of a side: moved on, read, and compared with another.
use mathlib.Core.Path.{◌≡◌, refl, sym, ap, ◌∙◌}
use mathlib.Core.Bool.{Bool, false}
use mathlib.Core.List.{List, [], ◌∷◌, ◌++◌}
use mathlib.Core.Logic.{◌⊎◌, ⊎_elim}
use Prim.Native.Nat.{ℕ, suc, ◌+◌, ◌-◌, ◌<◌, ◌≤◌}
use native.Mathlib.Numerals.{add-one}
use native.Mathlib.Omega.{arith}
use lib.ListN.{length, get_or, drop, length-append, drop_of_length-le, get_or-append}
use lib.Seq.{drop-cons, drop-append-add}
use lib.Dec.{eqb}
use borrow.Author.Tests.{eqb-true, eq-eqb}
use Rattle.records.specs.declared.State.{State}
use Rattle.records.specs.Store.{Store, Term, kind, term, is_constant}
use Rattle.records.specs.View.{char_limit, span, term_at, read_in, termed}
use Rattle.records.proofs.Lists.{decide, table_at_lem, clash}
use Rattle.records.proofs.Views.{text-span, term-there}
use Rattle.sides.specs.declared.letters.Cursor.{Cursor}
use Rattle.sides.specs.Wordeq.{letters_of, letters}
use Rattle.sides.specs.Working.Sides.{Texts, Spelled, rest, There, Settled, heads_agree}
use Rattle.sides.proofs.Refines.SideLetters.{count-limit, letters-constant, letters-other, letters-at, letters-end}

-- how many letters an atom has does not depend on what they are
pub count_same : (w h : List ℕ) (c : State) (a : ℕ) → Texts w c → length (letters_of (read_in w h c) a) ≡ length (letters_of (termed w c) a)
count_same w h c a x =
    decide (is_constant (termed w c) a)
    (λ e. letters-constant w h c x a (eqb-true _ 1 e) ∙ sym (letters-constant w [] c x a (eqb-true _ 1 e)))
    (λ e. ap length (letters-other w h c x a (not-one e)) ∙ sym (ap length (letters-other w [] c x a (not-one e))))
  where
    not-one : is_constant (termed w c) a ≡ false → kind (termed w c) a ≡ 1 → ⊥
    not-one e z = clash (eq-eqb (kind (termed w c) a) 1 z) e

-- MOVED ON

drop-none : (j : ℕ) → ◌≡◌ {A = List ℕ} (drop j []) []
drop-none j = drop_of_length-le [] {i = j} (omega arith)

pub rest_end : (s : Store) (l : List ℕ) (i j : ℕ) → length l ≤ i → rest s l i j ≡ []
rest_end s l i j q = ap (drop j) (letters-end s l i q) ∙ drop-none j

-- from character j of atom i on the same is left as from j₀ of i₀ on
pub record Onward (w : List ℕ) (c : State) (l : List ℕ) (i₀ j₀ i j : ℕ) : Type 0 where
  pub same : (h : List ℕ) → rest (read_in w h c) l i j ≡ rest (read_in w h c) l i₀ j₀

module _ (w : List ℕ) (c : State) (l : List ℕ) (k : Cursor) (i j : ℕ) (a : Onward w c l k.atom k.place i j) where
  pub onward-end : length l ≤ i → Settled w c l k (record { atom = length l; place = j })
  onward-end q =
      record {
        same = λ h. rest_end (read_in w h c) l (length l) j (omega arith) ∙ sym (rest_end (read_in w h c) l i j q) ∙ a.same h;
        at = record { there = λ z. absurd (omega arith) };
      }

  module _ (n : ℕ) (e : n ≡ length (letters_of (termed w c) (get_or l i 0))) where
    pub onward-atom : Texts w c → i < length l → n ≤ j → Onward w c l k.atom k.place (i + 1) (j - n)
    onward-atom x q m = record { same = λ h. rw add-one (sym (skip h) ∙ a.same h) }
      where
        skip : (h : List ℕ) → rest (read_in w h c) l i j ≡ rest (read_in w h c) l (suc i) (j - n)
        skip h =
            let s = read_in w h c in
            let d = count_same w h c (get_or l i 0) x in
            let y : j ≡ length (letters_of s (get_or l i 0)) + (j - n) = omega arith in
            ap (drop j) (letters-at s l i q)
            ∙ ap (λ (z : ℕ). drop z (letters_of s (get_or l i 0) ++ letters s (drop (suc i) l))) y
            ∙ drop-append-add (letters_of s (get_or l i 0)) (letters s (drop (suc i) l)) (j - n)

-- READ

letters-span : (w h : List ℕ) (c : State) (a : ℕ) → Texts w c → kind (termed w c) a ≡ 1
    → letters_of (read_in w h c) a ≡ span h (term (termed w c) a).first (term (termed w c) a).second
unfolding letters_of
letters-span w h c a x o = rw (eq-eqb (kind (termed w c) a) 1 o) (text-span h c.chars (term (termed w c) a) (x.constants a o))

pub place-limit : (w h : List ℕ) (c : State) (l : List ℕ) (k : Cursor) → Spelled w h c → There w c l k → k.atom < length l → k.place < char_limit
place-limit w h c l k x t q =
    let e = t.there q in
    let f = count-limit w [] c (get_or l k.atom 0) in
    let g = x.texts.limited in omega arith

pub letter-is : (w h : List ℕ) (c : State) (l : List ℕ) (k : Cursor) (f p r : ℕ) → Spelled w h c → There w c l k → k.atom < length l
    → f ≡ (term_at w (get_or l k.atom 0)).first → p ≡ f → r ≡ get_or h (p + k.place) 0
    → rest (read_in w h c) l k.atom k.place ≡ r ∷ rest (read_in w h c) l k.atom (k.place + 1)
letter-is w h c l k f p r x t q e g d =
    decide (is_constant s a) (λ z. constant (eqb-true _ 1 z)) (λ z. absurd (other z))
  where
    s : Store
    s = read_in w h c

    a : ℕ
    a = get_or l k.atom 0

    u : List ℕ
    u = letters_of s a

    v : List ℕ
    v = letters s (drop (suc k.atom) l)

    long : k.place < length u
    long = let y = t.there q in let z = count_same w h c a x.texts in omega arith

    other : is_constant s a ≡ false → ⊥
    other z = let y = ap length (letters-other w h c x.texts a (λ o. clash (eq-eqb (kind s a) 1 o) z)) in let m = long in omega arith

    constant : kind s a ≡ 1 → rest s l k.atom k.place ≡ r ∷ rest s l k.atom (k.place + 1)
    constant o = rw add-one (whole ∙ ap (λ (z : ℕ). z ∷ drop (suc k.place) (letters s (drop k.atom l))) head)
      where
        inside : k.place < length (letters s (drop k.atom l))
        inside = let m = long in let y = ap length (letters-at s l k.atom q) ∙ length-append u v in omega arith

        whole : rest s l k.atom k.place ≡ get_or (letters s (drop k.atom l)) k.place 0 ∷ drop (suc k.place) (letters s (drop k.atom l))
        whole = drop-cons (letters s (drop k.atom l)) k.place 0 inside

        there : term s a ≡ term_at w a
        there = term-there w c a 0 o

        size : k.place < (term s a).second
        size = let m = long in let y = letters-constant w h c x.texts a o in let z = ap (λ (b : Term). b.second) there in omega arith

        head : get_or (letters s (drop k.atom l)) k.place 0 ≡ r
        head =
            ap (λ (z : List ℕ). get_or z k.place 0) (letters-at s l k.atom q)
            ∙ get_or-append u v 0 k.place long
            ∙ ap (λ (z : List ℕ). get_or z k.place 0) (letters-span w h c a x.texts o)
            ∙ table_at_lem (λ i. get_or h ((term s a).first + i) 0) (term s a).second k.place 0 size
            ∙ ap (λ (z : ℕ). get_or h (z + k.place) 0) (ap (λ (b : Term). b.first) there ∙ sym e ∙ sym g)
            ∙ sym d

-- COMPARED

pub heads-left : (s : Store) (l v : List ℕ) (i j : ℕ) → length l ≤ i → false ≡ heads_agree (rest s l i j) v
unfolding heads_agree
heads-left s l v i j q = sym (ap (λ (z : List ℕ). heads_agree z v) (rest_end s l i j q))

pub heads-right : (s : Store) (l v : List ℕ) (i j : ℕ) → length l ≤ i → false ≡ heads_agree v (rest s l i j)
unfolding heads_agree
heads-right s l v i j q = sym (ap (heads_agree v) (rest_end s l i j q) ∙ none v)
  where
    none : (v : List ℕ) → heads_agree v [] ≡ false
    none [] = refl
    none (x ∷ v) = refl

-- one of them has ended
pub heads-end : (s : Store) (l r : List ℕ) (k x : Cursor) → (k.atom < length l × length r ≤ x.atom) ⊎ (length l ≤ k.atom)
    → false ≡ heads_agree (rest s l k.atom k.place) (rest s r x.atom x.place)
heads-end s l r k x =
    ⊎_elim (λ z. heads-right s r (rest s l k.atom k.place) x.atom x.place z.1) (λ z. heads-left s l (rest s r x.atom x.place) k.atom k.place z)

pub heads-both : (u v u' v' : List ℕ) (x y : ℕ) (b : Bool) → u ≡ x ∷ u' → v ≡ y ∷ v' → b ≡ eqb x y → b ≡ heads_agree u v
unfolding heads_agree
heads-both u v u' v' x y b p q e = rw (p, q) e
