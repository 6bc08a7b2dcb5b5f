-- Step 2 place by place: the non-empty constants counted, and the first atom of a class with one of them at another place.
use Rattle.std.specs.Prelude.{if◌then◌else◌}
use mathlib.Core.Path.{◌≡◌, refl, sym, ap, ◌∙◌}
use mathlib.Core.Bool.{Bool, true, false, ◌&&◌, ◌||◌}
use mathlib.Core.List.{List, [], ◌∷◌, ◌++◌}
use mathlib.Core.Option.{Option, none, some}
use Prim.Native.Nat.{ℕ, suc, ◌+◌, ◌<◌, ◌≤◌}
use native.Mathlib.Numerals.{add-one}
use native.Mathlib.Omega.{arith}
use lib.ListN.{length, get_or, take, drop, take-append-drop, drop_of_length-le}
use lib.Seq.{take-suc}
use lib.Dec.{eqb, ltb}
use borrow.Author.Tests.{lt-ltb, le-ltb, ltb-true, ltb-false}
use Rattle.records.specs.declared.State.{State}
use Rattle.records.specs.Lists.{any, keep}
use Rattle.records.specs.Store.{Store, root, same_class}
use Rattle.records.specs.View.{Lent, store_of, termed}
use Rattle.records.proofs.Lists.{both_left, decide, drop_head}
use Rattle.sides.specs.Wordeq.{is_full, occurrence}
use Rattle.sides.specs.Working.Sides.{Texts}
use Rattle.sides.specs.Working.Occurring.{at_place, own_count}
use Rattle.sides.proofs.SideReady.{full-whole}
use Rattle.sides.proofs.FirstOfKind.{any_same}

-- COUNTED

module _ (p : ℕ → Bool) where
  count-cons : (a : ℕ) (l : List ℕ) → length (keep p (a ∷ l)) ≡ (if p a then 1 else 0) + length (keep p l)
  unfolding keep
  count-cons a l = go (p a)
    where
      go : (b : Bool) → length (if b then (a ∷ keep p l) else keep p l) ≡ (if b then 1 else 0) + length (keep p l)
      go true = omega arith
      go false = omega arith

  -- an atom's part of the count, wherever it stands
  count_between : (u : List ℕ) (a : ℕ) (v : List ℕ) → length (keep p (u ++ a ∷ v)) ≡ (if p a then 1 else 0) + length (keep p (u ++ v))
  count_between [] a v = count-cons a v
  count_between (b ∷ u) a v = let e = count-cons b (u ++ a ∷ v) in let f = count_between u a v in let g = count-cons b (u ++ v) in omega arith

  any-counted : (l : List ℕ) → any p l ≡ ltb 0 (length (keep p l))
  unfolding any keep
  any-counted [] = refl
  any-counted (a ∷ l) = go (p a) (any-counted l)
    where
      go : (b : Bool) → any p l ≡ ltb 0 (length (keep p l)) → (b || any p l) ≡ ltb 0 (length (if b then (a ∷ keep p l) else keep p l))
      go true ih = sym (lt-ltb 0 (suc (length (keep p l))) (omega arith))
      go false ih = ih

-- AT ANOTHER PLACE

past-own : (k y n : ℕ) → n ≡ k + y → ltb 0 y ≡ ltb k n
past-own k y n e =
    decide (ltb 0 y) (λ q. q ∙ sym (lt-ltb k n (let z = ltb-true 0 y q in omega arith))) (λ q. q ∙ sym (le-ltb k n (let z = ltb-false 0 y q in omega arith)))

elsewhere : (s : Store) (u : List ℕ) (a : ℕ) (v : List ℕ) (n : ℕ) → n ≡ length (keep (is_full s) (u ++ a ∷ v)) → any (is_full s) (u ++ v) ≡ ltb (own_count s a) n
elsewhere s u a v n e = any-counted (is_full s) (u ++ v) ∙ past-own (own_count s a) (length (keep (is_full s) (u ++ v))) n (e ∙ count_between (is_full s) u a v)

-- THE FIRST

hit : (s : Store) (x : ℕ) (u : List ℕ) (a : ℕ) (v : List ℕ) → (same_class s a x && any (is_full s) (u ++ v)) ≡ true → occurrence s x u (a ∷ v) ≡ some a
unfolding occurrence
hit s x u a v e = ap (λ (b : Bool). elim b as (λ z. Option ℕ) [ true ↦ some a | false ↦ occurrence s x (u ++ (a ∷ [])) v ]) e

miss : (s : Store) (x : ℕ) (u : List ℕ) (a : ℕ) (v : List ℕ) → (same_class s a x && any (is_full s) (u ++ v)) ≡ false → occurrence s x u (a ∷ v) ≡ occurrence s x (u ++ (a ∷ [])) v
unfolding occurrence
miss s x u a v e = ap (λ (b : Bool). elim b as (λ z. Option ℕ) [ true ↦ some a | false ↦ occurrence s x (u ++ (a ∷ [])) v ]) e

pub place_in : (l : List ℕ) (i : ℕ) → i < length l → at_place l i ≡ some (get_or l i 0)
unfolding at_place
place_in l i q = rw (lt-ltb i (length l) q)

pub place-past : (l : List ℕ) (i : ℕ) → length l ≤ i → at_place l i ≡ none
unfolding at_place
place-past l i q = rw (le-ltb i (length l) q)

-- it is not one of the first i
pub record Seeking (s : Store) (x : ℕ) (l : List ℕ) (i : ℕ) : Type 0 where
  pub rest : occurrence s x (take i l) (drop i l) ≡ occurrence s x [] l

pub seeking_end : (s : Store) (x : ℕ) (l : List ℕ) (i : ℕ) → Seeking s x l i → length l ≤ i → occurrence s x [] l ≡ at_place l (length l)
unfolding occurrence
seeking_end s x l i g q = sym g.rest ∙ (rw (drop_of_length-le l q) (sym (place-past l (length l) (omega arith))))

module _ (s : Store) (x : ℕ) (l : List ℕ) (i n r : ℕ) (b : Bool) (g : Seeking s x l i) (q : i < length l) (f : n ≡ length (keep (is_full s) l)) (z : r ≡ root s x)
    (e : b ≡ (eqb (root s (get_or l i 0)) r && ltb (own_count s (get_or l i 0)) n)) where
  parts : l ≡ take i l ++ get_or l i 0 ∷ drop (i + 1) l
  parts = sym (take-append-drop i l) ∙ ap (λ (y : List ℕ). take i l ++ y) (drop_head l i q)

  here : (same_class s (get_or l i 0) x && any (is_full s) (take i l ++ drop (i + 1) l)) ≡ b
  here =
      ap (λ (y : ℕ). eqb (root s (get_or l i 0)) y && any (is_full s) (take i l ++ drop (i + 1) l)) (sym z)
      ∙ ap (λ (y : Bool). eqb (root s (get_or l i 0)) r && y) (elsewhere s (take i l) (get_or l i 0) (drop (i + 1) l) n (f ∙ ap (λ (y : List ℕ). length (keep (is_full s) y)) parts))
      ∙ sym e

  from : occurrence s x [] l ≡ occurrence s x (take i l) (get_or l i 0 ∷ drop (i + 1) l)
  from = sym g.rest ∙ ap (occurrence s x (take i l)) (drop_head l i q)

  pub seeking_hit : b ≡ true → occurrence s x [] l ≡ at_place l i
  seeking_hit y = from ∙ hit s x (take i l) (get_or l i 0) (drop (i + 1) l) (here ∙ y) ∙ sym (place_in l i q)

  pub seeking_turn : b ≡ false → Seeking s x l (i + 1)
  seeking_turn y = record {
    rest =
        ap (λ (j : List ℕ). occurrence s x j (drop (i + 1) l)) (rw (add-one i) (take-suc l i 0 q))
        ∙ sym (miss s x (take i l) (get_or l i 0) (drop (i + 1) l) (here ∙ y)) ∙ sym from;
  }

-- THE WHOLE STORE has the same occurrence: how many letters there are does not depend on the characters

module _ (m : Lent) (c : State) (x : Texts m.terms c) where
  pub occurrence-whole : (y : ℕ) (u l : List ℕ) → occurrence (termed m.terms c) y u l ≡ occurrence (store_of m c) y u l
  unfolding occurrence
  occurrence-whole y u [] = refl
  occurrence-whole y u (a ∷ l) =
      ap (λ (b : Bool). elim (same_class (store_of m c) a y && b) as (λ z. Option ℕ) [ true ↦ some a | false ↦ occurrence (termed m.terms c) y (u ++ (a ∷ [])) l ])
      (any_same (is_full (termed m.terms c)) (is_full (store_of m c)) (full-whole m c x) (u ++ l))
      ∙ ap (λ (o : Option ℕ). elim (same_class (store_of m c) a y && any (is_full (store_of m c)) (u ++ l)) as (λ z. Option ℕ) [ true ↦ some a | false ↦ o ])
      (occurrence-whole y (u ++ (a ∷ [])) l)

-- what is found is of the class
pub occurrence-class : (s : Store) (x : ℕ) (u l : List ℕ) (y : ℕ) → occurrence s x u l ≡ some y → same_class s y x ≡ true
unfolding occurrence
occurrence-class s x u [] y e = let z : ◌≡◌ {A = ℕ} 0 1 = cc in absurd (omega arith)
occurrence-class s x u (a ∷ l) y e = go (occurrence-class s x (u ++ (a ∷ [])) l y) (same_class s a x && any (is_full s) (u ++ l)) refl e
  where
    go : (occurrence s x (u ++ (a ∷ [])) l ≡ some y → same_class s y x ≡ true) → (b : Bool) → same_class s a x && any (is_full s) (u ++ l) ≡ b
        → (elim b as (λ z. Option ℕ) [ true ↦ some a | false ↦ occurrence s x (u ++ (a ∷ [])) l ]) ≡ some y → same_class s y x ≡ true
    go ih true q e = let p : a ≡ y = cc in rw (← p) (both_left _ _ q)
    go ih false q e = ih e
