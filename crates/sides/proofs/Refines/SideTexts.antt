-- The texts of two terms compared, and a name's beginning.
use mathlib.Core.Path.{◌≡◌, refl, sym, ap, ◌∙◌}
use mathlib.Core.Bool.{Bool, true, false, not, ◌&&◌, ◌||◌}
use mathlib.Core.List.{List, [], ◌∷◌, ◌++◌}
use Prim.Native.Nat.{ℕ, suc, ◌+◌, ◌-◌, ◌<◌, ◌≤◌, min}
use native.Mathlib.Numerals.{add-one}
use native.Mathlib.Omega.{arith}
use lib.ListN.{length, get_or, take, drop, length-take, drop_of_length-le}
use lib.Seq.{drop-cons, take-append_seam}
use lib.Dec.{eqb, leb}
use borrow.Author.Tests.{eqb-true, eq-eqb, ne_eqb, leb-true, leb-false}
use Rattle.records.specs.declared.State.{State}
use Rattle.records.specs.Lists.{table, same_word}
use Rattle.records.specs.Store.{Term, kind, term, is_constant, text}
use Rattle.records.specs.View.{span, read_in, termed, term_at}
use Rattle.records.specs.Make.{strk}
use Rattle.records.proofs.Lists.{decide, and-stop, and-next, both_left, both_right, both_true, table_at_lem, table-length, table_add, word-differs}
use Rattle.records.proofs.Views.{term-there, text-words}
use Rattle.sides.specs.Wordeq.{is_plain, differ}
use Rattle.sides.specs.Working.Sides.{Spelled}

-- A CHARACTER THAT DIFFERS

differ-none : (v : List ℕ) → differ v [] ≡ false
unfolding differ
differ-none [] = refl
differ-none (x ∷ v) = refl

module _ (h : List ℕ) (p n q m : ℕ) where
  span-size : length (span h p n) ≡ n
  span-size = table-length (λ i. get_or h (p + i) 0) n

  other-size : length (span h q m) ≡ m
  other-size = table-length (λ i. get_or h (q + i) 0) m

  -- the first j characters agree
  pub record Alike (j : ℕ) : Type 0 where
    pub one : j ≤ n
    pub other : j ≤ m
    pub rest : differ (drop j (span h p n)) (drop j (span h q m)) ≡ differ (span h p n) (span h q m)

  alike_short : (j : ℕ) → Alike j → m ≤ j → false ≡ differ (span h p n) (span h q m)
  alike_short j a l =
      let e = other-size in
      sym (differ-none (drop j (span h p n))) ∙ ap (differ (drop j (span h p n))) (sym (drop_of_length-le (span h q m) (let z : length (span h q m) ≤ j = omega arith in z))) ∙ a.rest

  alike_all : (j : ℕ) → Alike j → n ≤ j → false ≡ differ (span h p n) (span h q m)
  unfolding differ
  alike_all j a l =
      let e = span-size in
      ap (λ (z : List ℕ). differ z (drop j (span h q m))) (sym (drop_of_length-le (span h p n) (let z : length (span h p n) ≤ j = omega arith in z))) ∙ a.rest

  pub alike_done : (j : ℕ) → Alike j → min n m ≤ j → false ≡ differ (span h p n) (span h q m)
  alike_done j a l = decide (leb n j) (λ z. alike_all j a (leb-true n j z)) (λ z. alike_short j a (let y = leb-false n j z in omega arith))

  module _ (j : ℕ) (a : Alike j) (l : j < n) (k : j < m) where
    alike_at_lem : differ (span h p n) (span h q m) ≡ (not (eqb (get_or h (p + j) 0) (get_or h (q + j) 0)) || differ (drop (suc j) (span h p n)) (drop (suc j) (span h q m)))
    unfolding differ
    alike_at_lem =
        let e = span-size in
        let f = other-size in
        let b : j < length (span h p n) = omega arith in
        let d : j < length (span h q m) = omega arith in
        sym a.rest
        ∙ rw (drop-cons (span h p n) j 0 b, drop-cons (span h q m) j 0 d, table_at_lem (λ i. get_or h (p + i) 0) n j 0 l, table_at_lem (λ i. get_or h (q + i) 0) m j 0 k)

    pub alike_differ : (get_or h (p + j) 0 ≡ get_or h (q + j) 0 → ⊥) → true ≡ differ (span h p n) (span h q m)
    alike_differ d = sym (alike_at_lem ∙ rw (ne_eqb _ _ d))

    pub alike_one : get_or h (p + j) 0 ≡ get_or h (q + j) 0 → Alike (j + 1)
    alike_one d = record { one = omega arith; other = omega arith; rest = rw add-one (sym (alike_at_lem ∙ rw (eq-eqb (get_or h (p + j) 0) (get_or h (q + j) 0) d))) }

-- TEXTS

text-room : (w h : List ℕ) (c : State) (a k : ℕ) → Spelled w h c → kind (termed w c) a ≡ suc k → (term (termed w c) a).first + (term (termed w c) a).second ≤ c.chars
    → (term_at w a).first + (term_at w a).second ≤ length h
text-room w h c a k x e q =
    let t = term-there w c a k e in
    let f = ap (λ (t : Term). t.first) t in
    let g = ap (λ (t : Term). t.second) t in
    let r = x.room in omega arith

module _ (w h : List ℕ) (c : State) (a b : ℕ) (x : Spelled w h c) (y : (is_constant (termed w c) a && is_constant (termed w c) b) ≡ true) where
  one-kind : kind (termed w c) a ≡ 1
  one-kind = eqb-true _ 1 (both_left _ _ y)

  other-kind : kind (termed w c) b ≡ 1
  other-kind = eqb-true _ 1 (both_right (is_constant (termed w c) a) _ y)

  one-text : text (read_in w h c) a ≡ span h (term_at w a).first (term_at w a).second
  one-text = text-words w h c a 0 one-kind (x.texts.constants a one-kind)

  other_text : text (read_in w h c) b ≡ span h (term_at w b).first (term_at w b).second
  other_text = text-words w h c b 0 other-kind (x.texts.constants b other-kind)

  pub one-room : (term_at w a).first + (term_at w a).second ≤ length h
  one-room = text-room w h c a 0 x one-kind (x.texts.constants a one-kind)

  pub other-room : (term_at w b).first + (term_at w b).second ≤ length h
  other-room = text-room w h c b 0 x other-kind (x.texts.constants b other-kind)

  pub differ-is : (p n q m : ℕ) (r : Bool) → p ≡ (term_at w a).first → n ≡ (term_at w a).second → q ≡ (term_at w b).first → m ≡ (term_at w b).second
      → r ≡ differ (span h p n) (span h q m) → r ≡ (is_constant (read_in w h c) a && is_constant (read_in w h c) b && differ (text (read_in w h c) a) (text (read_in w h c) b))
  differ-is p n q m r e f g i d = and-next _ _ r y (d ∙ (rw (e, f, g, i, one-text, other_text)))

-- PLAIN VARIABLES

module _ (w h : List ℕ) (c : State) (v k : ℕ) (x : Spelled w h c) (e : k ≡ kind (termed w c) v) where
  pub plain-kind : (k ≡ 2 → ⊥) → false ≡ is_plain (read_in w h c) v
  unfolding is_plain
  plain-kind n = and-stop _ _ (ne_eqb _ 2 (λ z. n (e ∙ z)))

  module _ (o : k ≡ 2) where
    name_text : text (read_in w h c) v ≡ span h (term_at w v).first (term_at w v).second
    name_text = text-words w h c v 1 (sym e ∙ o) (x.texts.variables v (sym e ∙ o))

    name_long : length (text (read_in w h c) v) ≡ (term_at w v).second
    name_long = ap length name_text ∙ table-length (λ i. get_or h ((term_at w v).first + i) 0) (term_at w v).second

    pub plain-short : (n : ℕ) → n ≡ (term_at w v).second → n < 5 → true ≡ is_plain (read_in w h c) v
    unfolding is_plain
    plain-short n f l =
        sym (both_true _ _ (eq-eqb _ 2 (sym e ∙ o)) (ap not (word-differs _ _ (λ z.
        let i = ap length z in
        let j = name_long in
        let g : length (take 5 (text (read_in w h c) v)) < 5 = simp length-take (omega arith) in omega arith))))

    pub plain-is : (n p : ℕ) (b r : Bool) → n ≡ (term_at w v).second → 5 ≤ n → p ≡ (term_at w v).first → b ≡ same_word (span h p 5) strk → r ≡ not b → r ≡ is_plain (read_in w h c) v
    unfolding is_plain
    plain-is n p b r f l g d i =
        and-next _ _ r (eq-eqb _ 2 (sym e ∙ o)) (i ∙ ap not (d ∙ ap (λ (z : List ℕ). same_word z strk) (rw g (sym (ap (take 5) name_text ∙ begins)))))
      where
        begins : take 5 (span h (term_at w v).first (term_at w v).second) ≡ span h (term_at w v).first 5
        begins =
            let at : ℕ → ℕ = λ i. get_or h ((term_at w v).first + i) 0 in
            let y : (term_at w v).second ≡ 5 + ((term_at w v).second - 5) = omega arith in
            ap (λ (z : ℕ). take 5 (table at z)) y
            ∙ ap (take 5) (table_add at 5 ((term_at w v).second - 5))
            ∙ ap (λ (z : ℕ). take z (table at 5 ++ table (λ i. at (5 + i)) ((term_at w v).second - 5))) (sym (table-length at 5))
            ∙ take-append_seam (table at 5) (table (λ i. at (5 + i)) ((term_at w v).second - 5))
