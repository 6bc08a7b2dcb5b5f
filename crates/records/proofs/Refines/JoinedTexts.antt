-- The joined texts of a list of terms: counted, compared and copied one after the other.
use mathlib.Core.Path.{◌≡◌, refl, sym, ap, ◌∙◌}
use mathlib.Core.Bool.{Bool, true, false, ◌&&◌}
use mathlib.Core.List.{List, [], ◌∷◌, ◌++◌, map, map-append}
use Prim.Native.Nat.{ℕ, suc, ◌+◌, ◌*◌, ◌<◌, ◌≤◌}
use native.Mathlib.Numerals.{add-one}
use native.Mathlib.Nat.{add_assoc}
use native.Mathlib.Omega.{arith}
use lib.ListN.{length, get_or, set, take, drop, length-append, drop_of_length-le, take-append-drop}
use lib.Seq.{drop-cons, take-suc, take_all}
use Rattle.records.specs.Lists.{table, concat_map, same_word, Every}
use Rattle.records.specs.View.{span, text_at, term_at, lengths, chars_view}
use Rattle.records.specs.Working.Puts.{CharsPut, TextsWithin}
use Rattle.records.specs.Working.Standard.{standard_join, HoldsJoin, PartAdded}
use Rattle.records.proofs.Lists.{left_false, word-append, every_at, every_map, every_left, table_at_lem, table_same, table_add, table-length, concat_map-same}
use Rattle.records.proofs.Standard.{join-next, join-all, join-same}
use Rattle.records.proofs.Loops.{Summing, summing_turn}
use Rattle.records.proofs.Refines.Texts.{Copied, copied-one, copied_all, lower_view, put_word}

-- COUNTED

pub lengths-append : (l ts us : List ℕ) → lengths l (ts ++ us) ≡ lengths l ts + lengths l us
unfolding lengths
lengths-append l [] us = omega arith
lengths-append l (t ∷ ts) us = let e = lengths-append l ts us in omega arith

pub lengths-concat_map : (l h ts : List ℕ) → length (concat_map (text_at l h) ts) ≡ lengths l ts
unfolding lengths concat_map
lengths-concat_map l h [] = refl
lengths-concat_map l h (t ∷ ts) =
    length-append (text_at l h t) (concat_map (text_at l h) ts)
    ∙ (let e = lengths-concat_map l h ts in let f = table-length (λ i. get_or h ((term_at l t).first + i) 0) (term_at l t).second in omega arith)

-- the term at i, and those after it
pub lengths-at : (l ts : List ℕ) (i : ℕ) → i < length ts → lengths l (drop i ts) ≡ (term_at l (get_or ts i 0)).second + lengths l (drop (suc i) ts)
unfolding lengths
lengths-at l ts i h = rw (drop-cons ts i 0 h)

-- the sum of the first i
pub lengths_none : (l : List ℕ) → lengths l [] ≡ 0
unfolding lengths
lengths_none l = refl

lengths-cons : (l : List ℕ) (t : ℕ) (ts : List ℕ) → lengths l (t ∷ ts) ≡ (term_at l t).second + lengths l ts
unfolding lengths
lengths-cons l t ts = refl

pub summed_one : (l ts : List ℕ) (total i n : ℕ) → Summing (lengths l) 4294967295 ts total i → i < length ts → n ≡ (term_at l (get_or ts i 0)).second → n ≤ 4294967295
    → Summing (lengths l) 4294967295 ts (total + n) (i + 1)
summed_one l ts total i n s h e b = summing_turn (lengths l) 4294967295 ts total i s (λ t. (term_at l t).second) (lengths-cons l) n h e b

-- COPIED within the slice, from below the place

module _ (l l' : List ℕ) (from n to i : ℕ) (a : Copied l l' to (span l from n) i) where
  pub moved-one : i < n → from + n ≤ to → to + n ≤ length l → Copied l (set l' (to + i) (get_or l' (from + i) 0)) to (span l from n) (i + 1)
  moved-one h b f =
      let m = table-length (λ j. get_or l (from + j) 0) n in
      copied-one l l' to (span l from n) i (get_or l' (from + i) 0) a (omega arith) (omega arith)
      (a.lower (from + i) (omega arith) ∙ sym (table_at_lem (λ j. get_or l (from + j) 0) n i 0 h))

  pub moved_all : n ≤ i → CharsPut l l' to (span l from n)
  moved_all h = let m = table-length (λ j. get_or l (from + j) 0) n in copied_all l l' to (span l from n) i a (omega arith)

-- COMPARED text by text

pub span_add : (h : List ℕ) (p n m : ℕ) → span h p (n + m) ≡ span h p n ++ span h (p + n) m
span_add h p n m =
    table_add (λ i. get_or h (p + i) 0) n m
    ∙ ap (λ (w : List ℕ). span h p n ++ w)
    (table_same (λ i. get_or h (p + (n + i)) 0) (λ i. get_or h (p + n + i) 0) m (λ i q. ap (λ (j : ℕ). get_or h j 0) (sym (add_assoc p n i))))

-- what is left to compare from place p on, where i terms are done
abbrev pub left_from : List ℕ → List ℕ → List ℕ → ℕ → ℕ → Bool
left_from l h ts p i = same_word (span h p (lengths l (drop i ts))) (concat_map (text_at l h) (drop i ts))

pub left_at : (l h ts : List ℕ) (p i a n : ℕ) → i < length ts → a ≡ (term_at l (get_or ts i 0)).first → n ≡ (term_at l (get_or ts i 0)).second
    → left_from l h ts p i ≡ (same_word (span h p n) (span h a n) && left_from l h ts (p + n) (suc i))
unfolding concat_map
left_at l h ts p i a n b ea en =
    let t = get_or ts i 0 in
    rw (lengths-at l ts i b, drop-cons ts i 0 b, ← ea, ← en, span_add h p n (lengths l (drop (suc i) ts)))
    (word-append (span h p n) (span h a n) (span h (p + n) (lengths l (drop (suc i) ts))) (concat_map (text_at l h) (drop (suc i) ts))
    (table-length (λ j. get_or h (p + j) 0) n ∙ sym (table-length (λ j. get_or h (a + j) 0) n)))

-- i terms agree, up to place q
pub record Matched (l h ts : List ℕ) (p q i : ℕ) : Type 0 where
  pub within : i ≤ length ts
  pub small : q ≤ p + 4294967295 * i
  pub rest : left_from l h ts q i ≡ left_from l h ts p 0

pub matched-none : (l h ts : List ℕ) (p : ℕ) → Matched l h ts p p 0
matched-none l h ts p = record { within = omega arith; small = omega arith; rest = refl }

module _ (l h ts : List ℕ) (p q i : ℕ) (m : Matched l h ts p q i) where
  pub matched-all : length ts ≤ i → true ≡ left_from l h ts p 0
  unfolding lengths concat_map same_word table
  matched-all b = let z : drop i ts ≡ [] = drop_of_length-le ts b in rw z at m.rest

  module _ (b : i < length ts) (a n : ℕ) (ea : a ≡ (term_at l (get_or ts i 0)).first) (en : n ≡ (term_at l (get_or ts i 0)).second) (r : Bool) (same : r ≡ same_word (span h q n) (span h a n)) where
    pub matched-stop : r ≡ false → false ≡ left_from l h ts p 0
    matched-stop d = sym (left_false _ _ (sym same ∙ d)) ∙ sym (left_at l h ts q i a n b ea en) ∙ m.rest

    pub matched-one : r ≡ true → n ≤ 4294967295 → Matched l h ts p (q + n) (i + 1)
    matched-one d s =
        let k = m.small in
        let e : same_word (span h q n) (span h a n) ≡ true = sym same ∙ d in
        let f = left_at l h ts q i a n b ea en in
        record { within = omega arith; small = omega arith; rest = rw add-one ((sym (rw e at f)) ∙ m.rest) }

-- the text of the term at i is within
pub within-at : (l ts : List ℕ) (k i a n : ℕ) → TextsWithin l k ts → i < length ts → a ≡ (term_at l (get_or ts i 0)).first → n ≡ (term_at l (get_or ts i 0)).second → a + n ≤ k
within-at l ts k i a n e b ea en = rw (ea, en) (every_at {P = λ t. (term_at l t).first + (term_at l t).second ≤ k} ts i 0 e b)

-- COPIED text by text

pub kept-span : (h h' : List ℕ) (k a n : ℕ) → chars_view h' k ≡ chars_view h k → a + n ≤ k → span h' a n ≡ span h a n
kept-span h h' k a n e b = table_same (λ i. get_or h' (a + i) 0) (λ i. get_or h (a + i) 0) n (λ i q.
    sym (table_at_lem (λ j. get_or h' j 0) k (a + i) 0 (omega arith)) ∙ ap (λ (w : List ℕ). get_or w (a + i) 0) e ∙ table_at_lem (λ j. get_or h j 0) k (a + i) 0 (omega arith))

-- the first i texts, joined, are held from place `to` on, n characters
pub record Joined (l h ts : List ℕ) (to : ℕ) (h' : List ℕ) (n i : ℕ) : Type 0 where
  pub within : i ≤ length ts
  pub long : length h' ≡ length h
  pub holds : HoldsJoin l h' (take i ts) to n
  pub kept : chars_view h' to ≡ chars_view h to

pub joined-none : (l h ts : List ℕ) (to : ℕ) → Joined l h ts to h 0 0
unfolding standard_join table
joined-none l h ts to = record { within = omega arith; long = refl; holds = refl; kept = refl }

-- texts below a place are those of the slice that is as it was up to there
texts-same : (l h h' : List ℕ) (to : ℕ) {ts : List ℕ} → chars_view h' to ≡ chars_view h to → TextsWithin l to ts → Every (λ t. text_at l h' t ≡ text_at l h t) ts
texts-same l h h' to k texts = every_map (λ t b. kept-span h h' to (term_at l t).first (term_at l t).second k b) texts

module _ (l h ts : List ℕ) (to : ℕ) (h' : List ℕ) (n i : ℕ) (j : Joined l h ts to h' n i) where
  pub joined-room : to + lengths l ts ≤ length h → to + lengths l ts ≤ length h'
  joined-room room = let e = j.long in omega arith

  pub joined-one : i < length ts → (h'' : List ℕ) (m : ℕ) → PartAdded l h' h'' ts to i m → length h'' ≡ length h' → Joined l h ts to h'' m (i + 1)
  joined-one b h'' m p k = record { within = omega arith; long = k ∙ j.long; holds = p.holds; kept = p.kept ∙ j.kept }

  pub joined-all : TextsWithin l to ts → length ts ≤ i → CharsPut h h' to (concat_map (text_at l h) ts)
  joined-all texts b =
      record { grown = rw long_is (table_add (λ x. get_or h' x 0) to n ∙ (let k = j.kept in let w = word_is in cc)); kept = j.kept }
    where
      word_is : span h' to n ≡ concat_map (text_at l h) ts
      word_is =
          (rw (take_all i ts b) at j.holds)
          ∙ join-all (text_at l h') ts
          ∙ concat_map-same (text_at l h') (text_at l h) (texts-same l h h' to j.kept texts)

      long_is : length (concat_map (text_at l h) ts) ≡ n
      long_is = ap length (sym word_is) ∙ table-length (λ x. get_or h' (to + x) 0) n

-- the part at i, of n characters from place a on, is added to the word held
module _ (l h ts : List ℕ) (to i held : ℕ) (texts : TextsWithin l to ts) (room : to + lengths l ts ≤ length h) (b : i < length ts)
    (holds : HoldsJoin l h (take i ts) to held) (a n : ℕ) (ea : a ≡ (term_at l (get_or ts i 0)).first) (en : n ≡ (term_at l (get_or ts i 0)).second) where
  held-long : held ≡ lengths l (take i ts)
  held-long =
      sym (table-length (λ x. get_or h (to + x) 0) held) ∙ ap length (holds ∙ join-all (text_at l h) (take i ts)) ∙ lengths-concat_map l h (take i ts)

  pub part-below : a + n ≤ to + held
  part-below = let q = within-at l ts to i a n texts b ea en in omega arith

  pub part_room : to + held + n ≤ length h
  part_room =
      let p = held-long in
      let q : lengths l ts ≡ lengths l (take i ts) + lengths l (drop i ts) = ap (lengths l) (sym (take-append-drop i ts)) ∙ lengths-append l (take i ts) (drop i ts) in
      let r = lengths-at l ts i b in omega arith

  pub part-added : (h' : List ℕ) → CharsPut h h' (to + held) (span h a n) → PartAdded l h h' ts to i (held + n)
  part-added h' put = record { holds = rw (add-one i) (span_add h' to held n ∙ both_are ∙ sym joined_is); kept = below }
    where
      below : chars_view h' to ≡ chars_view h to
      below = lower_view h h' to (to + held) (omega arith) put.kept

      texts-up_to : TextsWithin l to (take i ts)
      texts-up_to = every_left {P = λ t. (term_at l t).first + (term_at l t).second ≤ to} (take i ts) (drop i ts) (rw (take-append-drop i ts) texts)

      held-is : span h' to held ≡ standard_join (map (text_at l h') (take i ts))
      held-is =
          kept-span h h' (to + held) to held put.kept (omega arith)
          ∙ holds
          ∙ sym (join-same (text_at l h') (text_at l h) (texts-same l h h' to below texts-up_to))

      part-is : span h' a n ≡ text_at l h' (get_or ts i 0)
      part-is = rw (ea, en) refl

      next_is : span h' (to + held) n ≡ text_at l h' (get_or ts i 0)
      next_is =
          let long = table-length (λ x. get_or h (a + x) 0) n in
          (rw long at (put_word h h' (to + held) (span h a n) put))
          ∙ sym (kept-span h h' to a n below (within-at l ts to i a n texts b ea en))
          ∙ part-is

      both_are : span h' to held ++ span h' (to + held) n ≡ standard_join (map (text_at l h') (take i ts)) ++ text_at l h' (get_or ts i 0)
      both_are = let p = held-is in let q = next_is in cc

      joined_is : standard_join (map (text_at l h') (take (suc i) ts)) ≡ standard_join (map (text_at l h') (take i ts)) ++ text_at l h' (get_or ts i 0)
      joined_is =
          ap (λ (us : List ℕ). standard_join (map (text_at l h') us)) (take-suc ts i 0 b)
          ∙ ap standard_join (map-append (text_at l h') (take i ts) (get_or ts i 0 ∷ []))
          ∙ join-next (map (text_at l h') (take i ts)) (text_at l h' (get_or ts i 0))
