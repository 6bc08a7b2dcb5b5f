-- A term appended: words for the store extend to it, and for a variable any word can be chosen.
use Rattle.std.specs.Prelude.{if◌then◌else◌}
use mathlib.Core.Path.{◌≡◌, refl, sym, ap, subst, ◌∙◌}
use mathlib.Core.Bool.{Bool, true, false, not}
use mathlib.Core.List.{List, []}
use Prim.Native.Nat.{ℕ, zero, suc, ◌≤◌, ◌<◌}
use native.Mathlib.Omega.{arith}
use native.Mathlib.Decide.{dec_le}
use lib.Dec.{eqb}
use borrow.Author.Tests.{eq-eqb, ne_eqb}
use Rattle.records.specs.Lists.{all, concat_map, firsts, Every}
use Rattle.records.specs.Store.{Term, Cell, Store, term, count, kind, text_in, text, chain_in, parts, is_edge}
use Rattle.records.specs.Rules.{is_char}
use Rattle.records.specs.Make.{own}
use Rattle.records.specs.Meaning.{Words, Reading, EqualEnds, IsUnder, Holds}
use Rattle.records.specs.Working.Audited.{Audited}
use Rattle.records.proofs.Lists.{clash, every_map, every_firsts, all_take, all_drop, all-concat_map, concat_map-same, within-is, within-high}
use Rattle.records.proofs.Readings.{parts-lower}
use Rattle.records.proofs.Grown.{term-past, term-zero, present, string-here, Extends, Grown}
use Rattle.records.proofs.Append
use Rattle.records.proofs.Append.{grow, More, New, old-constant, old-variable, old-parts, root_of_old}

-- w with u for t
abbrev but : Words → ℕ → List ℕ → Words
but w t u = λ x. if eqb x t then u else w x

but_same : (w : Words) (t : ℕ) (u : List ℕ) → but w t u t ≡ u
but_same w t u = rw (eq-eqb t t refl)

but-other : (w : Words) (t x : ℕ) (u : List ℕ) → (x ≡ t → ⊥) → but w t u x ≡ w x
but-other w t x u d = rw (ne_eqb x t d)

concat_map-but : (w : Words) (t : ℕ) (u : List ℕ) (l : List ℕ) → Every (λ p. p < t) l → concat_map (but w t u) l ≡ concat_map w l
concat_map-but w t u l k = concat_map-same (but w t u) w (every_map (λ p h. but-other w t p u (λ e. omega arith)) k)

-- words for s' that agree with w on the terms of s, with u for z
pub record Chosen (s s' : Store) (w : Words) (z : ℕ) (u : List ℕ) : Type 0 where
  pub extends : Extends s s' w
  pub word : extends.words z ≡ u

module _ (s : Store) (ds : List Cell) (hs : List ℕ) (k a b : ℕ) (audited : Audited s) (more : More s ds hs) (new : New s ds hs k a b) where
  abbrev n : ℕ
  n = suc (count s)

  abbrev s' : Store
  s' = grow s ds hs k a b

  -- numbers other than the new one name what they named
  other-term : (t : ℕ) → (t ≡ n → ⊥) → term s' t ≡ term s t
  other-term =
      Append.each_number s ds hs k a b {P = λ t. (t ≡ n → ⊥) → term s' t ≡ term s t} (λ t h d. Append.old-term s ds hs k a b t h) (λ d. absurd (d refl))
      (λ t h d. let l = Append.longer s ds hs k a b in term-past s' t (omega arith) ∙ sym (term-past s t (omega arith)))

  edge-old : (t : ℕ) → is_edge s' t ≡ true → t ≡ n → ⊥
  edge-old t q e = clash (subst (λ (x : ℕ). is_edge s' x ≡ true) e q) (Append.new-edge s ds hs k a b)

  parent-old : (t : ℕ) → (term s t).forest_parent ≤ count s
  parent-old zero = subst (λ (x : Term). x.forest_parent ≤ count s) (sym (term-zero s)) (omega arith)
  parent-old (suc t) = go (dec_le (suc t) (count s))
    where
      go : Dec (suc t ≤ count s) → (term s (suc t)).forest_parent ≤ count s
      go (yes h) = within-high (count s) _ (audited.classed.forest_parents (suc t) (within-is (count s) (suc t) (omega arith) h))
      go (no h) = subst (λ (x : Term). x.forest_parent ≤ count s) (sym (term-past s (suc t) (omega arith))) (omega arith)

  -- an edge that held holds for words that differ at the new term alone
  edges : (Q : Term → Type 0) (w v : Words) → ((t : ℕ) → (t ≡ n → ⊥) → v t ≡ w t) → ((t : ℕ) → is_edge s t ≡ true → Q (term s t) → EqualEnds s w t) → (t : ℕ) → is_edge s' t ≡ true → Q (term s' t) → EqualEnds s' v t
  edges Q w v same held t q r =
      let d = edge-old t q in
      let e = other-term t d in
      let i = held t (sym (ap (λ (x : Term). not (eqb x.forest_parent t)) e) ∙ q) (subst Q e r) in
      let h = parent-old t in
      same t d ∙ i ∙ sym (same (term s t).forest_parent (λ z. omega arith)) ∙ ap (λ (x : Term). v x.forest_parent) (sym e)

  holds_by : (w v : Words) → ((t : ℕ) → (t ≡ n → ⊥) → v t ≡ w t) → (rs : List (ℕ × ℕ)) → Holds s rs w → Holds s' rs v
  holds_by w v same rs h = record {
    merges = edges (λ x. x.label_kind ≡ 4) w v same h.merges;
    reasons = edges (IsUnder rs) w v same h.reasons;
  }

  old-kind : (t j : ℕ) → kind s t ≡ suc j → kind s' t ≡ suc j
  old-kind t j e = ap (λ (x : Term). x.kind) (Append.old-term s ds hs k a b t (present s t j e)) ∙ e

  down : (w : Words) → Reading s' w → Reading s w
  down w r = record {
    characters = r.characters;
    constants = λ t e. r.constants t (old-kind t 0 e) ∙ old-constant s ds hs k a b audited.recorded more t e;
    concats = λ t e. r.concats t (old-kind t 2 e) ∙ ap (concat_map w) (old-parts s ds hs k a b audited.recorded more t e);
  }

  -- words for s with u for the new term
  extend-by : (w : Words) (u : List ℕ) → Reading s w → all is_char u ≡ true → (k ≡ 1 → u ≡ text_in hs (own n k a b)) → (k ≡ 3 → u ≡ concat_map w (firsts (chain_in ds a))) → Chosen s s' w n u
  extend-by w u r good is-text is-parts =
      record { extends = record { words = v; reading = reading; agree = λ t h. same t (λ e. omega arith); held = holds_by w v same }; word = but_same w n u }
    where
      v : Words
      v = but w n u

      same : (t : ℕ) → (t ≡ n → ⊥) → v t ≡ w t
      same t d = but-other w n t u d

      chars : (t : ℕ) → all is_char (v t) ≡ true
      chars t = go (eqb t n)
        where
          go : (b : Bool) → all is_char (if b then u else w t) ≡ true
          go true = good
          go false = r.characters t

      reading : Reading s' v
      reading = record {
        characters = chars;
        constants = Append.each-kind s ds hs k a b {P = λ t. v t ≡ text s' t} 0
            (λ t e. let h = present s t 0 e in same t (λ z. omega arith) ∙ r.constants t e ∙ sym (old-constant s ds hs k a b audited.recorded more t e))
            (λ i. but_same w n u ∙ is-text i ∙ sym (ap (text_in hs) (Append.new_term s ds hs k a b)));
        concats = Append.each-kind s ds hs k a b {P = λ t. v t ≡ concat_map v (parts s' t)} 2
            (λ t e. let h = present s t 2 e in
            same t (λ z. omega arith) ∙ r.concats t e
            ∙ sym (concat_map-but w n u (parts s t) (every_map (λ p l. omega arith) (parts-lower s audited.recorded t e)))
            ∙ ap (concat_map v) (sym (old-parts s ds hs k a b audited.recorded more t e)))
            (λ i. but_same w n u ∙ is-parts i
            ∙ sym (concat_map-but w n u (firsts (chain_in ds a)) (every_firsts (λ p l. let h = string-here s p.0 l in omega arith) (new.concat i).strings))
            ∙ ap (λ (x : Term). concat_map v (firsts (chain_in ds x.first))) (sym (Append.new_term s ds hs k a b)));
      }

  -- a variable's word is any
  pub choose : k ≡ 2 → (w : Words) → Reading s w → (u : List ℕ) → all is_char u ≡ true → Chosen s s' w n u
  choose e w r u good = extend-by w u r good (λ i. absurd (omega arith)) (λ i. absurd (omega arith))

  new_word : Words → Bool → Bool → List ℕ
  new_word w true c = text_in hs (own n k a b)
  new_word w false true = concat_map w (firsts (chain_in ds a))
  new_word w false false = []

  new_characters : (w : Words) → Reading s w → (c d : Bool) → all is_char (new_word w c d) ≡ true
  unfolding text_in all new_word
  new_characters w r true d = all_take is_char b _ (all_drop is_char a hs more.characters)
  new_characters w r false true = all-concat_map is_char w _ r.characters
  new_characters w r false false = refl

  extend : (w : Words) → Reading s w → Extends s s' w
  unfolding new_word
  extend w r =
      (extend-by w (new_word w (eqb k 1) (eqb k 3)) r (new_characters w r (eqb k 1) (eqb k 3)) (λ e. ap (λ (c : Bool). new_word w c (eqb k 3)) (eq-eqb k 1 e))
      (λ e. ap (λ (j : ℕ). new_word w (eqb j 1) (eqb j 3)) e)).extends

  pub kept_grown : Grown s s'
  kept_grown = record {
    more = (let l = Append.longer s ds hs k a b in omega arith);
    old = Append.old-term s ds hs k a b;
    constants = old-constant s ds hs k a b audited.recorded more;
    variables = old-variable s ds hs k a b audited.recorded more;
    concats = old-parts s ds hs k a b audited.recorded more;
    roots = root_of_old s ds hs k a b audited.classed;
    down = down;
    holds = λ w. holds_by w w (λ t d. refl);
    extend = extend;
  }
