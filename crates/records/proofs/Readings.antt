-- Each assignment of words to the variables has a reading, the words computed from it, and any two readings that agree on the variables
-- agree on every string term.
use Rattle.std.specs.Prelude.{if◌then◌else◌}
use mathlib.Core.Path.{◌≡◌, refl, sym, ap, ◌∙◌}
use mathlib.Core.Bool.{Bool, true, false}
use mathlib.Core.List.{List, []}
use mathlib.Core.Logic.{⊎_elim}
use Prim.Native.Nat.{ℕ, zero, suc, ◌≤◌, ◌<◌}
use native.Mathlib.Omega.{arith}
use lib.Dec.{eqb}
use borrow.Author.Tests.{eqb-true, eq-eqb}
use Rattle.records.specs.Lists.{all, concat_map, Every, none_left, and}
use Rattle.records.specs.Store.{Store, term, kind, is_term, is_string, is_constant, is_concat, text_in, text, chain, parts}
use Rattle.records.specs.Rules.{is_char}
use Rattle.records.specs.Meaning.{Words, Reading}
use Rattle.records.specs.Working.Audited.{Pairs, Congruent, Recorded}
use Rattle.records.proofs.Lists.{within_low, within-high, every_map, every_both, every_firsts, firsts_every, seconds_every, all_take, all_drop, all-concat_map, concat_map-same}
use Rattle.records.proofs.Grown.{string-term}

-- the characters of a text
pub text-characters : (s : Store) → Recorded s → (t : ℕ) → all is_char (text s t) ≡ true
unfolding text_in
text-characters s r t = all_take is_char (term s t).second _ (all_drop is_char (term s t).first s.chars r.characters)

-- a concatenation's parts are string terms, and lower
pub parts-lower : (s : Store) → Recorded s → (t : ℕ) → kind s t ≡ 3 → Every (λ p. p < t) (parts s t)
parts-lower s r t e = every_firsts (λ p k. k.lower) (r.parts_good t e)

pub parts-strings : (s : Store) → Recorded s → (t : ℕ) → kind s t ≡ 3 → Every (λ p. is_string s p ≡ true) (parts s t)
parts-strings s r t e = every_firsts (λ p k. k.string) (r.parts_good t e)

-- both values of each pair of a congruence edge are terms
pub pairs-terms : (s : Store) → Recorded s → (t : ℕ) → Congruent s t → Every (λ p. (is_term s p.0 ≡ true) × (is_term s p.1 ≡ true)) (chain s (term s t).label_value)
pairs-terms s r t c = ⊎_elim (of t u c.child c.parent) (of u t c.parent c.child) c.pairs
  where
    u : ℕ
    u = (term s t).forest_parent

    l : List (ℕ × ℕ)
    l = chain s (term s t).label_value

    of : (t u : ℕ) → kind s t ≡ 3 → kind s u ≡ 3 → Pairs s l t u → Every (λ p. (is_term s p.0 ≡ true) × (is_term s p.1 ≡ true)) l
    of t u e f p =
        every_map (λ q h. (string-term s q.0 h.0, string-term s q.1 h.1))
        (every_both (firsts_every l (rw p.one (parts-strings s r t e))) (seconds_every l (rw p.other (parts-strings s r u f))))

-- the word of a term, at most f deep
val : ℕ → Store → Words → ℕ → List ℕ
val zero s v t = []
val (suc f) s v t = if is_constant s t then text s t else (if is_concat s t then concat_map (val f s v) (parts s t) else v t)

-- the words that the words v of the variables give
pub words_of : Store → Words → Words
words_of s v t = val (suc t) s v t

-- kinds 1, 2 and 3
string-kinds : (P : ℕ → Type 0) (k : ℕ) → P 1 → P 2 → P 3 → 0 < k → k ≤ 3 → P k
string-kinds P zero a b c p q = absurd (omega arith)
string-kinds P (suc zero) a b c p q = a
string-kinds P (suc (suc zero)) a b c p q = b
string-kinds P (suc (suc (suc zero))) a b c p q = c
string-kinds P (suc (suc (suc (suc k)))) a b c p q = absurd (omega arith)

module _ (s : Store) (v : Words) (recorded : Recorded s) where
  enough : (f g t : ℕ) → t < f → t < g → val f s v t ≡ val g s v t
  unfolding val
  enough zero g t h k = absurd (omega arith)
  enough (suc f) zero t h k = absurd (omega arith)
  enough (suc f) (suc g) t h k = go (enough f g) (is_constant s t) (is_concat s t) refl
    where
      go : ((p : ℕ) → p < f → p < g → val f s v p ≡ val g s v p) → (b c : Bool) → is_concat s t ≡ c
          → (if b then text s t else (if c then concat_map (val f s v) (parts s t) else v t)) ≡ (if b then text s t else (if c then concat_map (val g s v) (parts s t) else v t))
      go ih true c q = refl
      go ih false true q = concat_map-same (val f s v) (val g s v) (every_map (λ p i. ih p (omega arith) (omega arith)) (parts-lower s recorded t (eqb-true _ _ q)))
      go ih false false q = refl

  val_characters : ((t : ℕ) → all is_char (v t) ≡ true) → (f t : ℕ) → all is_char (val f s v t) ≡ true
  unfolding val all
  val_characters good zero t = refl
  val_characters good (suc f) t = go (is_constant s t) (is_concat s t) (val_characters good f)
    where
      go : (b c : Bool) → ((t : ℕ) → all is_char (val f s v t) ≡ true) → all is_char (if b then text s t else (if c then concat_map (val f s v) (parts s t) else v t)) ≡ true
      go true c ih = text-characters s recorded t
      go false true ih = all-concat_map is_char (val f s v) (parts s t) ih
      go false false ih = good t

  pub reading_exists : ((t : ℕ) → all is_char (v t) ≡ true) → Reading s (words_of s v)
  unfolding words_of val
  reading_exists good = record {
    characters = λ t. val_characters good (suc t) t;
    constants = λ t e. rw (eq-eqb (kind s t) 1 e);
    concats = λ t e. rw (ap (λ (k : ℕ). eqb k 1) e, eq-eqb (kind s t) 3 e)
        (concat_map-same (val t s v) (words_of s v) (every_map (λ p i. enough t (suc p) p i (omega arith)) (parts-lower s recorded t e)));
  }

  pub reading-variables : (t : ℕ) → kind s t ≡ 2 → words_of s v t ≡ v t
  unfolding words_of val
  reading-variables t e = rw (ap (λ (k : ℕ). eqb k 1) e, ap (λ (k : ℕ). eqb k 3) e)

module _ (s : Store) (recorded : Recorded s) (w w' : Words) (reads : Reading s w) (reads' : Reading s w')
    (agree : (t : ℕ) → kind s t ≡ 2 → w t ≡ w' t) where
  unique-below : (n t : ℕ) → t < n → is_string s t ≡ true → w t ≡ w' t
  unique-below zero t h e = absurd (omega arith)
  unique-below (suc n) t h e =
      string-kinds (λ k. kind s t ≡ k → w t ≡ w' t) (kind s t)
      (λ k. reads.constants t k ∙ sym (reads'.constants t k))
      (agree t)
      (λ k. reads.concats t k ∙ concat_map-same w w' (both (unique-below n) (parts-lower s recorded t k) (parts-strings s recorded t k)) ∙ sym (reads'.concats t k))
      (within_low 3 (kind s t) e) (within-high 3 (kind s t) e) refl
    where
      both : ((p : ℕ) → p < n → is_string s p ≡ true → w p ≡ w' p) → {l : List ℕ} → Every (λ p. p < t) l → Every (λ p. is_string s p ≡ true) l → Every (λ p. w p ≡ w' p) l
      both ih none_left k = none_left
      both ih (and {a} p m) (and q k) = and (ih a (omega arith) q) (both ih m k)

  pub reading-unique : (t : ℕ) → is_string s t ≡ true → w t ≡ w' t
  reading-unique t e = unique-below (suc t) t (omega arith) e
