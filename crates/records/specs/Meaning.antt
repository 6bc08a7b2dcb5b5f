-- Words, and when an edge, a reason, a definitional merge or an atom holds for given words.
use Rattle.std.specs.Prelude.{◌≡◌, true, ℕ, length}
use mathlib.Core.List.{List, Memᴰ}
use Rattle.records.specs.Lists.{all, concat_map}
use Rattle.records.specs.Store.{Term, Store, term, kind, is_string, text, parts, is_edge}
use Rattle.records.specs.Rules.{is_char, is_reason_kind}

-- a word for each term; 'a concatenation's or a list's is its parts' words in order': `concat_map w l`
abbrev pub Words : Type 0
Words = ℕ → List ℕ

-- 'a variable's word is any finite list of characters; a constant's is its own, and a concatenation's or a list's is its parts'
-- words in order' (SMT-LIB: str.++ is concatenation, str.len is length). Each assignment of words to the variables has a reading, and
-- any two of its readings agree on every string term (proofs/Readings.antt)
pub record Reading (s : Store) (w : Words) : Type 0 where
  pub characters : (t : ℕ) → all is_char (w t) ≡ true
  pub constants : (t : ℕ) → kind s t ≡ 1 → w t ≡ text s t
  pub concats : (t : ℕ) → kind s t ≡ 3 → w t ≡ concat_map w (parts s t)

-- an edge holds when its two ends have equal words
abbrev pub EqualEnds : Store → Words → ℕ → Type 0
EqualEnds s w t = w t ≡ w (term s t).forest_parent

-- 'The edges under a reason are those at entry labelled with its kind and number': x is the child of an edge under a reason of the list.
-- A congruence edge is under none, whatever number its pair chain has
pub record IsUnder (rs : List (ℕ × ℕ)) (x : Term) : Type 0 where
  pub labelled : is_reason_kind x.label_kind ≡ true
  pub listed : Memᴰ (x.label_kind, x.label_value) rs

-- 'A reason holds for given words when the two ends of every edge under it have equal words; a definitional merge (label 4) holds when
-- its two ends do'
pub record Holds (s : Store) (rs : List (ℕ × ℕ)) (w : Words) : Type 0 where
  pub merges : (t : ℕ) → is_edge s t ≡ true → (term s t).label_kind ≡ 4 → EqualEnds s w t
  pub reasons : (t : ℕ) → is_edge s t ≡ true → IsUnder rs (term s t) → EqualEnds s w t

-- 'A listed atom, an equation in Split's list, is true when its two words are equal or, between lengths, equally long'; an equation is of
-- 'two string terms or two lengths'
pub data True (s : Store) (w : Words) (e : ℕ) : Type 0 where
  equal : kind s e ≡ 5 → is_string s (term s e).first ≡ true → is_string s (term s e).second ≡ true → w (term s e).first ≡ w (term s e).second → True s w e
  long : kind s e ≡ 5 → kind s (term s e).first ≡ 4 → kind s (term s e).second ≡ 4 → length (w (term s (term s e).first).first) ≡ length (w (term s (term s e).second).first) → True s w e
