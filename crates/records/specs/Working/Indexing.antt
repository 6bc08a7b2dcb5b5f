-- The index while it is walked, grown and cut: what the functions of src/index.rt require and promise.
use Rattle.std.specs.Prelude.{◌≡◌, Bool, true, ◌&&◌, ℕ, suc, ◌+◌, ◌≤◌, ◌<◌, length, get_or, set, eqb, ltb, leb, if◌then◌else◌}
use mathlib.Core.List.{List, Memᴰ}
use Rattle.records.specs.Lists.{first_of, all_below, last_below}
use Rattle.records.specs.Store.{Store, term, kind, within, is_term, or_none}
use Rattle.records.specs.View.{buckets, term_place, head_at, next_at, term_at, zero_term}
use Rattle.records.specs.Index.{bucket, IndexOf}
use Rattle.records.specs.Chained.{Chain, Ascending}
use Rattle.records.specs.Working.Audited.{Ascends}

-- WALKING

-- the chain of bucket b ends, and is of terms up to n: nothing is asked of any other
pub record Walkable (l : List ℕ) (n b : ℕ) : Type 0 where
  pub members : List ℕ
  pub walked : Chain (next_at l) (head_at l b) members
  pub ascends : Ascending 0 members
  pub inside : (t : ℕ) → Memᴰ t members → t ≤ n

-- the chain of bucket b holds every one of n terms that passes: the terms are indexed by buckets f, and each that passes lies in b
pub record Searchable (l : List ℕ) (n b : ℕ) (p : ℕ → Bool) : Type 0 where
  pub f : ℕ → ℕ
  pub indexed : IndexOf f n l
  pub small : b < buckets
  pub lies : (t : ℕ) → within n t ≡ true → p t ≡ true → f t ≡ b

-- each answer on a term t is p t
abbrev pub Tests : (ℕ → Bool → Type 0) → (ℕ → Bool) → Type 0
Tests answers p = (t : ℕ) (r : Bool) → answers t r → r ≡ p t

-- r is the first term of the chain of bucket b that passes, or 0
abbrev pub FirstIn : List ℕ → ℕ → (ℕ → Bool) → ℕ → Type 0
FirstIn l b p r = (ts : List ℕ) → Chain (next_at l) (head_at l b) ts → r ≡ or_none (first_of p ts)

-- CUTTING

-- a head or a ninth word, of which one that names a term above n counts as 0
abbrev pub cut_at : ℕ → ℕ → ℕ
cut_at n x = if leb x n then x else 0

-- heads and ninth words of n terms, so counted, are as they were
pub record CutIndex (l l' : List ℕ) (n : ℕ) : Type 0 where
  pub heads : (b : ℕ) → b < buckets → cut_at n (head_at l' b) ≡ cut_at n (head_at l b)
  pub nexts : (t : ℕ) → within n t ≡ true → cut_at n (next_at l' t) ≡ cut_at n (next_at l t)

-- heads and ninth words of n terms are cut, and no other word changes
pub record Cut (l l' : List ℕ) (n : ℕ) : Type 0 where
  pub long : length l' ≡ length l
  pub zero : zero_term l' ≡ zero_term l
  pub terms : (t : ℕ) → term_at l' t ≡ term_at l t
  pub heads : (b : ℕ) → b < buckets → head_at l' b ≡ cut_at n (head_at l b)
  pub nexts : (t : ℕ) → within n t ≡ true → next_at l' t ≡ cut_at n (next_at l t)

-- GROWING

-- the terms of s are in the buckets that they were in
abbrev pub SameBuckets : Store → Store → Type 0
SameBuckets s s' = (t : ℕ) → is_term s t ≡ true → bucket s' t ≡ bucket s t

-- the place of the word that ends the chain of bucket b, of n terms
pub data Reached (l : List ℕ) (n b : ℕ) : ℕ → Type 0 where
  at_head : head_at l b ≡ 0 → Reached l n b b
  after_last : (t : ℕ) → within n t ≡ true → next_at l t ≡ 0 → ((f : ℕ → ℕ) → IndexOf f n l → f t ≡ b) → Reached l n b (term_place t 8)

-- term n + 1 is named by the word that ended that chain, and no other word changes
pub record Tied (l l' : List ℕ) (n b : ℕ) : Type 0 where
  pub place : ℕ
  pub reached : Reached l n b place
  pub is : l' ≡ set l place (suc n)

-- term n + 1, of bucket b, is put at the end of its chain: where the n terms before it were indexed, all are
pub record Linked (l l' : List ℕ) (n b : ℕ) : Type 0 where
  pub indexed : (f : ℕ → ℕ) → f (suc n) ≡ b → IndexOf f n l → IndexOf f (suc n) l'
  pub kept : CutIndex l l' n

-- AUDITING

-- what the buckets of a store are read from: texts within the characters, and chains of cells that end
pub record Bucketed (s : Store) : Type 0 where
  pub texts : (t : ℕ) → within 2 (kind s t) ≡ true → (term s t).first + (term s t).second ≤ length s.chars
  pub nexts : Ascends s.cells

-- the word after t in the chain of bucket b; that after none is its head
abbrev pub word_after : List ℕ → ℕ → ℕ → ℕ
word_after l b t = if eqb t 0 then head_at l b else next_at l t

-- the highest of n terms that is in bucket b, or 0
abbrev pub last_in : (ℕ → ℕ) → ℕ → ℕ → ℕ
last_in f n b = last_below (λ u. ltb 0 u && eqb (f u) b) (suc n)

-- each of n terms stands in the word after the last one before it of its bucket
abbrev pub links_rule : List ℕ → (ℕ → ℕ) → ℕ → Bool
links_rule l f n = all_below (λ i. eqb (word_after l (f (suc i)) (last_in f i (f (suc i)))) (suc i)) n

-- no bucket has come to a term yet
pub record NoneMet (ends : List ℕ) : Type 0 where
  pub room : buckets ≤ length ends
  pub none_yet : (b : ℕ) → b < buckets → get_or ends b 0 ≡ 0

-- the answer of reading the links of n terms, and where each bucket has come to
pub record LinksRead (l : List ℕ) (f : ℕ → ℕ) (n : ℕ) (ends : List ℕ) (r : Bool) : Type 0 where
  pub is : r ≡ links_rule l f n
  pub come : r ≡ true → (b : ℕ) → b < buckets → get_or ends b 0 ≡ last_in f n b
