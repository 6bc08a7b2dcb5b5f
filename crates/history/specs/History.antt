-- Document 02, Note 1: what is done to classes by a list of calls, and what every such list leaves.
use Rattle.std.specs.Prelude.{◌≡◌, true, ℕ, zero, suc, ◌≤◌, length, drop}
use mathlib.Core.List.{List, [], ◌∷◌, ◌++◌, Memᴰ}
use Rattle.std.proofs.Math.Option.{Option, none, some}
use Rattle.records.specs.Lists.{one_more}
use Rattle.records.specs.Store.{Term, Store, count, term, within, is_term, root}
use Rattle.records.specs.View.{term_limit}
use Rattle.records.specs.Make.{own, with_terms}
use Rattle.classes.specs.Marks.{Trail, mark_limit, join_limit, table_at, audit_trail}
use Rattle.classes.specs.Calls.{Outcome, gives, refuses, go_back, before}

-- HISTORY

-- what was done and was not gone back on, in order: the terms joined, and a mark with the table that it was set at
pub data Event : Type 0 where
  joined : ℕ → ℕ → Event
  marked : Option (List Term) → Event

pub record World : Type 0 where
  pub store : Store
  pub trail : Trail
  pub history : List Event

-- 'going back to a mark, which uses up that mark and later ones': what was done before mark i
unfoldable pub cut_at : ℕ → List Event → List Event
cut_at i [] = []
cut_at i (joined a b ∷ h) = joined a b ∷ cut_at i h
cut_at zero (marked o ∷ h) = []
cut_at (suc zero) (marked o ∷ h) = []
cut_at (suc (suc i)) (marked o ∷ h) = marked o ∷ cut_at (suc i) h

-- what is done by a join that answers n
abbrev pub joining : ℕ → ℕ → List Event → ℕ → List Event
joining a b h zero = h
joining a b h (suc n) = one_more h (joined a b)

-- a refusal changes nothing
abbrev pub moved : World → (ℕ → List Event) → Outcome → World
moved w f (gives s x n) = record { store = s; trail = x; history = f n }
moved w f (refuses k) = w

-- THE BEGINNING

-- of a mark that stands already: the table that going back to it would give
unfoldable pub standing_marks : Store → Trail → List ℕ → List Event
standing_marks s x [] = []
standing_marks s x (n ∷ l) = marked (table_at n x s.terms) ∷ standing_marks s x l

abbrev pub start : Store → Trail → World
start s x = record { store = s; trail = x; history = standing_marks s x x.marks }

-- WHAT IS LEFT

-- the table that mark i was set at
unfoldable pub marked_at : ℕ → List Event → Option (List Term)
marked_at i [] = none
marked_at i (joined a b ∷ h) = marked_at i h
marked_at zero (marked o ∷ h) = o
marked_at (suc zero) (marked o ∷ h) = o
marked_at (suc (suc i)) (marked o ∷ h) = marked_at (suc i) h

-- 'Terms appended since then stay, each alone': what they are, kind, first and second, and no more. n is the number of the first
unfoldable pub each_alone : ℕ → List Term → List Term
each_alone n [] = []
each_alone n (x ∷ l) = own n x.kind x.first x.second ∷ each_alone (suc n) l

-- the table ts, and then what us has more
abbrev pub with_later : List Term → List Term → List Term
with_later ts us = ts ++ each_alone (suc (length ts)) (drop (length ts) us)

-- 'going back restores every word of the terms counted at the mark'
pub record Restored (w : World) (i : ℕ) : Type 0 where
  pub table : List Term
  pub was : marked_at i w.history ≡ some table
  pub is : go_back i w.store w.trail ≡ gives (with_terms w.store (with_later table w.store.terms)) (before i w.trail) i

-- each count is within what refusal 1 allows
pub record Fits (s : Store) (x : Trail) : Type 0 where
  pub terms : count s ≤ s.room.terms
  pub cells : length s.cells ≤ s.room.cells
  pub chars : length s.chars ≤ s.room.chars
  pub reasons : length s.reasons ≤ s.room.reasons
  pub keys : length s.keys ≤ s.room.keys
  pub limit : s.room.terms ≤ term_limit
  pub marks : length x.marks ≤ mark_limit
  pub joins : length x.joins ≤ join_limit

-- kind, first and second
pub record SameTerm (x y : Term) : Type 0 where
  pub kind : y.kind ≡ x.kind
  pub first : y.first ≡ x.first
  pub second : y.second ≡ x.second

-- after a list of calls from w₀: store and marks pass the audit, each term counted before is the term that it was, and every mark that
-- stands leads back
pub record Kept (w₀ w : World) : Type 0 where
  pub audited : audit_trail w.store w.trail ≡ 0
  pub fits : Fits w.store w.trail
  pub old : (t : ℕ) → is_term w₀.store t ≡ true → SameTerm (term w₀.store t) (term w.store t)
  pub restores : (i : ℕ) → within (length w.trail.marks) i ≡ true → Restored w i

-- THE DIVISION INTO CLASSES

pub record Separate (s : Store) : Type 0 where
  pub alone : (t u : ℕ) → is_term s t ≡ true → is_term s u ≡ true → root s t ≡ root s u → t ≡ u

-- 'the joins left standing'
unfoldable pub standing : List Event → List (ℕ × ℕ)
standing [] = []
standing (joined a b ∷ h) = (a, b) ∷ standing h
standing (marked o ∷ h) = standing h

-- 'what the joins left standing generate': the least equivalence that has them
pub data Generated (l : List (ℕ × ℕ)) : ℕ → ℕ → Type 0 where
  itself : {t : ℕ} → Generated l t t
  pair : {t u : ℕ} → Memᴰ (t, u) l → Generated l t u
  turned : {t u : ℕ} → Generated l t u → Generated l u t
  linked : {t u v : ℕ} → Generated l t u → Generated l u v → Generated l t v

-- 'the division into classes is what the joins left standing generate'
pub record Divided (w : World) : Type 0 where
  pub made : (t u : ℕ) → is_term w.store t ≡ true → is_term w.store u ≡ true → root w.store t ≡ root w.store u → Generated (standing w.history) t u
  pub together : (t u : ℕ) → Generated (standing w.history) t u → root w.store t ≡ root w.store u
