-- What writing a record, above the count or within it, does to the records that are seen.
use Rattle.std.specs.Prelude.{◌≡◌, Bool, true, List, [], ◌∷◌, ◌++◌, ℕ, suc, ◌+◌, ◌-◌, ◌≤◌, ◌<◌, length, take, get_or, set, ltb}
use Rattle.records.specs.View.{buckets, term_place, terms_view, cells_view, chars_view, pairs_view, reason_room, term_at, head_at, next_at, zero_term, zero_cell}
use Rattle.records.specs.Store.{Term, within}
use Rattle.records.specs.Lists.{Every, one_more}
use Rattle.records.specs.Make.{own, chain_from}
use Rattle.records.specs.Working.Indexing.{Linked}

-- the words of record n + 1 of terms are those of a term that is its own class and has none after it; no other word changes
pub record WordsPut (l l' : List ℕ) (n kind first second : ℕ) : Type 0 where
  pub grown : terms_view l' (suc n) ≡ terms_view l n ++ (own (suc n) kind first second ∷ [])
  pub last : next_at l' (suc n) ≡ 0
  pub below : (i : ℕ) → i < term_place (suc n) 0 → get_or l' i 0 ≡ get_or l i 0

-- record n + 1 of terms is now one that is its own class, at the end of the chain of bucket b
pub record TermPut (l l' : List ℕ) (n kind first second b : ℕ) : Type 0 where
  pub grown : terms_view l' (suc n) ≡ terms_view l n ++ (own (suc n) kind first second ∷ [])
  pub kept : terms_view l' n ≡ terms_view l n
  pub zero : zero_term l' ≡ zero_term l
  pub linked : Linked l l' n b

-- heads and ninth words stay, of any number of terms
pub record IndexLeft (l l' : List ℕ) : Type 0 where
  pub heads : (b : ℕ) → b < buckets → head_at l' b ≡ head_at l b
  pub nexts : (u : ℕ) → next_at l' u ≡ next_at l u

-- record t of terms is x, and every other record stays: record 0 and those above a count too; and so do the heads and the ninth words
pub record TermSet (l l' : List ℕ) (t : ℕ) (x : Term) : Type 0 where
  pub long : length l' ≡ length l
  pub here : term_at l' t ≡ x
  pub away : (u : ℕ) → (u ≡ t → ⊥) → term_at l' u ≡ term_at l u
  pub terms : (n : ℕ) → within n t ≡ true → terms_view l' n ≡ set (terms_view l n) (t - 1) x
  pub index : IndexLeft l l'

-- the characters from place n on are now w
pub record CharsPut (l l' : List ℕ) (n : ℕ) (w : List ℕ) : Type 0 where
  pub grown : chars_view l' (n + length w) ≡ chars_view l n ++ w
  pub kept : chars_view l' n ≡ chars_view l n

-- record n + 1 of cells is now one with second value 0
pub record CellPut (l l' : List ℕ) (n value next : ℕ) : Type 0 where
  pub grown : cells_view l' (suc n) ≡ cells_view l n ++ (record { value = value; other = 0; next = next } ∷ [])
  pub kept : (i : ℕ) → i ≤ n → cells_view l' i ≡ cells_view l i
  pub zero : zero_cell l' ≡ zero_cell l

-- the cells from record n + 1 on are now a chain of these values
pub record ChainPut (l l' : List ℕ) (n : ℕ) (w : List ℕ) : Type 0 where
  pub grown : cells_view l' (n + length w) ≡ cells_view l n ++ chain_from (suc n) w
  pub kept : cells_view l' n ≡ cells_view l n
  pub zero : zero_cell l' ≡ zero_cell l

-- pair n of reasons or of keys is now this one
pub record PairPut (l l' : List ℕ) (n a b : ℕ) : Type 0 where
  pub grown : pairs_view l' (suc n) ≡ one_more (pairs_view l n) (a, b)
  pub kept : pairs_view l' n ≡ pairs_view l n

-- a reason is put at the count n where it fits, and r tells whether it did. Nothing that is counted changes
pub record Pushed (l l' : List ℕ) (n kind value : ℕ) (r : Bool) : Type 0 where
  pub fits : r ≡ ltb n (reason_room l)
  pub grown : r ≡ true → pairs_view l' (n + 1) ≡ one_more (pairs_view l n) (kind, value)
  pub kept : pairs_view l' n ≡ pairs_view l n

-- each text of a list of terms is within the first n characters
abbrev pub TextsWithin : List ℕ → ℕ → List ℕ → Type 0
TextsWithin l n ts = Every (λ t. (term_at l t).first + (term_at l t).second ≤ n) ts

-- the words from place n on are now w, and r is the place after them
pub record Written (l l' : List ℕ) (n : ℕ) (w : List ℕ) (r : ℕ) : Type 0 where
  pub after : r ≡ n + length w
  pub words : take r l' ≡ take n l ++ w
