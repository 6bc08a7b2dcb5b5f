-- Document 02, Note 9: the Note's own sentences on chains and on looking up, which the index of specs/Index.antt is held to.
use Rattle.std.specs.Prelude.{◌≡◌, Bool, true, ℕ, ◌<◌}
use mathlib.Core.List.{List, [], ◌∷◌, Memᴰ}
use Rattle.records.specs.Lists.{first_of, Every}
use Rattle.records.specs.Store.{Store, is_term, or_none}
use Rattle.records.specs.View.{buckets, head_at, next_at}
use Rattle.records.specs.Index.{bucket_of, bucket, Indexed, index_rule}
use Rattle.records.specs.Rules.{named}
use Rattle.records.specs.Make.{lookup, constant_of, concat_of, length_of, equation_of, number_of}

-- THE INDEX

-- 'zero ends a chain': what is met from t on, each by the ninth word of the one before
pub data Chain (next : ℕ → ℕ) : ℕ → List ℕ → Type 0 where
  ends : {t : ℕ} → t ≡ 0 → Chain next t []
  goes : {t : ℕ} {l : List ℕ} → (t ≡ 0 → ⊥) → Chain next (next t) l → Chain next t (t ∷ l)

-- the first is above u, and each other above the one before
pub data Ascending : ℕ → List ℕ → Type 0 where
  last : {u : ℕ} → Ascending u []
  above : {u t : ℕ} {l : List ℕ} → u < t → Ascending t l → Ascending u (t ∷ l)

-- the chain of bucket b in the lent words l of terms
pub record Chained (s : Store) (l : List ℕ) (b : ℕ) : Type 0 where
  pub members : List ℕ
  pub walked : Chain (next_at l) (head_at l b) members
  -- 'Each chain ascends'
  pub ascends : Ascending 0 members
  -- 'the next term in its bucket': a chain is of terms
  pub terms : (t : ℕ) → Memᴰ t members → is_term s t ≡ true
  -- 'Every term is in its bucket's chain'
  pub each : (t : ℕ) → is_term s t ≡ true → bucket s t ≡ b → Memᴰ t members
  -- 'and in no other'
  pub no_other : (t : ℕ) → Memᴰ t members → bucket s t ≡ b

abbrev pub EachChained : Store → List ℕ → Type 0
EachChained s l = (b : ℕ) → b < buckets → Chained s l b

-- the sentences hold of the index that the records determine and of no other, and the test is passed by it and by no other
pub record Says : Type 0 where
  pub chained : (s : Store) (l : List ℕ) → Indexed l s → EachChained s l
  pub determined : (s : Store) (l : List ℕ) → EachChained s l → Indexed l s
  pub passes : (s : Store) (l : List ℕ) → Indexed l s → index_rule l s ≡ true
  pub passed : (s : Store) (l : List ℕ) → index_rule l s ≡ true → Indexed l s

-- LOOKING UP

-- each term that is equal lies in bucket b
abbrev pub Lies : Store → (Store → ℕ → Bool) → ℕ → Type 0
Lies s equal b = (t : ℕ) → is_term s t ≡ true → equal s t ≡ true → bucket s t ≡ b

pub record Finds : Type 0 where
  -- 'Each chain ascends, so the lowest equal record is met first'; 'and gives what the scan gives for every store that passes'
  pub first : (s : Store) (l : List ℕ) → Indexed l s → (equal : Store → ℕ → Bool) (b : ℕ) → b < buckets → Lies s equal b
      → (ts : List ℕ) → Chain (next_at l) (head_at l b) ts → or_none (first_of (equal s) ts) ≡ number_of (lookup equal s)
  -- 'A lookup reads the records of that one chain only': a table that agrees on them has the same chain, and the same is met first in it
  pub walks : (next next' : ℕ → ℕ) (t : ℕ) (l : List ℕ) → Chain next t l → Every (λ u. next' u ≡ next u) l → Chain next' t l
  pub meets : (p p' : ℕ → Bool) (l : List ℕ) → Every (λ u. p' u ≡ p u) l → first_of p' l ≡ first_of p l
  -- the bucket of what each making call looks for
  pub constants : (s : Store) (w : List ℕ) → Lies s (constant_of w) (bucket_of 1 w)
  pub variables : (s : Store) (w : List ℕ) → Lies s (named w) (bucket_of 2 w)
  pub concats : (s : Store) (l : List ℕ) → Lies s (concat_of l) (bucket_of 3 l)
  pub lengths : (s : Store) (a : ℕ) → Lies s (length_of a) (bucket_of 4 (a ∷ []))
  pub equations : (s : Store) (a b : ℕ) → Lies s (equation_of a b) (bucket_of 5 (a ∷ b ∷ []))
