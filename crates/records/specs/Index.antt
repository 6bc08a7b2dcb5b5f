-- Document 02, Note 9, 'An index over the store': the bucket of a record, and the index that the records determine.
use Rattle.std.specs.Prelude.{◌≡◌, Bool, true, ◌&&◌, ◌||◌, List, [], ◌∷◌, ℕ, suc, ◌+◌, ◌%◌, ◌<◌, eqb, ltb, if◌then◌else◌}
use Rattle.records.specs.Lists.{all_below, first_below}
use Rattle.records.specs.Store.{Store, term, count, kind, within, is_constant, is_variable, is_concat, is_length, text, parts, or_none}
use Rattle.records.specs.View.{buckets, head_at, next_at}

-- 'all its characters or all its parts' numbers', each occurrence counted: a length has one part, an equation its two sides
unfoldable pub numbers : Store → ℕ → List ℕ
numbers s t =
    if is_constant s t || is_variable s t then text s t
    else if is_concat s t then parts s t
    else if is_length s t then ((term s t).first ∷ [])
    else ((term s t).first ∷ (term s t).second ∷ [])

unfoldable pub sum : List ℕ → ℕ
sum [] = 0
sum (x ∷ l) = x + sum l

-- 'The bucket of a record is the remainder by 64 of its kind plus all its characters or all its parts' numbers'
unfoldable pub bucket_of : ℕ → List ℕ → ℕ
bucket_of k l = (k + sum l) % buckets

abbrev pub bucket : Store → ℕ → ℕ
bucket s t = bucket_of (kind s t) (numbers s t)

-- the lowest above t of n terms that is in bucket b, f giving the bucket of each; 0, which names none, where there is none
unfoldable pub next_in : (ℕ → ℕ) → ℕ → ℕ → ℕ → ℕ
next_in f n t b = or_none (first_below (λ u. ltb t u && eqb (f u) b) (suc n))

-- 'Keep 64 bucket heads beside the term records': the lowest term of bucket b
abbrev pub head_of : Store → ℕ → ℕ
head_of s b = next_in (bucket s) (count s) 0 b

-- 'and give each term record a ninth word, the next term in its bucket'
abbrev pub next_of : Store → ℕ → ℕ
next_of s t = next_in (bucket s) (count s) t (bucket s t)

-- the heads, and the ninth words of n terms, are those of the terms, f giving the bucket of each
pub record IndexOf (f : ℕ → ℕ) (n : ℕ) (l : List ℕ) : Type 0 where
  pub heads : (b : ℕ) → b < buckets → head_at l b ≡ next_in f n 0 b
  pub nexts : (t : ℕ) → within n t ≡ true → next_at l t ≡ next_in f n t (f t)

-- the lent words of terms hold the index of the store
abbrev pub Indexed : List ℕ → Store → Type 0
Indexed l s = IndexOf (bucket s) (count s) l

-- REFUSAL 12: 'where heads or chains break these conditions', as a test
unfoldable pub index_rule : List ℕ → Store → Bool
index_rule l s = all_below (λ b. eqb (head_at l b) (head_of s b)) buckets && all_below (λ i. eqb (next_at l (suc i)) (next_of s (suc i))) (count s)

-- heads and ninth words of n terms are as they were
pub record SameIndex (l l' : List ℕ) (n : ℕ) : Type 0 where
  pub heads : (b : ℕ) → b < buckets → head_at l' b ≡ head_at l b
  pub nexts : (t : ℕ) → within n t ≡ true → next_at l' t ≡ next_at l t
