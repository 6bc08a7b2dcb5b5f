-- Working definitions of step 3's 'a constant character absent from a constant side': constants share the store's characters, so a
-- table says of each place there whether the side uses it.
use Rattle.std.specs.Prelude.{◌≡◌, Bool, false, not, ◌||◌, List, ℕ, zero, suc, ◌+◌, length, get_or, set, eqb, if◌then◌else◌}
use Rattle.records.specs.Lists.{any, table, is_in}
use Rattle.sides.specs.Wordeq.{unequal, short, absent}
use Rattle.records.specs.Store.{Store}

-- place i of the characters h is used, by the table t, and has the character x
unfoldable pub used_at : List ℕ → List ℕ → ℕ → ℕ → Bool
used_at h t x i = if eqb (get_or t i 0) 0 then false else eqb x (get_or h i 0)

-- one of the first n places is, and has
unfoldable pub seen : List ℕ → List ℕ → ℕ → ℕ → Bool
seen h t n x = any (used_at h t x) (table (λ i. i) n)

-- n places from p on are used too
unfoldable pub used : List ℕ → ℕ → ℕ → List ℕ
used t p zero = t
used t p (suc n) = set (used t p n) (p + n) 1

-- by t' the characters of a word are used too, whatever the characters are
pub record Uses (n : ℕ) (word : List ℕ → List ℕ) (t t' : List ℕ) : Type 0 where
  pub size : length t' ≡ length t
  pub uses : (h : List ℕ) (x : ℕ) → seen h t' n x ≡ (seen h t n x || is_in x (word h))

-- b: a character of the word is at no place used by t; otherwise by t' the same characters are used
pub record Lacking (h : List ℕ) (n : ℕ) (word t t' : List ℕ) (b : Bool) : Type 0 where
  pub says : b ≡ any (λ x. not (seen h t n x)) word
  pub size : length t' ≡ length t
  pub kept : b ≡ false → (x : ℕ) → seen h t' n x ≡ seen h t n x

-- 3. 'Both constant with different words; a constant side shorter than the other's constant characters; a constant character absent from
-- a constant side: Conflict'
unfoldable pub conflicts : Store → List ℕ → List ℕ → Bool
conflicts s l r = unequal s l r || short s l r || short s r l || absent s l r || absent s r l
