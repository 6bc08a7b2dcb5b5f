-- An aid of the audit: a hash of each name, and chains of the variables by their hashes, so that a name is compared character by
-- character only with names of its hash. No rule speaks of hashes.
use Rattle.std.specs.Prelude.{◌≡◌, Bool, true, ◌&&◌, List, ◌∷◌, [], ℕ, ◌+◌, ◌*◌, ◌/◌, ◌%◌, ◌<◌, length, get_or, eqb}
use Rattle.records.specs.Lists.{last_below}
use Rattle.records.specs.Store.{Store, count, is_variable, text}
use Rattle.records.specs.Rules.{text_rule}

-- Without the division a hash would be linear in the characters, and two characters that cancel out would go unseen wherever they stand.
unfoldable pub mixed : ℕ → ℕ → ℕ
mixed h x = (69069 * h + h / 65536 + x) % 4294967291

unfoldable pub hash_from : ℕ → List ℕ → ℕ
hash_from h [] = h
hash_from h (x ∷ w) = hash_from (mixed h x) w

abbrev pub hash : Store → ℕ → ℕ
hash s t = hash_from 1 (text s t)

-- t is a variable whose text is within the count, and m is its hash
pub record Hashed (s : Store) (m t : ℕ) : Type 0 where
  pub variable : is_variable s t ≡ true
  pub fits : text_rule s t ≡ true
  pub hashed : m ≡ hash s t

-- the chain of a remainder: each variable whose hash leaves it
unfoldable pub in_chain : Store → ℕ → ℕ → Bool
in_chain s r u = is_variable s u && eqb (hash s u % 64) r

-- the highest of a chain below t; 0, which names no term, where there is none
abbrev pub highest : Store → ℕ → ℕ → ℕ
highest s r t = last_below (in_chain s r) t

-- the tables once the terms below t have passed: by number the hash of each variable and the next lower of its chain, by remainder the
-- highest of each chain
pub record Tables (s : Store) (hashes links heads : List ℕ) (t : ℕ) : Type 0 where
  pub hashes_room : count s < length hashes
  pub links_room : count s < length links
  pub heads_room : length heads ≡ 64
  pub hashed : (u : ℕ) → u < t → is_variable s u ≡ true → Hashed s (get_or hashes u 0) u
  pub linked : (u : ℕ) → u < t → is_variable s u ≡ true → get_or links u 0 ≡ highest s (hash s u % 64) u
  pub headed : (r : ℕ) → r < 64 → get_or heads r 0 ≡ highest s r t

-- r says whether t passes its rule; where it does, the tables go up to t
pub record Passing (s : Store) (rule : Bool) (hashes links heads : List ℕ) (t : ℕ) (r : Bool) : Type 0 where
  pub passes : r ≡ rule
  pub tables : r ≡ true → Tables s hashes links heads (t + 1)
