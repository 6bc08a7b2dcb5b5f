-- The table of the pairs that explain has seen: one bit for each.
use Rattle.std.specs.Prelude.{◌≡◌, Bool, true, List, ℕ, zero, suc, ◌+◌, ◌/◌, ◌%◌, ◌^◌, ◌≤◌, min, max, length, get_or, eqb}
use Rattle.engine.specs.Explain.{Seen, was_seen}

-- 1 + 2 + .. + n
unfoldable pub triangle : ℕ → ℕ
triangle zero = 0
triangle (suc n) = triangle n + suc n

-- the place of the pair {a, b}: pairs whose higher number is lower come first
abbrev pub place : ℕ → ℕ → ℕ
place a b = triangle (max a b) + min a b

unfoldable pub bit : ℕ → ℕ → Bool
bit w j = eqb (w / 2 ^ j % 2) 1

-- whether the pair of a place was seen
unfoldable pub seen_at : List ℕ → ℕ → Bool
seen_at table k = bit (get_or table (k / 32) 0) (k % 32)

-- a table with one pair more noted as seen
pub record Noted (table table' : List ℕ) (k : ℕ) : Type 0 where
  pub here : seen_at table' k ≡ true
  pub elsewhere : (j : ℕ) → (j ≡ k → ⊥) → seen_at table' j ≡ seen_at table j
  pub long : length table' ≡ length table

-- the table has the pairs seen and no other
pub record Tables (n : ℕ) (table : List ℕ) (seen : Seen) : Type 0 where
  pub says : (a b : ℕ) → a ≤ n → b ≤ n → seen_at table (place a b) ≡ was_seen (a, b) seen
