-- A line's fields and its decimal numbers. Bytes are numbers below 256.
use Rattle.std.specs.Prelude.{Bool, true, false, ◌&&◌, List, [], ◌∷◌, ℕ, zero, suc, ◌+◌, ◌-◌, ◌*◌, length, eqb, ltb, leb, ℤ, pos, negsuc, if◌then◌else◌}
use Rattle.std.proofs.Math.Option.{Option, none, some}
use Rattle.records.specs.Lists.{all}

-- one more in front, where there is one and there is a list
module _ {A : Type 0} where
  abbrev pub onto : A → Option (List A) → Option (List A)
  onto a none = none
  onto a (some l) = some (a ∷ l)

  abbrev pub both : Option A → Option (List A) → Option (List A)
  both none o = none
  both (some a) o = onto a o

-- FIELDS

abbrev pub space : ℕ
space = 32

unfoldable pub with_first : ℕ → List (List ℕ) → List (List ℕ)
with_first b [] = (b ∷ []) ∷ []
with_first b (w ∷ ws) = (b ∷ w) ∷ ws

-- what single spaces part
unfoldable pub parted : List ℕ → List (List ℕ)
parted [] = [] ∷ []
parted (b ∷ l) = elim (eqb b space) [ true ↦ [] ∷ parted l | false ↦ with_first b (parted l) ]

-- the fields after a command's letter: none, or one space and what spaces part
unfoldable pub fields : List ℕ → Option (List (List ℕ))
fields [] = some []
fields (b ∷ l) = elim (eqb b space) [ true ↦ some (parted l) | false ↦ none ]

-- NUMBERS

unfoldable pub is_digit : ℕ → Bool
is_digit b = leb 48 b && leb b 57

-- the value of x followed by digits
unfoldable pub value_from : ℕ → List ℕ → ℕ
value_from x [] = x
value_from x (b ∷ l) = value_from (10 * x + (b - 48)) l

-- 'decimal numbers': one digit or more, the value below a limit
unfoldable pub number_below : ℕ → List ℕ → Option ℕ
number_below m w = if leb 1 (length w) && all is_digit w && ltb (value_from 0 w) m then some (value_from 0 w) else none

-- a number of a line is a u32
abbrev pub word_limit : ℕ
word_limit = 0x1_0000_0000

unfoldable pub numbers : List (List ℕ) → Option (List ℕ)
numbers [] = some []
numbers (w ∷ ws) = both (number_below word_limit w) (numbers ws)

-- a number, negated
abbrev pub negated : ℕ → ℤ
negated zero = pos zero
negated (suc n) = negsuc n

abbrev pub above : Option ℕ → Option ℤ
above none = none
above (some n) = some (pos n)

abbrev pub below : Option ℕ → Option ℤ
below none = none
below (some n) = some (negated n)

-- a guard is an i32: digits, after a minus sign where it is below 0
unfoldable pub guard_of : List ℕ → Option ℤ
guard_of [] = none
guard_of (b ∷ w) = elim (eqb b 45) [ true ↦ below (number_below 0x8000_0001 w) | false ↦ above (number_below 0x8000_0000 (b ∷ w)) ]
