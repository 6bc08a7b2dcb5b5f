-- What the functions that read a line answer, in the words of its definitions.
use Rattle.std.specs.Prelude.{◌≡◌, List, ℕ, ◌≤◌, length, take, ℤ, Option as RustOption, Some, None}
use Rattle.std.proofs.Math.Option.{Option, none, some}
use Rattle.commands.specs.declared.Command.{Command as Parsed}
use Rattle.commands.specs.Texts.{fields}
use Rattle.commands.specs.Commands.{parsed_is, through, as_resolve}

abbrev pub number_is : RustOption ℕ → Option ℕ
number_is (Some x) = some x
number_is None = none

abbrev pub guard_is : RustOption ℤ → Option ℤ
guard_is (Some g) = some g
guard_is None = none

-- how many bytes the character has, and its number
abbrev pub char_is : RustOption (ℕ × ℕ) → Option (ℕ × ℕ)
char_is (Some p) = some (p.0, p.1)
char_is None = none

-- the first words of a list
abbrev pub listing_is : RustOption ℕ → List ℕ → Option (List ℕ)
listing_is (Some n) l = some (take n l)
listing_is None l = none

abbrev pub count_of : RustOption ℕ → ℕ
count_of (Some n) = n
count_of None = 0

pub record Listed (o : Option (List ℕ)) (r : RustOption ℕ) (l : List ℕ) : Type 0 where
  pub says : listing_is r l ≡ o
  pub fits : count_of r ≤ length l

-- a term and a guard, which need no list
pub record Resolves (rest : List ℕ) (r : RustOption Parsed) : Type 0 where
  pub says : (l : List ℕ) → parsed_is r l ≡ through as_resolve (fields rest)
