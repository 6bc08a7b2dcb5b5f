-- Document 01, 'Program `labelstep`': what a line of standard input asks for.
use Rattle.std.specs.Prelude.{true, false, List, [], ◌∷◌, ℕ, length, take, eqb, leb, ℤ, Option as RustOption, Some, None}
use Rattle.std.proofs.Math.Option.{Option, none, some}
use Rattle.commands.specs.declared.Command.{Command as Parsed}
use Rattle.commands.specs.declared.Command.TheVariants as parsed
use Rattle.commands.specs.Texts.{space, fields, numbers, number_below, word_limit, guard_of}
use Rattle.commands.specs.Utf8.{decode}

-- '`C text`, `V name`, `P t u ..`, `E t u` make terms', '`M child parent n` joins two classes under asserted reason n', '`K ..` sets
-- the known list', '`R e g` runs the step'
pub data Command : Type 0 where
  constant : List ℕ → Command
  variable : List ℕ → Command
  concatenation : List ℕ → Command
  equation : ℕ → ℕ → Command
  merge : ℕ → ℕ → ℕ → Command
  known : List ℕ → Command
  resolve : ℕ → ℤ → Command

-- 'lines above 1,024 bytes'
abbrev pub line_limit : ℕ
line_limit = 1024

module _ {A B : Type 0} where
  abbrev pub through : (A → Option B) → Option A → Option B
  through f none = none
  through f (some a) = f a

-- 'the rest of the line after one space'
unfoldable pub text_after : List ℕ → Option (List ℕ)
text_after [] = none
text_after (b ∷ l) = elim (eqb b space) [ true ↦ decode l | false ↦ none ]

abbrev pub numbers_after : List ℕ → Option (List ℕ)
numbers_after l = through numbers (fields l)

abbrev pub as_constant : List ℕ → Option Command
as_constant w = some (constant w)

abbrev pub as_variable : List ℕ → Option Command
as_variable w = some (variable w)

abbrev pub as_concatenation : List ℕ → Option Command
as_concatenation l = some (concatenation l)

abbrev pub as_known : List ℕ → Option Command
as_known l = some (known l)

abbrev pub as_equation : List ℕ → Option Command
as_equation [] = none
as_equation (t ∷ []) = none
as_equation (t ∷ u ∷ []) = some (equation t u)
as_equation (t ∷ u ∷ v ∷ l) = none

abbrev pub as_merge : List ℕ → Option Command
as_merge [] = none
as_merge (t ∷ []) = none
as_merge (t ∷ u ∷ []) = none
as_merge (t ∷ u ∷ n ∷ []) = some (merge t u n)
as_merge (t ∷ u ∷ n ∷ v ∷ l) = none

abbrev pub resolve_by : Option ℕ → Option ℤ → Option Command
resolve_by none o = none
resolve_by (some e) none = none
resolve_by (some e) (some g) = some (resolve e g)

abbrev pub as_resolve : List (List ℕ) → Option Command
as_resolve [] = none
as_resolve (e ∷ []) = none
as_resolve (e ∷ g ∷ []) = resolve_by (number_below word_limit e) (guard_of g)
as_resolve (e ∷ g ∷ v ∷ l) = none

-- by the line's letter: C, V, P, E, M, K, R
unfoldable pub by_letter : ℕ → List ℕ → Option Command
by_letter k l = elim (eqb k 67) [
  | true ↦ through as_constant (text_after l)
  | false ↦ elim (eqb k 86) [
    | true ↦ through as_variable (text_after l)
    | false ↦ elim (eqb k 80) [
      | true ↦ through as_concatenation (numbers_after l)
      | false ↦ elim (eqb k 69) [
        | true ↦ through as_equation (numbers_after l)
        | false ↦ elim (eqb k 77) [
          | true ↦ through as_merge (numbers_after l)
          | false ↦ elim (eqb k 75) [
            | true ↦ through as_known (numbers_after l)
            | false ↦ elim (eqb k 82) [
              | true ↦ through as_resolve (fields l)
              | false ↦ none
            ]
          ]
        ]
      ]
    ]
  ]
]

-- what a line asks for; none is `bad`
unfoldable pub command : List ℕ → Option Command
command [] = none
command (k ∷ l) = elim (leb (length (k ∷ l)) line_limit) [ true ↦ by_letter k l | false ↦ none ]

-- a command; a text, parts and a known list are the first words of a list
abbrev pub parsed_is : RustOption Parsed → List ℕ → Option Command
parsed_is (Some (parsed.Constant n)) l = some (constant (take n l))
parsed_is (Some (parsed.Variable n)) l = some (variable (take n l))
parsed_is (Some (parsed.Concatenation n)) l = some (concatenation (take n l))
parsed_is (Some (parsed.Equation t u)) l = some (equation t u)
parsed_is (Some (parsed.Merge t u n)) l = some (merge t u n)
parsed_is (Some (parsed.Known n)) l = some (known (take n l))
parsed_is (Some (parsed.Resolve e g)) l = some (resolve e g)
parsed_is None l = none
