-- The kinds of terms, by name: document 01, 'The records'.
use Rattle.std.specs.Prelude.{◌≡◌, ℕ, ◌<◌, ◌⊎◌, Result, MatchResult}
use Rattle.records.specs.declared.kind.Kind.{Kind}
use Rattle.records.specs.declared.kind.Kind.TheVariants.{Constant, Variable, Concatenation, Length, Equation}
use Rattle.records.specs.declared.kind.UnknownKind.{UnknownKind}

-- 'Kinds: 1 constant and 2 variable ..; 3 concatenation ..; 4 length ..; 5 equation'
abbrev pub kind_number : Kind → ℕ
kind_number Constant = 1
kind_number Variable = 2
kind_number Concatenation = 3
kind_number Length = 4
kind_number Equation = 5

-- the kind of this number, or none where no kind has it
abbrev pub Names : ℕ → Result Kind UnknownKind → Type 0
Names word r = MatchResult r (λ kind. kind_number kind ≡ word) (λ e. (e.0 ≡ word) × ((word ≡ 0) ⊎ (5 < word)))
