-- The labels of edges, by name: document 01, 'The records'.
use Rattle.std.specs.Prelude.{◌≡◌, ℕ, ◌<◌, ◌⊎◌, Result, MatchResult}
use Rattle.records.specs.declared.label.Label.{Label}
use Rattle.records.specs.declared.label.Label.TheVariants.{Asserted, Interface, Congruence, Definitional}
use Rattle.records.specs.declared.label.UnknownLabel.{UnknownLabel}

-- 'An edge's label stands on the child: 1 asserted, 2 interface, 3 congruence (value = a pair chain), 4 definitional (value 0)'
abbrev pub label_number : Label → ℕ
label_number Asserted = 1
label_number Interface = 2
label_number Congruence = 3
label_number Definitional = 4

-- the label of this number, or none where no label has it
abbrev pub Labels : ℕ → Result Label UnknownLabel → Type 0
Labels word r = MatchResult r (λ label. label_number label ≡ word) (λ e. (e.0 ≡ word) × ((word ≡ 0) ⊎ (4 < word)))
