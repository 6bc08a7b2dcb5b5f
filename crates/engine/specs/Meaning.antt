-- What an explanation is worth.
use Rattle.std.specs.Prelude.{◌≡◌, true, List, ℕ, length, drop}
use Rattle.records.specs.Store.{Store, term, is_edge}
use Rattle.records.specs.Rules.{reason_rule}
use Rattle.records.specs.Meaning.{Words, Reading, Holds}

-- the reasons that a call added
abbrev pub added_to : Store → Store → List (ℕ × ℕ)
added_to s s' = drop (length s.reasons) s'.reasons

-- for all words under which the definitional merges and the reasons at exit hold, the two terms have equal words
abbrev pub Explains : Store → Store → ℕ → ℕ → Type 0
Explains s s' a b = (w : Words) → Reading s w → Holds s s'.reasons w → w a ≡ w b

-- an asserted or interface reason that labels an edge of the store
pub record Labels (s : Store) (r : ℕ × ℕ) : Type 0 where
  pub at : ℕ
  pub edge : is_edge s at ≡ true
  pub is : r ≡ ((term s at).label_kind, (term s at).label_value)
  pub good : reason_rule r ≡ true
