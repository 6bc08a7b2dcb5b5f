-- What a normal form is worth.
use Rattle.std.specs.Prelude.{◌≡◌, List, ℕ}
use Rattle.std.proofs.Math.Option.{Option, none, some}
use Rattle.records.specs.Lists.{concat_map}
use Rattle.records.specs.Store.{Store}
use Rattle.records.specs.Meaning.{Words, Reading, Holds}

-- for all words under which the definitional merges and the reasons at exit hold, the term's word is that of the list answered, read in
-- the store at exit
abbrev pub Forms : Store → Store → ℕ → List ℕ → Type 0
Forms s s' t l = (w : Words) → Reading s' w → Holds s s'.reasons w → w t ≡ concat_map w l

-- of the deep form, which can answer None
abbrev pub DeepForms : Store → Store → ℕ → Option (List ℕ) → Type 0
DeepForms s s' t none = Unit {0}
DeepForms s s' t (some l) = Forms s s' t l
