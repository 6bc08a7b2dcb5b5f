-- Definitions that only private contracts cite: how an answer of joining, setting a mark or going back is put into words.
use Rattle.std.specs.Prelude.{◌≡◌, List, [], ◌∷◌, ℕ, ◌<◌, set, Result, Ok}
use Rattle.classes.specs.declared.Standing.{Standing}
use Rattle.records.specs.declared.refusal.Refusal.{Refusal}
use Rattle.capi.specs.Working.Leaves.{Telling, tells, or_refuses}

-- the state's words 6 and 7 written back
abbrev pub standing_in : Standing → List ℕ → List ℕ
standing_in e w = set (set w 6 e.marks) 7 e.joins

-- counts that a word holds
pub record NarrowStanding (e : Standing) : Type 0 where
  pub marks : e.marks < 4294967296
  pub joins : e.joins < 4294967296

pub record NarrowGiven (r : Result (ℕ × Standing) Refusal) : Type 0 where
  pub counts : (n : ℕ) (e : Standing) → r ≡ Ok (n, e) → NarrowStanding e

-- the counts, and words of the number
abbrev pub given_telling : (ℕ → List ℕ) → Result (ℕ × Standing) Refusal → Telling Standing
given_telling words r = or_refuses (λ x. tells x.1 (words x.0)) r

-- the number in one word
abbrev pub number_telling : Result (ℕ × Standing) Refusal → Telling Standing
number_telling r = given_telling (λ n. n ∷ []) r
