-- Definitions that only private contracts cite: how an answer is put into words.
use Rattle.std.specs.Prelude.{◌≡◌, List, [], ◌∷◌, ◌++◌, ℕ, ◌<◌, length, drop, ℤ, Result, Ok, Err}
use Rattle.std.specs.Int.{w32}
use Rattle.std.proofs.Common.{of_z, SFits}
use Rattle.records.specs.declared.State.{State}
use Rattle.records.specs.declared.refusal.Refusal.{Refusal}
use Rattle.records.specs.Refusal.{number}
use Rattle.records.specs.View.{Slice}
use Rattle.sides.specs.declared.StepResult.{StepResult}
use Rattle.sides.specs.declared.StepResult.TheVariants as step
use Rattle.capi.specs.Equations.{flag}

-- words put first in a slice
abbrev pub put_first : List ℕ → List ℕ → List ℕ
put_first v a = v ++ drop (length v) a

-- the state's six words written back
abbrev pub written : State → List ℕ → List ℕ
written c w = put_first (c.terms ∷ c.cells ∷ c.chars ∷ c.reasons ∷ c.keys ∷ c.names ∷ []) w

-- counts that a word holds
pub record Narrow (c : State) : Type 0 where
  pub terms : c.terms < 4294967296
  pub cells : c.cells < 4294967296
  pub chars : c.chars < 4294967296
  pub reasons : c.reasons < 4294967296
  pub keys : c.keys < 4294967296

-- What an answer tells: counts for the state and the answer's first words, or the refusal.
pub data Telling (S : Type 0) : Type 0 where
  tells : S → List ℕ → Telling S
  refuses : Refusal → Telling S

module _ {S : Type 0} where
  abbrev pub number_of : Telling S → ℕ
  number_of (tells c v) = 0
  number_of (refuses e) = number e

  -- what is answered is told, and a refusal is handed on
  abbrev pub or_refuses : {R : Type 0} → (R → Telling S) → Result R Refusal → Telling S
  or_refuses f (Ok x) = f x
  or_refuses f (Err e) = refuses e

  -- `put` writes the counts
  abbrev pub state_with : (S → List ℕ → List ℕ) → Telling S → List ℕ → List ℕ
  state_with put (tells c v) w = put c w
  state_with put (refuses e) w = w

  abbrev pub answer_with : Telling S → List ℕ → List ℕ
  answer_with (tells c v) a = put_first v a
  answer_with (refuses e) a = a

  pub record ToldWords (put : S → List ℕ → List ℕ) (w w' a a' : List ℕ) (r : Telling S) (k : ℕ) : Type 0 where
    pub code : k ≡ number_of r
    pub state : w' ≡ state_with put r w
    pub answer : a' ≡ answer_with r a

  pub record ToldBy {R : Type 0} (put : S → List ℕ → List ℕ) (f : R → Telling S) (w w' a a' : List ℕ) (r : R) (k : ℕ) : Type 0 where
    pub is : ToldWords put w w' a a' (f r) k

  -- THE WORDS OF CONTRACTS, slices by their names
  abbrev pub ToldIn : {R : Type 0} → (S → List ℕ → List ℕ) → (R → Telling S) → Slice → Slice → R → ℕ → Type 0
  ToldIn put f state answer r k = ToldBy put f state.entry.now state.exit.now answer.entry.now answer.exit.now r k

-- a making call's term, the counts after explain
abbrev pub made_telling : Result (ℕ × State) Refusal → Telling State
made_telling r = or_refuses (λ x. tells x.1 (x.0 ∷ [])) r

abbrev pub added_telling : Result State Refusal → Telling State
added_telling r = or_refuses (λ c. tells c []) r

-- the count of a Split's atoms that a word holds, and its guard within 32 bits
pub record NarrowSplit (n : ℕ) (g : ℤ) : Type 0 where
  pub list : n < 4294967296
  pub guard : SFits w32 g

abbrev pub answer_telling : StepResult → Telling State
answer_telling (step.Done c) = tells c (0 ∷ [])
answer_telling (step.Saturated c) = tells c (1 ∷ [])
answer_telling (step.Conflict c) = tells c (2 ∷ [])
answer_telling (step.Propagate c v w f) = tells c (3 ∷ v ∷ w ∷ flag f ∷ [])
answer_telling (step.Split c n g k) = tells c (4 ∷ n ∷ of_z w32 g ∷ k ∷ [])

-- counts and a Split that words hold
pub record NarrowAnswer (r : StepResult) : Type 0 where
  pub counts : (c : State) (v : List ℕ) → answer_telling r ≡ tells c v → Narrow c
  pub split : (c : State) (n : ℕ) (g : ℤ) (k : ℕ) → r ≡ step.Split c n g k → NarrowSplit n g
