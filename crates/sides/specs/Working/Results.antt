-- What the steps' functions require and answer.
use Rattle.std.specs.Prelude.{◌≡◌, true, List, ℕ, take, Result, Ok, Err}
use Rattle.std.proofs.Math.Option.{Option, none, some}
use Rattle.records.specs.declared.State.{State}
use Rattle.records.specs.declared.refusal.Refusal.{Refusal}
use Rattle.records.specs.Refusal.{number}
use Rattle.records.specs.Store.{Store, Out, ok, stop}
use Rattle.records.specs.View.{Lent, store_of}
use Rattle.records.specs.Working.Doing.{Working}
use Rattle.records.specs.Rules.{is_list}
use Rattle.sides.specs.declared.StepResult.{StepResult}
use Rattle.sides.specs.declared.StepResult.TheVariants as step
use Rattle.sides.specs.Wordeq.{Answer, saturated, conflict, propagate, split, Tried}

-- two lists of string terms, at most 1,024 each
pub record BothLists (s : Store) (l r : List ℕ) : Type 0 where
  pub left : is_list s l ≡ true
  pub right : is_list s r ≡ true

-- a single step's answer: after Done so far the next step is tried
abbrev pub tried : Result StepResult Refusal → Lent → List ℕ → Out (Option Answer)
tried (Ok (step.Done c)) m k = ok (store_of m c) none
tried (Ok (step.Saturated c)) m k = ok (store_of m c) (some saturated)
tried (Ok (step.Conflict c)) m k = ok (store_of m c) (some conflict)
tried (Ok (step.Propagate c v w f)) m k = ok (store_of m c) (some (propagate v w f))
tried (Ok (step.Split c n g j)) m k = ok (store_of m c) (some (split (take n k) g j))
tried (Err e) m k = stop (number e)

-- a step that lists no atoms: so whatever words the list's slice has
pub record Tries (work : Tried) (m m' : Lent) (c : State) (o : Result StepResult Refusal) : Type 0 where
  pub is : (k : List ℕ) → Working work m m' c (tried o m' k)
