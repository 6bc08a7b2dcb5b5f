-- What the step's functions answer, and what the public call promises.
use Rattle.std.specs.Prelude.{◌≡◌, List, ℕ, ℤ, Result, Ok, Err}
use Rattle.records.specs.declared.State.{State}
use Rattle.records.specs.declared.refusal.Refusal.{Refusal}
use Rattle.records.specs.Refusal.{number}
use Rattle.records.specs.Store.{Store, Out, ok, stop, and_then, give}
use Rattle.records.specs.View.{Lent, store_of}
use Rattle.records.specs.Make.{EachOnce}
use Rattle.normalize.specs.Calls.{list_call, PublicList}
use Rattle.sides.specs.Wordeq.{split}
use Rattle.wordeq.specs.Calls.{resolved}
use Rattle.equation.specs.declared.Outcome.{Outcome}
use Rattle.equation.specs.declared.Outcome.TheVariants.{Answered, Unexpanded}
use Rattle.equation.specs.Equation.{Stepped, unexpanded, answered, step, step_arguments, GrowsAfterForms, StepSound}

-- wordeq's answer, a Split's atoms being the first words of the list's slice k; or Unexpanded
abbrev pub stepped : Result Outcome Refusal → Lent → List ℕ → Out Stepped
stepped (Ok (Answered r)) m k = and_then (λ x. give (answered x)) (resolved (Ok r) m k)
stepped (Ok (Unexpanded c)) m k = ok (store_of m c) unexpanded
stepped (Err e) m k = stop (number e)

-- demand 3 is a clause of the contract. The reasons at exit are those at entry and then reasons that the list lacked, each once. A Split's
-- number is wordeq's
pub record PublicStep (known : List ℕ) (e : ℕ) (g : ℤ) (m m' : Lent) (k k' : List ℕ) (c : State) (o : Out Stepped) : Type 0 where
  pub is : PublicList (list_call k (step_arguments known e g) (step known e g) m c) m m' k k' c o
  pub worth : (s' : Store) (x : Stepped) → o ≡ ok s' x → StepSound (store_of m c) s' e x
  pub once : (s' : Store) (x : Stepped) → o ≡ ok s' x → EachOnce (store_of m c).reasons s'.reasons
  pub grows : (s' : Store) (atoms : List ℕ) (h : ℤ) (n : ℕ) → o ≡ ok s' (answered (split atoms h n)) → GrowsAfterForms known e (store_of m c) s' n
