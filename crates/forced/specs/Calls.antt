-- What the call for the forced length promises.
use Rattle.std.specs.Prelude.{◌≡◌, List, ℕ, Result, Ok, Err}
use Rattle.records.specs.declared.State.{State}
use Rattle.records.specs.declared.refusal.Refusal.{Refusal}
use Rattle.records.specs.Refusal.{number}
use Rattle.records.specs.Store.{Store, Out, ok, stop}
use Rattle.records.specs.View.{Lent, store_of}
use Rattle.records.specs.Calls.{Public, call}
use Rattle.wordeq.specs.Calls.{equal_arguments}
use Rattle.forced.specs.declared.Forced.{Forced}
use Rattle.forced.specs.declared.Forced.TheVariants as forced
use Rattle.forced.specs.Forced.{spans, short, Fit, forced_length}
use Rattle.forced.specs.Forces.{Few, Forces}

abbrev pub measured : Forced → Fit
measured (forced.Spans k c l m r) = record { k = k; c = c; l = l; span = spans m r }
measured (forced.Shortage k c l d) = record { k = k; c = c; l = l; span = short d }

-- the answer, on a store that stays as it was
abbrev pub fitted : Result Forced Refusal → Store → Out Fit
fitted (Ok x) s = ok s (measured x)
fitted (Err e) s = stop (number e)

-- its answer, with every refusal; 'It writes nothing'; what the answer is worth; and that its numbers are small
pub record PublicForced (l r : List ℕ) (m m' : Lent) (c : State) (o : Out Fit) : Type 0 where
  pub is : Public (call (equal_arguments l r) (forced_length l r) m c) m m' c o
  pub still : m' ≡ m
  pub worth : (s' : Store) (x : Fit) → o ≡ ok s' x → Forces (store_of m c) l r x
  pub few : (s' : Store) (x : Fit) → o ≡ ok s' x → Few x
