-- What the public calls of find and explain promise.
use Rattle.std.specs.Prelude.{◌≡◌, ℕ, Result, Ok, Err}
use Rattle.records.specs.declared.State.{State}
use Rattle.records.specs.declared.refusal.Refusal.{Refusal}
use Rattle.records.specs.Refusal.{number}
use Rattle.records.specs.Lists.{Every}
use Rattle.records.specs.Store.{Store, Out, ok, stop}
use Rattle.records.specs.View.{Lent, store_of}
use Rattle.records.specs.Make.{EachOnce}
use Rattle.records.specs.Calls.{Public, call, full_alone}
use Rattle.engine.specs.Explain.{explain, explain_arguments}
use Rattle.engine.specs.Meaning.{Explains, added_to, Labels}

-- find's answer; the store is as it was
abbrev pub found : Result ℕ Refusal → Lent → State → Out ℕ
found (Ok t) m c = ok (store_of m c) t
found (Err e) m c = stop (number e)

-- explain's answer, and what it is worth: under the reasons at exit and the definitional merges the two terms have equal words. The
-- reasons at exit are those at entry and then reasons that the list lacked, each once; every one added labels an edge of the store; once
-- the arguments pass, refusal 7 alone is given
pub record PublicExplain (a b : ℕ) (m m' : Lent) (c : State) (r : Out (Unit {0})) : Type 0 where
  pub is : Public (call (explain_arguments a b) (explain a b) m c) m m' c r
  pub worth : (s' : Store) → r ≡ ok s' tt → Explains (store_of m c) s' a b
  pub once : (s' : Store) → r ≡ ok s' tt → EachOnce (store_of m c).reasons s'.reasons
  pub edges : (s' : Store) → r ≡ ok s' tt → Every (Labels (store_of m c)) (added_to (store_of m c) s')
  pub full : (k : ℕ) → r ≡ stop k → full_alone k
