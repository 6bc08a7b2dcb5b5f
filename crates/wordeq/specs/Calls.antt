-- What the public calls of word equations promise.
use Rattle.std.specs.Prelude.{◌≡◌, Bool, ◌&&◌, List, take, ℕ, ◌+◌, ℤ, Result, Ok, Err}
use Rattle.records.specs.declared.State.{State}
use Rattle.records.specs.declared.refusal.Refusal.{Refusal}
use Rattle.records.specs.Refusal.{number}
use Rattle.records.specs.Store.{Store, Out, ok, stop, Work, count}
use Rattle.records.specs.View.{Lent, store_of}
use Rattle.records.specs.Make.{EachOnce}
use Rattle.records.specs.Rules.{is_list}
use Rattle.records.specs.Calls.{Public, call, full_alone}
use Rattle.normalize.specs.Calls.{list_call, PublicList}
use Rattle.sides.specs.declared.StepResult.{StepResult}
use Rattle.sides.specs.declared.StepResult.TheVariants as step
use Rattle.sides.specs.Wordeq.{Answer, done, saturated, conflict, propagate, split, resolve, resolve_arguments, nf_equal, nf_explain, nf_arguments}
use Rattle.sides.specs.Meaning.{Sound, ExplainsEqual}
use Rattle.sides.specs.Repeated.{Repeated, Worked, Decides}

-- NF_EQUAL

-- refusal 5: 'term absent or of the wrong kind; a list above 1,024'
abbrev pub equal_arguments : List ℕ → List ℕ → Store → Bool
equal_arguments l r s = is_list s l && is_list s r

-- 'lists of unequal length: false'
unfoldable pub equal_lists : List ℕ → List ℕ → Work Bool
equal_lists l r = λ s. ok s (nf_equal s l r)

-- nf_equal's answer; the store is as it was
abbrev pub compared : Result Bool Refusal → Lent → State → Out Bool
compared (Ok b) m c = ok (store_of m c) b
compared (Err e) m c = stop (number e)

-- nf_equal_explain's answer, and what it is worth: under the reasons at exit and the definitional merges two lists that nf_equal calls
-- equal have equal words. The reasons at exit are those at entry and then reasons that the list lacked, each once. Once the arguments pass,
-- refusal 7 alone is given
pub record PublicEqualExplain (l r : List ℕ) (m m' : Lent) (c : State) (o : Out (Unit {0})) : Type 0 where
  pub is : Public (call (nf_arguments l r) (nf_explain l r) m c) m m' c o
  pub worth : (s' : Store) → o ≡ ok s' tt → ExplainsEqual (store_of m c) s' l r
  pub once : (s' : Store) → o ≡ ok s' tt → EachOnce (store_of m c).reasons s'.reasons
  pub full : (k : ℕ) → o ≡ stop k → full_alone k

-- RESOLVE_EQUATION

-- a resolved equation's answer; a Split's atoms are the first words of the list's slice k
abbrev pub resolved : Result StepResult Refusal → Lent → List ℕ → Out Answer
resolved (Ok (step.Done c)) m k = ok (store_of m c) done
resolved (Ok (step.Saturated c)) m k = ok (store_of m c) saturated
resolved (Ok (step.Conflict c)) m k = ok (store_of m c) conflict
resolved (Ok (step.Propagate c v w f)) m k = ok (store_of m c) (propagate v w f)
resolved (Ok (step.Split c n g j)) m k = ok (store_of m c) (split (take n k) g j)
resolved (Err e) m k = stop (number e)

-- its answer, and what it is worth: demand 3. The reasons at exit are those at entry and then reasons that the list lacked, each once. A
-- Split's number 'equals the growth of the term count within wordeq'. One repeated field v is decided exactly
pub record PublicResolve (l r : List ℕ) (g : ℤ) (m m' : Lent) (k k' : List ℕ) (c : State) (o : Out Answer) : Type 0 where
  pub is : PublicList (list_call k (resolve_arguments l r g) (resolve l r g) m c) m m' k k' c o
  pub worth : (s' : Store) (x : Answer) → o ≡ ok s' x → Sound (store_of m c) s' l r x
  pub once : (s' : Store) (x : Answer) → o ≡ ok s' x → EachOnce (store_of m c).reasons s'.reasons
  pub grows : (s' : Store) (atoms : List ℕ) (h : ℤ) (n : ℕ) → o ≡ ok s' (split atoms h n) → count s' ≡ n + count (store_of m c)
  pub decides : (v : ℕ) → Repeated (store_of m c) v l r → Worked o → Decides (store_of m c) l r o
