-- What the exported call of the step over one equation promises.
use Rattle.std.specs.Prelude.{◌≡◌, List, [], ◌∷◌, ℕ, get_or, ℤ, ltb, if◌then◌else◌}
use Rattle.records.specs.View.{Lent, store_of}
use Rattle.records.specs.Make.{EachOnce}
use Rattle.normalize.specs.Calls.{list_call}
use Rattle.equation.specs.Equation.{Stepped, unexpanded, answered, step, step_arguments, GrowsAfterForms, StepSound}
use Rattle.capi.specs.Interface.{state_of, state_room, roomy, over, AnsweredList}
use Rattle.capi.specs.Equations.{answer_words, answer_by}

-- 5 for Unexpanded in word 0; the others as wordeq's
abbrev pub step_words : Stepped → List ℕ
step_words unexpanded = 5 ∷ []
step_words (answered x) = answer_words x

-- the answer that the answer's words a and the list's slice l give
abbrev pub step_by : ℕ → List ℕ → List ℕ → Stepped
step_by n l a = if ltb 4 n then unexpanded else answered (answer_by n l a)

abbrev pub step_read : List ℕ → List ℕ → Stepped
step_read l a = step_by (get_or a 0 0) l a

-- the step told in words, and what it is worth: demand 3. The reasons at exit are those at entry and then reasons that the list
-- lacked, each once. After a Split word 3 of the answer is the growth 'within wordeq, terms of the normal forms left out'
pub record ExportedStep (known : List ℕ) (e : ℕ) (g : ℤ) (m m' : Lent) (k k' w w' a a' : List ℕ) (n : ℕ) : Type 0 where
  pub is : AnsweredList (over (roomy state_room w a) (list_call k (step_arguments known e g) (step known e g) m (state_of w))) step_words m m' k k' w w' a a' (step_read k' a') n
  pub worth : n ≡ 0 → StepSound (store_of m (state_of w)) (store_of m' (state_of w')) e (step_read k' a')
  pub once : n ≡ 0 → EachOnce (store_of m (state_of w)).reasons (store_of m' (state_of w')).reasons
  pub grows : n ≡ 0 → get_or a' 0 0 ≡ 4 → GrowsAfterForms known e (store_of m (state_of w)) (store_of m' (state_of w')) (get_or a' 3 0)
