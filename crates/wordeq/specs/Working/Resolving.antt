-- Working definitions: wordeq in the order of its functions, and what each does to an answer.
use Rattle.std.specs.Prelude.{List, ◌++◌, ℕ, ℤ, if◌then◌else◌}
use Rattle.records.specs.Lists.{any}
use Rattle.records.specs.Store.{Work, ◌>>=◌, give, store, is_concat}
use Rattle.records.specs.View.{reasons_at}
use Rattle.normalize.specs.Normalize.{flatten}
use Rattle.sides.specs.declared.StepResult.{StepResult}
use Rattle.sides.specs.declared.StepResult.TheVariants as step
use Rattle.sides.specs.Wordeq.{Answer, steps, softened}

-- 'Flatten both lists, left first, ..; then any Conflict becomes Saturated.'
unfoldable pub flat_steps : List ℕ → List ℕ → ℤ → Work Answer
flat_steps l r g = do
  l₁ ← flatten l
  r₁ ← flatten r
  y ← steps g l₁ r₁
  give (softened y)

-- '.. if any atom of either is a concatenation'
unfoldable pub ran : List ℕ → List ℕ → ℤ → Work Answer
ran l r g = do
  s ← store
  if any (is_concat s) (l ++ r) then flat_steps l r g else steps g l r

-- the answer of flattened lists
abbrev pub soft : StepResult → StepResult
soft (step.Done d) = step.Done d
soft (step.Saturated d) = step.Saturated d
soft (step.Conflict d) = step.Saturated d
soft (step.Propagate d v w f) = step.Propagate d v w f
soft (step.Split d n g j) = step.Split d n g j

-- 'Conflict and Propagate end with the incoming reasons and those added; other answers return the incoming count.'
abbrev pub closing : ℕ → StepResult → StepResult
closing n (step.Done d) = step.Done (reasons_at d n)
closing n (step.Saturated d) = step.Saturated (reasons_at d n)
closing n (step.Conflict d) = step.Conflict d
closing n (step.Propagate d v w f) = step.Propagate d v w f
closing n (step.Split d k g j) = step.Split (reasons_at d n) k g j
