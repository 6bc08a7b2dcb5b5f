-- The step from its second form on, and from wordeq on; rs are the incoming reasons.
use Rattle.std.specs.Prelude.{List, ℕ, ℤ}
use Rattle.records.specs.Store.{Work, ◌>>=◌}
use Rattle.records.specs.View.{Slice, pairs_view, reasons_at}
use Rattle.normalize.specs.Normalize.{deep_form}
use Rattle.sides.specs.declared.StepResult.{StepResult}
use Rattle.sides.specs.declared.StepResult.TheVariants.{Done, Saturated, Conflict, Propagate, Split}
use Rattle.sides.specs.Wordeq.{resolve}
use Rattle.equation.specs.Equation.{Stepped, returned, or_unexpanded}

-- the first n reasons of a slice as it is lent
abbrev pub incoming_of : Slice → ℕ → List (ℕ × ℕ)
incoming_of reasons n = pairs_view reasons.entry.now n

unfoldable pub resolve_forms : List ℕ → List ℕ → ℤ → List (ℕ × ℕ) → Work Stepped
resolve_forms l r g rs = resolve l r g >>= returned rs

unfoldable pub right_form : List ℕ → ℕ → ℤ → List ℕ → List (ℕ × ℕ) → Work Stepped
right_form known t g l rs = deep_form known t >>= or_unexpanded rs (λ r. resolve_forms l r g rs)

-- 'Done returns the incoming count'
abbrev pub carried : ℕ → StepResult → StepResult
carried n (Done c) = Done (reasons_at c n)
carried n (Saturated c) = Saturated c
carried n (Conflict c) = Conflict c
carried n (Propagate c v w f) = Propagate c v w f
carried n (Split c j g i) = Split c j g i
