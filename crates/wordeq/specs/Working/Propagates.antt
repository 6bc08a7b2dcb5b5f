-- Step 4's tests of the two lists, and what a variable is propagated to.
use Rattle.std.specs.Prelude.{Bool, true, ◌&&◌, List, ℕ, length, get_or, eqb, leb}
use Rattle.std.proofs.Math.Option.{Option, none, some}
use Rattle.records.specs.declared.State.{State}
use Rattle.records.specs.Lists.{all}
use Rattle.records.specs.Store.{Store, is_variable}
use Rattle.sides.specs.declared.StepResult.{StepResult}
use Rattle.sides.specs.declared.StepResult.TheVariants as step
use Rattle.sides.specs.Wordeq.{fixed, is_plain}

-- 'Two lone variables, neither name beginning `!strk`'
abbrev pub aliased : Store → List ℕ → List ℕ → Bool
aliased s l r = eqb (length l) 1 && eqb (length r) 1 && is_plain s (get_or l 0 0) && is_plain s (get_or r 0 0)

-- 'Empty against two or more variables'
abbrev pub emptied : Store → List ℕ → List ℕ → Bool
emptied s l r = eqb (length l) 0 && leb 2 (length r) && all (is_variable s) r

-- 'A lone variable against constants'
abbrev pub assigned : Store → List ℕ → List ℕ → Bool
assigned s l r = eqb (length l) 1 && is_variable s (get_or l 0 0) && fixed s r

-- 'Propagate the first not same as it, link flag set': none where each variable is the same as ""
abbrev pub linked : State → ℕ → Option ℕ → StepResult
linked c e none = step.Done c
linked c e (some v) = step.Propagate c v e true
