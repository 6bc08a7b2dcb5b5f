use Rattle.records.specs.View.{pair_at}
use Rattle.records.specs.Lists.{all_below}
use Prim.Native.Nat.{ℕ}
use mathlib.Core.Bool.{Bool, true}
use mathlib.Core.Path.{◌≡◌}
use Rattle.records.proofs.rules.pairs_pass.Given as goal

abbrev pub invariant-loop-i : goal.invariant-loop-i
invariant-loop-i g l =
    (test : ℕ × ℕ → Bool) → ((a b : ℕ) (r : Bool) → goal.F-post g l.rule a b r → r ≡ test (a, b)) → all_below (λ j. test (pair_at l.pairs j)) l.i ≡ true
