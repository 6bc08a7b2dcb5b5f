use Rattle.records.specs.Make.{same_pair}
use Rattle.records.specs.View.{pairs_view}
use Rattle.records.specs.Lists.{any}
use mathlib.Core.Bool.{false}
use mathlib.Core.Path.{◌≡◌}
use Rattle.records.proofs.put.has_pair.Given as goal

abbrev pub invariant-loop-i : goal.invariant-loop-i
invariant-loop-i l = any (same_pair (l.a, l.b)) (pairs_view l.pairs l.i) ≡ false
