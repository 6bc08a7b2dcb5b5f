use Rattle.records.specs.Make.{same_pair}
use Prim.Native.Nat.{◌*◌}
use native.Mathlib.Nat.{add-zero}
use native.Mathlib.Omega.{arith}
use Rattle.std.proofs.lemmas.Bool.Decides.{nat_tests}
use Rattle.records.proofs.put.pair_is_unchecked.Goals as goal

pub returns-then-b-pairs : goal.returns-then-b-pairs
unfolding same_pair
returns-then-b-pairs c = rw (add-zero (2 * c.args.i)) (grind (arith, nat_tests))

pub returns-else-b-pairs : goal.returns-else-b-pairs
unfolding same_pair
returns-else-b-pairs c = rw (add-zero (2 * c.args.i)) (grind (arith, nat_tests))
