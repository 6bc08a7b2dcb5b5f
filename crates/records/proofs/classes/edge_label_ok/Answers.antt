use Rattle.records.specs.Rules.{edge_label}
use Rattle.std.proofs.lemmas.Bool.Decides.{nat_tests}
use native.Mathlib.Omega.{arith}
use Rattle.records.proofs.classes.edge_label_ok.Goals as goal

pub returns-then-k-from : goal.returns-then-k-from
unfolding edge_label
returns-then-k-from c = grind (arith, nat_tests)

pub returns-then-k-from-2 : goal.returns-then-k-from-2
unfolding edge_label
returns-then-k-from-2 c = grind (arith, nat_tests)

pub returns-else-k-from-2 : goal.returns-else-k-from-2
unfolding edge_label
returns-else-k-from-2 c = grind (arith, nat_tests)
