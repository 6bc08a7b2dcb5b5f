use Rattle.records.specs.Rules.{reason_rule}
use Rattle.std.proofs.lemmas.Bool.Decides.{nat_tests}
use native.Mathlib.Omega.{arith}
use Rattle.records.proofs.rules.reason_ok.Goals as goal

pub returns-then-is_reason_kind : goal.returns-then-is_reason_kind
unfolding reason_rule
returns-then-is_reason_kind c = grind (arith, nat_tests)

pub returns-else-is_reason_kind : goal.returns-else-is_reason_kind
unfolding reason_rule
returns-else-is_reason_kind c = grind (arith, nat_tests)
