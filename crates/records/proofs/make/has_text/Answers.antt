use Rattle.records.specs.Working.Leaves.{has_text}
use Rattle.records.proofs.Refines.Making.{word_long, word_spelled}
use Rattle.std.proofs.lemmas.Bool.Decides.{nat_tests}
use native.Mathlib.Omega.{arith}
use Rattle.records.proofs.make.has_text.Goals as goal

pub returns-then-second-w : goal.returns-then-second-w
unfolding has_text
returns-then-second-w c = let a = c.args in let e = word_spelled a.terms.now a.chars.now a.w.now a.t in grind (arith, nat_tests)

pub returns-else-second-w : goal.returns-else-second-w
unfolding has_text
returns-else-second-w c = let a = c.args in let e = word_long a.terms.now a.chars.now a.w.now a.t in grind (arith, nat_tests)
