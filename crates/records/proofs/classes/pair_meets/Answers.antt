use Rattle.records.proofs.Refines.PairLaws.{meets-words}
use Rattle.std.proofs.lemmas.Bool.Decides.{nat_tests}
use native.Mathlib.Omega.{arith}
use Rattle.records.proofs.classes.pair_meets.Goals as goal

pub returns-then-value : goal.returns-then-value
returns-then-value c =
    let a = c.args in rw (← meets-words a.cells.now a.n a.x a.y a.z c.requires) (grind (arith, nat_tests))

pub returns-else-value : goal.returns-else-value
returns-else-value c =
    let a = c.args in rw (← meets-words a.cells.now a.n a.x a.y a.z c.requires) (grind (arith, nat_tests))
