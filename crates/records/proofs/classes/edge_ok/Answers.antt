use Rattle.records.proofs.Refines.PairLaws.{edge-words}
use Rattle.std.proofs.lemmas.Bool.Decides.{nat_tests}
use native.Mathlib.Omega.{arith}
use Rattle.records.proofs.classes.edge_ok.Goals as goal

pub returns-then-label_kind-from : goal.returns-then-label_kind-from
returns-then-label_kind-from c =
    let a = c.args in record { is = rw (← edge-words a.terms.now a.cells.now a.c a.t c.requires.here) (grind (arith, nat_tests)); kept = c.requires.heights }

pub returns-else-label_kind-from : goal.returns-else-label_kind-from
returns-else-label_kind-from c =
    let a = c.args in record { is = rw (← edge-words a.terms.now a.cells.now a.c a.t c.requires.here) (let e = c.congruence_ok.ensures.is in grind (arith, nat_tests)); kept = c.congruence_ok.ensures.kept }
