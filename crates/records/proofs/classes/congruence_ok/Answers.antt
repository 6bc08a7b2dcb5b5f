use Rattle.records.proofs.Refines.PairLaws.{congruence-words, congruent_terms}
use Rattle.std.proofs.lemmas.Bool.Decides.{nat_tests}
use native.Mathlib.Omega.{arith}
use Rattle.records.proofs.classes.congruence_ok.Goals as goal

pub falls_hold-requires-clause-every : goal.falls_hold-requires-clause-every
falls_hold-requires-clause-every c =
    let a = c.args in let e = congruent_terms a.terms.now a.cells.now a.c a.t _ c.requires.congruable c.requires.here c.forest_parent-u.ensures (grind (arith, nat_tests)) (grind (arith, nat_tests)) (grind (arith, nat_tests)) in rw c.label_value-p.ensures e

pub returns-then-pairs_either_ok : goal.returns-then-pairs_either_ok
returns-then-pairs_either_ok c =
    let a = c.args in record { is = rw (← congruence-words a.terms.now a.cells.now a.c a.t _ c.requires.congruable c.requires.here c.forest_parent-u.ensures) (let e = c.falls_hold.ensures.is in grind (arith, nat_tests)); kept = c.falls_hold.ensures.kept }

pub returns-else-pairs_either_ok : goal.returns-else-pairs_either_ok
returns-else-pairs_either_ok c =
    let a = c.args in record { is = rw (← congruence-words a.terms.now a.cells.now a.c a.t _ c.requires.congruable c.requires.here c.forest_parent-u.ensures) (grind (arith, nat_tests)); kept = c.requires.heights }
