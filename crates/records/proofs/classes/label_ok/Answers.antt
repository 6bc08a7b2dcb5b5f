use Rattle.records.proofs.Climbs.{view_term}
use Rattle.records.specs.Rules.{label_rule}
use Rattle.std.proofs.lemmas.Bool.Decides.{nat_tests}
use native.Mathlib.Omega.{arith}
use Rattle.records.proofs.classes.label_ok.Goals as goal

pub returns-then-v-eq0 : goal.returns-then-v-eq0
unfolding label_rule
returns-then-v-eq0 c =
    let a = c.args in rw (view_term a.terms.now a.c.terms a.t c.requires) (grind (arith, nat_tests))

pub returns-else-v-eq0 : goal.returns-else-v-eq0
unfolding label_rule
returns-else-v-eq0 c =
    let a = c.args in rw (view_term a.terms.now a.c.terms a.t c.requires) (grind (arith, nat_tests))

pub returns-else-forest_parent-t : goal.returns-else-forest_parent-t
unfolding label_rule
returns-else-forest_parent-t c =
    let a = c.args in rw (view_term a.terms.now a.c.terms a.t c.requires) (grind (arith, nat_tests))
