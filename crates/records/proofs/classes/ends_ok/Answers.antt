use Rattle.records.proofs.Refines.ClassLaws.{root-here, top-here}
use Rattle.records.proofs.Climbs.{view_class, view_forest}
use Rattle.records.specs.Rules.{ends_rule}
use Rattle.std.proofs.lemmas.Bool.Decides.{nat_tests}
use native.Mathlib.Omega.{arith}
use Rattle.records.proofs.classes.ends_ok.Goals as goal

pub returns-then-class_parent-r : goal.returns-then-class_parent-r
unfolding ends_rule
returns-then-class_parent-r c =
    let a = c.args in let h = c.requires in let p = view_class a.terms.now a.c.terms a.r _ (root-here a.terms.now a.c a.t a.r a.q h) c.class_parent.ensures in let u = view_forest a.terms.now a.c.terms a.q _ (top-here a.terms.now a.c a.t a.r a.q h) c.forest_parent.ensures in rw (← h.root_is, ← h.top_is) (grind (arith, nat_tests))

pub returns-else-class_parent-r : goal.returns-else-class_parent-r
unfolding ends_rule
returns-else-class_parent-r c =
    let a = c.args in let h = c.requires in let p = view_class a.terms.now a.c.terms a.r _ (root-here a.terms.now a.c a.t a.r a.q h) c.class_parent.ensures in rw (← h.root_is) (grind (arith, nat_tests))
