use Rattle.records.proofs.Climbs.{view_class}
use Rattle.records.specs.Working.Leaves.{alone_at}
use Rattle.std.proofs.lemmas.Bool.Decides.{nat_tests}
use native.Mathlib.Omega.{arith}
use Rattle.records.proofs.classes.alone_ok.Goals as goal

pub returns-then-p-t : goal.returns-then-p-t
unfolding alone_at
returns-then-p-t c =
    let a = c.args in let p = view_class a.terms.now a.c.terms a.t _ c.requires c.class_parent-p.ensures in grind (arith, nat_tests)

pub returns-then-is_string : goal.returns-then-is_string
unfolding alone_at
returns-then-is_string c =
    let a = c.args in let p = view_class a.terms.now a.c.terms a.t _ c.requires c.class_parent-p.ensures in grind (arith, nat_tests)

pub returns-else-is_string : goal.returns-else-is_string
unfolding alone_at
returns-else-is_string c =
    let a = c.args in let p = view_class a.terms.now a.c.terms a.t _ c.requires c.class_parent-p.ensures in grind (arith, nat_tests)
