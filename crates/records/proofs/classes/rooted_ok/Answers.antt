use Rattle.records.proofs.Refines.ClassLaws.{alike_is}
use Rattle.records.specs.Working.Leaves.{class_test}
use native.Mathlib.Omega.{arith}
use Rattle.records.proofs.classes.rooted_ok.Goals as goal

pub returns-then-label_ok : goal.returns-then-label_ok
unfolding class_test
returns-then-label_ok c =
    let a = c.args in let e = alike_is a.terms.now a.c a.t a.r a.q c.requires.rooted _ _ c.requires.root_is c.requires.top_is in grind arith

pub returns-else-label_ok : goal.returns-else-label_ok
unfolding class_test
returns-else-label_ok c =
    let a = c.args in let e = alike_is a.terms.now a.c a.t a.r a.q c.requires.rooted _ _ c.requires.root_is c.requires.top_is in grind arith
