use Rattle.records.proofs.Lists.{within-is, upto_more, upto-stop, upto-done}
use Rattle.records.specs.Working.Leaves.{class_test}
use Rattle.records.specs.View.{termed, term_at}
use Prim.Native.Nat.{suc}
use native.Mathlib.Omega.{arith}
use Rattle.records.proofs.classes.classes_few.Goals as goal

pub class_ok-requires : goal.class_ok-requires
class_ok-requires c = (within-is _ _ (omega arith) (omega arith), c.requires.1)

pub returns-then-not-class_ok : goal.returns-then-not-class_ok
returns-then-not-class_ok c =
    let a = c.args in
    upto-stop (λ j. term_at a.terms.now (suc j)) (class_test (termed a.terms.now a.c)) a.c.terms _ _ c.class_ok.ensures c.if-not-class_ok.true (omega arith) (omega arith)

pub returns : goal.returns
returns c =
    let a = c.args in
    upto-done (λ j. term_at a.terms.now (suc j)) (class_test (termed a.terms.now a.c)) a.c.terms _ c.loop-t.invariant (omega arith)

pub returns-else-not-class_ok : goal.returns-else-not-class_ok
returns-else-not-class_ok c =
    let a = c.args in
    upto-done (λ j. term_at a.terms.now (suc j)) (class_test (termed a.terms.now a.c)) a.c.terms _ (upto_more _ _ _ c.loop-t.invariant c.class_ok.ensures c.if-not-class_ok.false) (omega arith)
