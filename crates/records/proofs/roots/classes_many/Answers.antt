use Prim.Native.Nat.{suc}
use Rattle.records.specs.Working.Leaves.{class_test}
use Rattle.records.proofs.ClimbEnds.{kept-none}
use Rattle.records.specs.View.{term_at, termed}
use Rattle.records.proofs.Lists.{within-is, upto_none, upto_more, upto-stop, upto-done}
use native.Mathlib.Omega.{arith}
use Rattle.records.proofs.roots.classes_many.Goals as goal

pub loop-t-init : goal.loop-t-init
loop-t-init c = (upto_none _, kept-none _ _ c.requires.0)

pub class_kept_ok-requires : goal.class_kept_ok-requires
class_kept_ok-requires c =
    record {
      limited = c.requires.0;
      here = within-is _ _ (omega arith) (omega arith);
      parents = c.requires.1;
      kept = c.loop-t.invariant.1;
    }

pub returns-then-not-class_kept_ok : goal.returns-then-not-class_kept_ok
returns-then-not-class_kept_ok c =
    let a = c.args in
    upto-stop (λ j. term_at a.terms.now (suc j)) (class_test (termed a.terms.now a.c)) a.c.terms _ _ c.class_kept_ok.ensures.is c.if-not-class_kept_ok.true (omega arith) (omega arith)

pub returns : goal.returns
returns c =
    let a = c.args in
    upto-done (λ j. term_at a.terms.now (suc j)) (class_test (termed a.terms.now a.c)) a.c.terms _ c.loop-t.invariant.0 (omega arith)

pub returns-else-not-class_kept_ok : goal.returns-else-not-class_kept_ok
returns-else-not-class_kept_ok c =
    let a = c.args in
    upto-done (λ j. term_at a.terms.now (suc j)) (class_test (termed a.terms.now a.c)) a.c.terms _ (upto_more _ _ _ c.loop-t.invariant.0 c.class_kept_ok.ensures.is c.if-not-class_kept_ok.false) (omega arith)
