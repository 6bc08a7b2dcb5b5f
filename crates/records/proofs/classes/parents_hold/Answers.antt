use Rattle.records.proofs.Lists.{within-is, upto_more, upto-stop, upto-done}
use Rattle.records.specs.Rules.{parents_rule}
use Rattle.records.specs.View.{termed, term_at}
use Prim.Native.Nat.{suc}
use native.Mathlib.Omega.{arith}
use Rattle.records.proofs.classes.parents_hold.Goals as goal

pub parents_ok-requires : goal.parents_ok-requires
parents_ok-requires c = within-is _ _ (omega arith) (omega arith)

pub returns-then-not-parents_ok : goal.returns-then-not-parents_ok
returns-then-not-parents_ok c =
    let a = c.args in
    upto-stop (λ j. term_at a.terms.now (suc j)) (parents_rule (termed a.terms.now a.c)) a.c.terms _ _ c.parents_ok.ensures c.if-not-parents_ok.true (omega arith) (omega arith)

pub returns : goal.returns
returns c =
    let a = c.args in
    upto-done (λ j. term_at a.terms.now (suc j)) (parents_rule (termed a.terms.now a.c)) a.c.terms _ c.loop-t.invariant (omega arith)

pub returns-else-not-parents_ok : goal.returns-else-not-parents_ok
returns-else-not-parents_ok c =
    let a = c.args in
    upto-done (λ j. term_at a.terms.now (suc j)) (parents_rule (termed a.terms.now a.c)) a.c.terms _ (upto_more _ _ _ c.loop-t.invariant c.parents_ok.ensures c.if-not-parents_ok.false) (omega arith)
