use Rattle.records.proofs.Refines.RuleLaws.{pair_test}
use Rattle.records.proofs.Lists.{below-zero, table-stop, below-turn, table_done}
use Rattle.records.specs.View.{pair_at}
use native.Mathlib.Omega.{arith}
use Rattle.records.proofs.rules.pairs_pass.Goals as goal

pub loop-i-init : goal.loop-i-init
loop-i-init g c = λ test h. below-zero _

pub returns-then-not-rule : goal.returns-then-not-rule
returns-then-not-rule g c =
    let l = c.args.pairs.now in
    λ test h.
    table-stop test (pair_at l) c.args.n c.loop-i.i _
    (pair_test test l c.loop-i.i _ _ _ (h _ _ _ c.rule.ensures) c.word.ensures c.word-in-loop-i.ensures) c.if-not-rule.true c.loop-i-test.true

pub loop-i-preserved : goal.loop-i-preserved
loop-i-preserved g c =
    let l = c.args.pairs.now in
    λ test h.
    below-turn (λ j. test (pair_at l j)) c.loop-i.i _
    (pair_test test l c.loop-i.i _ _ _ (h _ _ _ c.rule.ensures) c.word.ensures c.word-in-loop-i.ensures) c.if-not-rule.false (c.loop-i.invariant test h)

pub returns : goal.returns
returns g c = λ test h. table_done test (pair_at c.args.pairs.now) c.args.n c.loop-i.i (omega arith) c.loop-i-test.false (c.loop-i.invariant test h)
