use Rattle.records.proofs.Refines.PairLaws.{linking_end, linking_stop, linking_turn, linking_done}
use Rattle.records.proofs.classes.pairs_ok.Goals as goal

pub returns-then-not-is_within : goal.returns-then-not-is_within
returns-then-not-is_within c =
    linking_end _ _ _ _ _ _ _ _ _ c.loop.invariant _ _ c.loop-test.true c.is_within.ensures c.if-not-is_within.true c.both_ended.ensures

pub returns-then-not-pair_meets : goal.returns-then-not-pair_meets
returns-then-not-pair_meets c =
    linking_stop _ _ _ _ _ _ _ _ _ c.loop.invariant _ _ c.loop-test.true c.is_within.ensures c.if-not-is_within.false
    c.pair_meets.ensures c.if-not-pair_meets.true

pub loop-preserved : goal.loop-preserved
loop-preserved c =
    linking_turn _ _ _ _ _ _ _ _ _ c.loop.invariant _ _ c.loop-test.true c.is_within.ensures c.if-not-is_within.false
    c.pair_meets.ensures _ _ _ c.if-not-pair_meets.false c.next-x.ensures c.next-y.ensures c.next-z.ensures

pub returns : goal.returns
returns c =
    linking_done _ _ _ _ _ _ _ _ _ c.loop.invariant c.loop-test.false
