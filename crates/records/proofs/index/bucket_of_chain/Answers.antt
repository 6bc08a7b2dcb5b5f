use Rattle.records.proofs.Refines.IndexBuckets.{chain-shorter, chain-turn, chain-done}
use Rattle.records.proofs.index.bucket_of_chain.Goals as goal

pub loop-b-smaller : goal.loop-b-smaller
loop-b-smaller c =
    let a = c.args in chain-shorter a.cells.now a.n c.requires _ _ c.is_within.ensures c.loop-b-test.true _ c.next-at.ensures

pub loop-b-preserved : goal.loop-b-preserved
loop-b-preserved c =
    let a = c.args in
    chain-turn a.cells.now a.n c.requires _ _ c.is_within.ensures c.loop-b-test.true _ _ _ _ _ c.loop-b.invariant
    c.value.ensures c.added-b.ensures c.next-at.ensures

pub returns : goal.returns
returns c =
    let a = c.args in chain-done a.cells.now a.n c.requires _ _ c.is_within.ensures _ _ c.loop-b.invariant c.loop-b-test.false
