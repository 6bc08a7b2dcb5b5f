use Rattle.records.proofs.Lists.{below-zero}
use Rattle.records.proofs.Refines.IndexReads.{end-not, end-turn}
use Rattle.records.proofs.index.chains_end.Goals as goal

pub loop-b-init : goal.loop-b-init
loop-b-init c =
    below-zero _

pub returns-then-word_after-ne0 : goal.returns-then-word_after-ne0
returns-then-word_after-ne0 c =
    let a = c.args in end-not a.terms.now a.ends.now c.loop-b.b _ c.loop-b-test.true c.word_after.ensures c.if-word_after-ne0.true

pub loop-b-preserved : goal.loop-b-preserved
loop-b-preserved c =
    let a = c.args in
    end-turn a.terms.now a.ends.now c.loop-b.b _ c.word_after.ensures c.if-word_after-ne0.false c.loop-b.invariant
