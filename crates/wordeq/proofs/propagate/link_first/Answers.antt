use Rattle.records.specs.View.{read_in}
use Rattle.wordeq.proofs.Refines.Propagate.{linked-first, linked-turn, linked-none}
use Rattle.records.proofs.Lists.{every_at}
use Rattle.wordeq.proofs.propagate.link_first.Goals as goal

pub same_unchecked-requires-clause-fact_2 : goal.same_unchecked-requires-clause-fact_2
same_unchecked-requires-clause-fact_2 c =
    every_at c.args.side.now _ 0 c.requires.every c.loop-v-test.true

pub returns-then-not-same_unchecked : goal.returns-then-not-same_unchecked
returns-then-not-same_unchecked c =
    linked-first (read_in c.args.terms.now c.args.chars.now c.args.c) c.args.c c.args.side.now c.args.word _
    c.loop-v.invariant c.loop-v-test.true _ c.same_unchecked.ensures c.if-not-same_unchecked.true-raw

pub loop-v-preserved : goal.loop-v-preserved
loop-v-preserved c =
    linked-turn (read_in c.args.terms.now c.args.chars.now c.args.c) c.args.c c.args.side.now c.args.word
    _ c.loop-v.invariant c.loop-v-test.true _ c.same_unchecked.ensures c.if-not-same_unchecked.false-raw

pub returns : goal.returns
returns c =
    linked-none (read_in c.args.terms.now c.args.chars.now c.args.c) c.args.c c.args.side.now c.args.word _
    c.loop-v.invariant c.loop-v-test.false
