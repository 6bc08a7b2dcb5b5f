use Rattle.records.proofs.Refines.IndexWalks.{from_head, onwards_next, meet_fewer, walk_from, walk-met, walk-next, walk_none}
use Rattle.records.proofs.make.first_in.Goals as goal

pub loop-t-init : goal.loop-t-init
loop-t-init g c =
    (rw c.head-t.ensures (from_head c.requires.walkable), λ p s. walk_from p c.requires.walkable _ c.head-t.ensures)

pub returns-then-passes : goal.returns-then-passes
returns-then-passes g c = λ p s. walk-met p (c.loop-t.invariant.1 p s) c.loop-t-test.true _ (s _ _ c.passes.ensures) c.if-passes.true

pub loop-t-smaller : goal.loop-t-smaller
loop-t-smaller g c =
    rw c.next_term-t.ensures (meet_fewer c.loop-t.invariant.0 c.loop-t-test.true)

pub loop-t-preserved : goal.loop-t-preserved
loop-t-preserved g c = (
  rw c.next_term-t.ensures (onwards_next c.loop-t.invariant.0 c.loop-t-test.true),
  λ p s. walk-next p (c.loop-t.invariant.1 p s) c.loop-t-test.true _ (s _ _ c.passes.ensures) c.if-passes.false _ c.next_term-t.ensures,
)

pub returns : goal.returns
returns g c = λ p s. walk_none p (c.loop-t.invariant.1 p s) c.loop-t-test.false
