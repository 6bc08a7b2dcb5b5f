use Rattle.records.proofs.Climbs.{climbing_begin, climbing_turn, climbing_here}
use Rattle.records.proofs.classes.climb_unchecked.Goals as goal

pub loop-init : goal.loop-init
loop-init g c = λ up s. climbing_begin _ _ _ c.requires.here

pub returns-then-y-x : goal.returns-then-y-x
returns-then-y-x g c = λ up s. let p = c.loop.invariant up s in climbing_here _ _ _ _ _ _ p (s.is _ _ p.here c.parent-y.ensures) c.if-y-x.true

pub loop-preserved : goal.loop-preserved
loop-preserved g c = λ up s. let p = c.loop.invariant up s in climbing_turn _ _ _ _ _ _ p (s.is _ _ p.here c.parent-y.ensures) s.closed c.loop-test.true
