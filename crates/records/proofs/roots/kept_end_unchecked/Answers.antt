use Prim.Native.Nat.{ℕ, ◌+◌}
use Rattle.records.specs.Working.Audited.{Steps}
use Rattle.records.proofs.Climbs.{Climbing, climbing_begin, climbing_turn, climbing_here}
use Rattle.records.proofs.ClimbEnds.{term_place_lem, climbing_kept}
use Rattle.records.proofs.roots.kept_end_unchecked.Given as given
use Rattle.records.proofs.roots.kept_end_unchecked.Goals as goal

pub loop-init : goal.loop-init
loop-init g c = (term_place_lem _ _ c.requires.limited c.requires.here, λ up s. climbing_begin _ _ _ c.requires.here)

pub returns-then-r-ne0 : goal.returns-then-r-ne0
returns-then-r-ne0 g c = λ up s k. let p = c.loop.invariant.1 up s in climbing_kept _ _ _ _ _ _ s.closed c.requires.here p (k.entries _ p.here c.if-r-ne0.true)

pub returns-then-y-x : goal.returns-then-y-x
returns-then-y-x g c = λ up s k. let p = c.loop.invariant.1 up s in climbing_here _ _ _ _ _ _ p (s.is _ _ p.here c.parent-y.ensures) c.if-y-x.true

pub loop-preserved : goal.loop-preserved
loop-preserved g c =
    let turn : (up : ℕ → ℕ) → Steps (given.F-post g c.args.parent) up c.args.n → Climbing up c.args.n c.args.t c.parent-y.result (c.loop.counter + 1)
    = λ up s. let p = c.loop.invariant.1 up s in climbing_turn _ _ _ _ _ _ p (s.is _ _ p.here c.parent-y.ensures) s.closed c.loop-test.true in
    let (up, s) = c.requires.steps in (term_place_lem _ _ c.requires.limited (turn up s).here, turn)
