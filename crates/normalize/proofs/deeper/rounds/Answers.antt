use Rattle.records.proofs.Public.{handed}
use lib.ListN.{replicate, get_or-replicate}
use mathlib.Core.Path.{refl}
use Rattle.normalize.proofs.Refines.Rounding.{rounding_none, rounding_candidates, rounds-ended, rounds-stopped, rounding_turn, rounds_done}
use Rattle.normalize.proofs.deeper.rounds.Goals as goal

pub loop-init : goal.loop-init
loop-init c =
    rounding_none _ _ c.args.list.now c.args.count (replicate 513 0) c.requires.ready c.requires.strings c.requires.count_le_deep_limit.0 refl
    (λ i h. get_or-replicate 513 i 0 0 h)

pub round-requires-clause-candidates : goal.round-requires-clause-candidates
round-requires-clause-candidates c =
    rounding_candidates c.loop.invariant _ c.requires.candidates

pub returns-in_err-turn : goal.returns-in_err-turn
returns-in_err-turn c =
    rw (handed _ c.from_residual.ensures.1)
    (rounds-stopped c.loop.invariant _ c.requires.candidates c.loop-test.true c.round.new.list c.round.new.met c.in_err-turn.ensures)

pub returns-in-Ends : goal.returns-in-Ends
returns-in-Ends c =
    rounds-ended c.loop.invariant _ c.requires.candidates c.loop-test.true c.round.new.list c.round.new.met _ _ (rw c.in-Ends.is at c.in_ok-turn.ensures)

pub loop-preserved : goal.loop-preserved
loop-preserved c =
    rounding_turn c.loop.invariant _ c.requires.candidates c.loop-test.true c.round.new.list c.round.new.met _ _ (rw c.in-Again.is at c.in_ok-turn.ensures)

pub returns : goal.returns
returns c =
    rounds_done c.loop.invariant _ c.requires.candidates c.loop-test.false
