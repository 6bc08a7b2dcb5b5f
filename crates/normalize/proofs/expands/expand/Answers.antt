use Rattle.records.proofs.Public.{handed}
use Rattle.normalize.proofs.Refines.Expanding.{walking_none, walk_candidates, walk-string, walking_turn, walking_ended, walking_stopped, walking_done}
use Rattle.normalize.proofs.expands.expand.Goals as goal

pub loop-a-init : goal.loop-a-init
loop-a-init c =
    walking_none _ _ _ _ _ c.requires.ready

pub expand_one-requires-clause-candidates : goal.expand_one-requires-clause-candidates
expand_one-requires-clause-candidates c =
    walk_candidates c.args.list.now c.loop-a.invariant _ c.requires.candidates c.requires.round_of
    c.loop-a-test.true

pub expand_one-requires-clause-a_string : goal.expand_one-requires-clause-a_string
expand_one-requires-clause-a_string c =
    walk-string c.args.list.now c.loop-a.invariant _ c.requires.candidates c.requires.round_of
    c.loop-a-test.true

pub returns-in_err-made : goal.returns-in_err-made
returns-in_err-made c =
    rw (handed _ c.from_residual.ensures.1)
    (walking_stopped c.args.list.now c.loop-a.invariant _ c.requires.candidates c.requires.round_of c.loop-a-test.true c.expand_one.new.next c.expand_one.new.met c.in_err-made.ensures)

pub returns-in_default : goal.returns-in_default
returns-in_default c =
    walking_ended c.args.list.now c.loop-a.invariant _ c.requires.candidates c.requires.round_of c.loop-a-test.true c.expand_one.new.next c.expand_one.new.met
    (rw c.in_default.is at c.in_ok-made.ensures)

pub loop-a-preserved : goal.loop-a-preserved
loop-a-preserved c =
    walking_turn c.args.list.now c.loop-a.invariant _ c.requires.candidates c.requires.round_of
    c.loop-a-test.true c.expand_one.new.next c.expand_one.new.met _ _ (rw c.in-Some.is at c.in_ok-made.ensures)

pub returns : goal.returns
returns c =
    walking_done c.args.list.now c.loop-a.invariant c.loop-a-test.false
