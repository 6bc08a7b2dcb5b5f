use Rattle.records.proofs.Public.{handed}
use mathlib.Core.List.{◌++◌}
use Rattle.records.proofs.Climbs.{ready_roots}
use Rattle.normalize.proofs.Refines.Heaping.{heaping_none}
use Rattle.normalize.proofs.Refines.Replacing.{rep_counted, for_arguments, forms_turn, forms_stopped, forms_done}
use Rattle.normalize.proofs.normal.push_forms.Goals as goal

pub loop-a-init : goal.loop-a-init
loop-a-init c =
    heaping_none _ _ c.requires.ready

pub rep-r-requires-clause-t_counted : goal.rep-r-requires-clause-t_counted
rep-r-requires-clause-t_counted c =
    rep_counted c.args.known.now c.args.flat.now c.loop-a.invariant _ c.requires.candidates c.loop-a-test.true

pub rep-r-requires-clause-closed : goal.rep-r-requires-clause-closed
rep-r-requires-clause-closed c =
    ready_roots _ _ c.loop-a.invariant.carried.ready.audited.classed

pub push_for-requires-clause-explainable : goal.push_for-requires-clause-explainable
push_for-requires-clause-explainable c =
    for_arguments c.args.known.now c.args.flat.now c.loop-a.invariant _ c.requires.candidates c.loop-a-test.true _ c.rep-r.ensures

pub returns-in_err-count : goal.returns-in_err-count
returns-in_err-count c =
    rw (handed _ c.from_residual.ensures.1)
    (forms_stopped c.args.known.now c.args.flat.now c.loop-a.invariant _ c.requires.candidates c.loop-a-test.true _ c.rep-r.ensures c.in_err-count.ensures)

pub loop-a-preserved : goal.loop-a-preserved
loop-a-preserved c =
    forms_turn c.args.known.now c.args.flat.now c.loop-a.invariant _ c.requires.candidates c.loop-a-test.true _ c.rep-r.ensures c.push_for.new.list _ _ c.in_ok-count.ensures

pub returns : goal.returns
returns c =
    forms_done (c.args.known.now ++ c.args.flat.now) _ c.loop-a.invariant c.loop-a-test.false
