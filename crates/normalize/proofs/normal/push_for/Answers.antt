use Rattle.records.proofs.Public.{handed}
use Rattle.normalize.proofs.Refines.Replacing.{push_for-done, push_for-stopped}
use mathlib.Core.Path.{refl}
use Rattle.normalize.proofs.normal.push_for.Goals as goal

pub returns-in_err-d : goal.returns-in_err-d
returns-in_err-d c =
    rw (handed _ c.from_residual.ensures.1) (push_for-stopped _ _ _ c.in_err-d.ensures)

pub push-requires-clause-ready : goal.push-requires-clause-ready
push-requires-clause-ready c =
    c.in_ok-d.ensures.ready _ tt refl

pub returns : goal.returns
returns c =
    push_for-done _ _ _ c.requires.ready c.requires.explainable _ c.in_ok-d.ensures c.push.ensures
