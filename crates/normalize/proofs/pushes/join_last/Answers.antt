use Rattle.records.proofs.Public.{handed}
use Rattle.normalize.proofs.Refines.Pushing.{pair-constants, join-made, join-stopped}
use Rattle.normalize.proofs.pushes.join_last.Goals as goal

pub join_constants_unchecked-requires-clause-list_value : goal.join_constants_unchecked-requires-clause-list_value
join_constants_unchecked-requires-clause-list_value c =
    pair-constants c.requires.ready _ _ c.args.list.now c.requires.count_nonzero c.requires.count_in_bounds c.requires.joins

pub returns-in_err-u : goal.returns-in_err-u
returns-in_err-u c =
    rw (handed _ c.from_residual.ensures.1)
    (join-stopped c.requires.ready _ _ c.args.list.now c.requires.count_nonzero c.requires.count_in_bounds c.requires.joins c.in_err-u.ensures)

pub returns : goal.returns
returns c =
    join-made c.requires.ready _ _ c.args.list.now c.requires.count_nonzero c.requires.count_in_bounds c.requires.joins _ _ c.in_ok-u.ensures
