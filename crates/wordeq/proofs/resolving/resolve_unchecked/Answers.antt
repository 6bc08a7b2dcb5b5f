use Rattle.records.proofs.Public.{handed}
use Rattle.wordeq.proofs.Refines.ResolveCalls.{resolve-closed, resolve-refused}
use Rattle.wordeq.proofs.resolving.resolve_unchecked.Goals as goal

pub returns-in_err-o : goal.returns-in_err-o
returns-in_err-o c =
    rw (handed _ c.from_residual.ensures.1) (resolve-refused _ _ c.args.lhs.now c.args.rhs.now c.args.guard c.ranges.guard c.in_err-o.ensures)

pub returns : goal.returns
returns c =
    resolve-closed _ _ c.args.lhs.now c.args.rhs.now c.args.guard c.requires.ready c.requires.both_lists c.ranges.guard _
    c.in_ok-o.o c.in_ok-o.ensures _ c.close.ensures
