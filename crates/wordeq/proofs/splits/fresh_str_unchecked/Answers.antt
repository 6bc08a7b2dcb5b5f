use Rattle.records.proofs.Public.{handed}
use Rattle.wordeq.proofs.Refines.SplitAtoms.{named-stop, named_arguments, named_new, named-then}
use Rattle.wordeq.proofs.splits.fresh_str_unchecked.Goals as goal

pub returns-in_err-named : goal.returns-in_err-named
returns-in_err-named c =
    rw (handed _ c.from_residual.ensures.1) (named-stop c.in_err-named.ensures)

pub make_named-requires-clause-is_name : goal.make_named-requires-clause-is_name
make_named-requires-clause-is_name c =
    let x = c.in_ok-named.ensures in
    named_arguments x

pub make_named-requires-clause-is_new : goal.make_named-requires-clause-is_new
make_named-requires-clause-is_new c =
    let x = c.in_ok-named.ensures in
    named_new x

pub returns : goal.returns
returns c =
    named-then c.in_ok-named.ensures c.make_named.ensures
