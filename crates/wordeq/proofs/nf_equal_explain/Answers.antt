use Rattle.records.proofs.Public.{handed, numbered}
use mathlib.Core.Path.{refl}
use Rattle.records.specs.View.{lent}
use Rattle.wordeq.proofs.Refines.EqualCalls.{explain_unready, explain-unfit, explain-ready, explain_called}
use Rattle.wordeq.proofs.nf_equal_explain.Goals as goal

pub returns-in_err-audit : goal.returns-in_err-audit
returns-in_err-audit c =
    rw (handed _ c.from_residual.ensures.1) (explain_unready _ _ _ _ _ c.in_err-audit.ensures (numbered _))

pub returns-then-not-can_pair : goal.returns-then-not-can_pair
returns-then-not-can_pair c =
    explain-unfit _ _ _ _ _ c.in_ok-audit.ensures refl _ c.can_pair.ensures c.if-not-can_pair.true-raw

pub nf_equal_explain_unchecked-requires-clause-ready : goal.nf_equal_explain_unchecked-requires-clause-ready
nf_equal_explain_unchecked-requires-clause-ready c =
    let by-lent = lent c.args.terms.now c.args.cells.now c.args.chars.now c.args.reasons.now c.args.keys.now in
    explain-ready by-lent c.args.c c.args.lhs.now c.args.rhs.now _ c.in_ok-audit.ensures refl _
    c.can_pair.ensures c.if-not-can_pair.false-raw

pub returns : goal.returns
returns c =
    explain_called _ _ _ _ _ c.in_ok-audit.ensures refl _ c.can_pair.ensures c.if-not-can_pair.false-raw _ _ refl
    c.nf_equal_explain_unchecked.ensures
