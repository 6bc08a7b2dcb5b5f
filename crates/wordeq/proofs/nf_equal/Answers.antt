use Rattle.records.proofs.Public.{handed, numbered}
use mathlib.Core.Path.{refl}
use Rattle.records.specs.View.{lent}
use Rattle.wordeq.proofs.Refines.EqualCalls.{equal_unready, equal-unfit, equal_readable, equal-gives}
use Rattle.wordeq.proofs.nf_equal.Goals as goal

pub returns-in_err-audit : goal.returns-in_err-audit
returns-in_err-audit c =
    rw (handed _ c.from_residual.ensures.1) (equal_unready _ _ c.args.lhs.now c.args.rhs.now _ c.in_err-audit.ensures (numbered _))

pub returns-then-not-are_lists : goal.returns-then-not-are_lists
returns-then-not-are_lists c =
    equal-unfit _ _ c.args.lhs.now c.args.rhs.now _ c.in_ok-audit.ensures refl _ c.are_lists.ensures
    c.if-not-are_lists.true-raw

pub nf_equal_unchecked-requires-clause-readable : goal.nf_equal_unchecked-requires-clause-readable
nf_equal_unchecked-requires-clause-readable c =
    let by-lent = lent c.args.terms.now c.args.cells.now c.args.chars.now c.args.reasons.now c.args.keys.now in
    equal_readable by-lent c.args.c c.args.lhs.now c.args.rhs.now _ c.in_ok-audit.ensures refl _
    c.are_lists.ensures c.if-not-are_lists.false-raw

pub returns : goal.returns
returns c =
    equal-gives _ _ c.args.lhs.now c.args.rhs.now _ c.in_ok-audit.ensures refl _ c.are_lists.ensures
    c.if-not-are_lists.false-raw _ c.nf_equal_unchecked.ensures
