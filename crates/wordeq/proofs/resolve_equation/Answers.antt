use mathlib.Core.Path.{refl}
use Rattle.records.proofs.Public.{handed, numbered, cut-asked, passed-ready}
use Rattle.wordeq.proofs.Refines.ResolveCalls.{resolve-short, resolve_unready, resolve-unfit, resolve-ready, resolve_called, undone-resolved}
use Rattle.records.specs.View.{lent}
use Rattle.wordeq.proofs.resolve_equation.Goals as goal

pub returns-then-list-lt-LIST_LIMIT : goal.returns-then-list-lt-LIST_LIMIT
returns-then-list-lt-LIST_LIMIT c =
    resolve-short _ _ _ _ _ c.args.list.now c.if-list-lt-LIST_LIMIT.true

pub returns-in_err-audit : goal.returns-in_err-audit
returns-in_err-audit c =
    rw (handed _ c.from_residual.ensures.1) (resolve_unready _ _ _ _ _ c.args.list.now c.if-list-lt-LIST_LIMIT.false _ c.in_err-audit.ensures (numbered _))

pub returns-then-not-can_resolve : goal.returns-then-not-can_resolve
returns-then-not-can_resolve c =
    resolve-unfit c.args.lhs.now c.args.rhs.now c.args.guard _ _ c.args.list.now c.if-list-lt-LIST_LIMIT.false _ c.in_ok-audit.ensures
    refl c.ranges.guard _ c.can_resolve.ensures c.if-not-can_resolve.true-raw

pub resolve_unchecked-o-requires-clause-ready : goal.resolve_unchecked-o-requires-clause-ready
resolve_unchecked-o-requires-clause-ready c =
    let by-lent = lent c.args.terms.now c.args.cells.now c.args.chars.now c.args.reasons.now c.args.keys.now in
    resolve-ready c.args.lhs.now c.args.rhs.now c.args.guard by-lent c.args.c c.args.list.now c.if-list-lt-LIST_LIMIT.false _
    c.in_ok-audit.ensures refl c.ranges.guard _ c.can_resolve.ensures c.if-not-can_resolve.false-raw

pub cut_refused_unchecked-requires : goal.cut_refused_unchecked-requires
cut_refused_unchecked-requires c =
    let h = cut-asked (passed-ready _ _ _ c.in_ok-audit.ensures refl) c.resolve_unchecked-o.auto.terms in
    record {
      n_le_term_limit = h.0;
      terms_in_bounds = h.1;
    }

pub returns : goal.returns
returns c =
    resolve_called c.args.lhs.now c.args.rhs.now c.args.guard _ _ c.args.list.now c.if-list-lt-LIST_LIMIT.false _
    c.in_ok-audit.ensures refl c.ranges.guard _ c.can_resolve.ensures c.if-not-can_resolve.false-raw
    c.resolve_unchecked-o.ensures (undone-resolved _ _ _ _ _ _ c.cut_refused_unchecked.ensures)
