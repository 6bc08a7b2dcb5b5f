use mathlib.Core.Path.{refl}
use Rattle.records.proofs.Public.{cut-asked, handed, numbered, passed-ready}
use Rattle.normalize.proofs.Refines.FormCalls.{form-short, form_unready, form-unfit, form-ready, form_called, undone-form}
use Rattle.normalize.proofs.normal_form_cited.Goals as goal

pub returns-then-list-lt-LIST_LIMIT : goal.returns-then-list-lt-LIST_LIMIT
returns-then-list-lt-LIST_LIMIT c =
    form-short _ _ _ _ c.args.list.now c.if-list-lt-LIST_LIMIT.true

pub returns-in_err-audit : goal.returns-in_err-audit
returns-in_err-audit c =
    rw (handed _ c.from_residual.ensures.1)
    (form_unready _ _ _ _ c.args.list.now c.if-list-lt-LIST_LIMIT.false _ c.in_err-audit.ensures (numbered _))

pub returns-then-not-can_form : goal.returns-then-not-can_form
returns-then-not-can_form c =
    form-unfit _ _ _ _ c.args.list.now c.if-list-lt-LIST_LIMIT.false _ c.in_ok-audit.ensures refl _ c.can_form.ensures c.if-not-can_form.true

pub normal_form_cited_unchecked-x-requires-clause-ready : goal.normal_form_cited_unchecked-x-requires-clause-ready
normal_form_cited_unchecked-x-requires-clause-ready c =
    form-ready c.args.known.now c.args.t _ _ c.args.list.now c.if-list-lt-LIST_LIMIT.false _ c.in_ok-audit.ensures refl _
    c.can_form.ensures c.if-not-can_form.false

pub cut_refused_unchecked-requires-clause-n_le_term_limit : goal.cut_refused_unchecked-requires-clause-n_le_term_limit
cut_refused_unchecked-requires-clause-n_le_term_limit c =
    let h = cut-asked (passed-ready _ _ _ c.in_ok-audit.ensures refl) c.normal_form_cited_unchecked-x.auto.terms in
    h.0

pub cut_refused_unchecked-requires-clause-terms_in_bounds : goal.cut_refused_unchecked-requires-clause-terms_in_bounds
cut_refused_unchecked-requires-clause-terms_in_bounds c =
    let h = cut-asked (passed-ready _ _ _ c.in_ok-audit.ensures refl) c.normal_form_cited_unchecked-x.auto.terms in
    h.1

pub returns : goal.returns
returns c =
    form_called _ _ _ _ c.args.list.now c.if-list-lt-LIST_LIMIT.false _ c.in_ok-audit.ensures refl _ c.can_form.ensures c.if-not-can_form.false
    c.normal_form_cited_unchecked-x.ensures (undone-form _ _ _ _ _ _ c.cut_refused_unchecked.ensures)
