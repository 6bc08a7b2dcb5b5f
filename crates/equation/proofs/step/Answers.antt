use mathlib.Core.Path.{refl}
use Rattle.records.proofs.Public.{handed, numbered, cut-asked, passed-ready}
use mir.ValLaws.{to_z-of_z}
use mir.Syntax.{w32}
use Rattle.equation.proofs.Refines.StepCalls.{call-short, call_unready, call-unfit, call-ready, call-fit, call-steps, undone-stepped}
use Rattle.equation.proofs.step.Goals as goal

pub returns-then-list-lt-LIST_LIMIT : goal.returns-then-list-lt-LIST_LIMIT
returns-then-list-lt-LIST_LIMIT c =
    call-short c.args.known.now c.args.e c.args.guard _ _ c.args.list.now c.if-list-lt-LIST_LIMIT.true

pub returns-in_err-audit : goal.returns-in_err-audit
returns-in_err-audit c =
    rw (handed _ c.from_residual.ensures.1)
    (call_unready c.args.known.now c.args.e c.args.guard _ _ c.args.list.now c.if-list-lt-LIST_LIMIT.false _ c.in_err-audit.ensures (numbered _))

pub returns-then-not-can_step : goal.returns-then-not-can_step
returns-then-not-can_step c =
    call-unfit c.args.known.now c.args.e c.args.guard _ _ c.args.list.now c.if-list-lt-LIST_LIMIT.false _ c.in_ok-audit.ensures
    refl _ (to_z-of_z w32 c.args.guard c.ranges.guard) _ c.can_step.ensures c.if-not-can_step.true-raw

pub step_unchecked-o-requires-clause-ready : goal.step_unchecked-o-requires-clause-ready
step_unchecked-o-requires-clause-ready c =
    call-ready c.args.known.now c.args.e c.args.guard _ _ c.args.list.now c.if-list-lt-LIST_LIMIT.false _ c.in_ok-audit.ensures
    refl _ (to_z-of_z w32 c.args.guard c.ranges.guard) _ c.can_step.ensures c.if-not-can_step.false-raw

pub cut_refused_unchecked-requires : goal.cut_refused_unchecked-requires
cut_refused_unchecked-requires c =
    let h = cut-asked (passed-ready _ _ _ c.in_ok-audit.ensures refl) c.step_unchecked-o.auto.terms in
    record {
      n_le_term_limit = h.0;
      terms_in_bounds = h.1;
    }

pub returns : goal.returns
returns c =
    call-steps c.args.known.now c.args.e c.args.guard _ _ c.args.list.now c.if-list-lt-LIST_LIMIT.false _ c.in_ok-audit.ensures
    refl _ (to_z-of_z w32 c.args.guard c.ranges.guard) _ c.can_step.ensures c.if-not-can_step.false-raw
    c.step_unchecked-o.ensures (undone-stepped _ _ _ _ _ _ c.cut_refused_unchecked.ensures)
