use lib.Seq.{length-take-le}
use Rattle.equation.proofs.Refines.StepCalls.{form-ready, form-incoming, form-short, form-list, form-keeps, first_part, right-stop, right-none, right-some}
use Rattle.normalize.proofs.FormReady.{term-string}
use Rattle.records.proofs.Public.{handed}
use mathlib.Core.Path.{sym, ap, ◌∙◌}
use Rattle.sides.specs.Wordeq.{is_guard}
use mir.Syntax.{w32}
use mir.ValLaws.{to_z-of_z}
use native.Mathlib.Omega.{arith}
use Rattle.equation.proofs.right_form.Goals as goal

pub returns-in_err-form : goal.returns-in_err-form
returns-in_err-form c =
    rw (handed _ c.from_residual.ensures.1) (right-stop c.args.known.now c.args.t c.args.incoming c.args.guard c.args.lhs.now c.in_err-form.ensures)

pub slice_bounds-right-end : goal.slice_bounds-right-end
slice_bounds-right-end c =
    let w = rw c.in-Some.is at c.in_ok-form.ensures in
    let h = form-short c.deep_form_by_unchecked.new.list c.args.known.now c.args.t c.requires.ready.0 c.requires.arguments c.in-Some.n c.in_ok-form.both w in
    let k = c.deep_form_by_unchecked.auto.list in omega arith

pub slice_bounds-resolve_forms-end : goal.slice_bounds-resolve_forms-end
slice_bounds-resolve_forms-end c =
    let w = rw c.in-Some.is at c.in_ok-form.ensures in
    let h = form-short c.deep_form_by_unchecked.new.list c.args.known.now c.args.t c.requires.ready.0 c.requires.arguments c.in-Some.n c.in_ok-form.both w in
    let k = c.deep_form_by_unchecked.auto.list in sym (length-take-le _ c.deep_form_by_unchecked.new.list (omega arith))

pub resolve_forms-requires-clause-ready : goal.resolve_forms-requires-clause-ready
resolve_forms-requires-clause-ready c =
    let list = c.deep_form_by_unchecked.new.list in
    let w = rw c.in-Some.is at c.in_ok-form.ensures in
    form-ready list c.args.known.now c.args.t c.requires.ready.0 c.requires.arguments c.in-Some.n c.in_ok-form.both w

pub resolve_forms-requires-clause-both_lists : goal.resolve_forms-requires-clause-both_lists
resolve_forms-requires-clause-both_lists c =
    let list = c.deep_form_by_unchecked.new.list in
    let w = rw c.in-Some.is at c.in_ok-form.ensures in
    let short = form-short list c.args.known.now c.args.t c.requires.ready.0 c.requires.arguments c.in-Some.n c.in_ok-form.both w in
    record {
      left = form-keeps list c.args.known.now c.args.t c.requires.ready.0 c.requires.arguments c.in-Some.n c.in_ok-form.both w c.args.lhs.now c.requires.lhs_value;
      right = form-list list c.args.known.now c.args.t c.requires.ready.0 c.requires.arguments c.in-Some.n c.in_ok-form.both w (first_part list _ (let k = c.deep_form_by_unchecked.auto.list in omega arith));
    }

pub resolve_forms-requires-clause-list_limit_in_bounds : goal.resolve_forms-requires-clause-list_limit_in_bounds
resolve_forms-requires-clause-list_limit_in_bounds c =
    let list = c.deep_form_by_unchecked.new.list in
    let w = rw c.in-Some.is at c.in_ok-form.ensures in
    (c.requires.list_limit_in_bounds.0, form-incoming list c.args.known.now c.args.t c.requires.ready.0 c.requires.arguments c.in-Some.n c.in_ok-form.both w c.requires.list_limit_in_bounds.1)

pub returns-in-Some : goal.returns-in-Some
returns-in-Some c =
    let list = c.deep_form_by_unchecked.new.list in
    let w = rw c.in-Some.is at c.in_ok-form.ensures in
    let short = form-short list c.args.known.now c.args.t c.requires.ready.0 c.requires.arguments c.in-Some.n c.in_ok-form.both w in
    right-some c.args.known.now c.args.t c.args.incoming c.args.guard c.args.lhs.now c.requires.list_limit_in_bounds.1 c.requires.ready.0 c.requires.arguments c.in_ok-form.both list c.in-Some.n w
    (first_part list _ (let k = c.deep_form_by_unchecked.auto.list in omega arith)) _ (to_z-of_z w32 c.args.guard c.ranges.guard) c.resolve_forms.ensures

pub returns-in-None : goal.returns-in-None
returns-in-None c =
    let w = rw c.in-None.is at c.in_ok-form.ensures in
    right-none c.args.known.now c.args.t c.args.incoming c.args.guard c.args.lhs.now c.requires.list_limit_in_bounds.1 c.requires.ready.0 c.requires.arguments c.in_ok-form.both w c.with_reasons.ensures
