use lib.Seq.{length-take-le}
use Rattle.equation.proofs.Refines.StepCalls.{form-ready, form_candidates, form-incoming, form-short, form-list, first_part, step-guard, left-fits, right-fits, left-stop, left-none, left-some}
use Rattle.normalize.proofs.FormReady.{known-list, term-string}
use Rattle.records.proofs.Public.{handed}
use mathlib.Core.Path.{sym, ap, ◌∙◌}
use Rattle.sides.specs.Wordeq.{is_guard}
use mir.Syntax.{w32}
use mir.ValLaws.{to_z-of_z}
use native.Mathlib.Omega.{arith}
use Rattle.equation.proofs.step_unchecked.Goals as goal

pub deep_form_by_unchecked-requires-clause-t_value : goal.deep_form_by_unchecked-requires-clause-t_value
deep_form_by_unchecked-requires-clause-t_value c =
    term-string c.requires.ready c.args.known.now _
    (left-fits c.args.known.now c.args.e c.args.guard _ _ c.requires.ready c.requires.c_value _ c.first-a.ensures)

pub returns-in_err-form : goal.returns-in_err-form
returns-in_err-form c =
    rw (handed _ c.from_residual.ensures.1)
    (left-stop c.args.known.now c.args.e c.args.guard _ _ c.requires.ready c.requires.c_value c.first-a.result c.second-b.result c.first-a.ensures c.second-b.ensures c.in_err-form.ensures)

pub slice_bounds-left-end : goal.slice_bounds-left-end
slice_bounds-left-end c =
    let w = rw c.in-Some.is at c.in_ok-form.ensures in
    let h = form-short c.deep_form_by_unchecked.new.list c.args.known.now c.first-a.result c.requires.ready
    (left-fits c.args.known.now c.args.e c.args.guard _ _ c.requires.ready c.requires.c_value _ c.first-a.ensures) c.in-Some.n c.in_ok-form.d w in
    let k = c.deep_form_by_unchecked.auto.list in omega arith

pub slice_bounds-right_form-end : goal.slice_bounds-right_form-end
slice_bounds-right_form-end c =
    let w = rw c.in-Some.is at c.in_ok-form.ensures in
    let h = form-short c.deep_form_by_unchecked.new.list c.args.known.now c.first-a.result c.requires.ready
    (left-fits c.args.known.now c.args.e c.args.guard _ _ c.requires.ready c.requires.c_value _ c.first-a.ensures) c.in-Some.n c.in_ok-form.d w in
    let k = c.deep_form_by_unchecked.auto.list in sym (length-take-le _ c.deep_form_by_unchecked.new.list (omega arith))

pub right_form-requires-clause-ready : goal.right_form-requires-clause-ready
right_form-requires-clause-ready c =
    let fits = left-fits c.args.known.now c.args.e c.args.guard _ _ c.requires.ready c.requires.c_value _ c.first-a.ensures in
    let list = c.deep_form_by_unchecked.new.list in
    let w = rw c.in-Some.is at c.in_ok-form.ensures in (
      form-ready list c.args.known.now c.first-a.result c.requires.ready fits c.in-Some.n c.in_ok-form.d w,
      form_candidates list c.args.known.now c.first-a.result c.requires.ready fits c.in-Some.n c.in_ok-form.d w c.known_table_unchecked-table.ensures,
    )

pub right_form-requires-clause-arguments : goal.right_form-requires-clause-arguments
right_form-requires-clause-arguments c =
    let list = c.deep_form_by_unchecked.new.list in
    let w = rw c.in-Some.is at c.in_ok-form.ensures in
    right-fits c.args.known.now c.args.e c.args.guard _ _ c.requires.ready c.requires.c_value c.first-a.result c.second-b.result c.first-a.ensures c.second-b.ensures list c.in-Some.n c.in_ok-form.d w

pub right_form-requires-clause-lhs_value : goal.right_form-requires-clause-lhs_value
right_form-requires-clause-lhs_value c =
    let fits = left-fits c.args.known.now c.args.e c.args.guard _ _ c.requires.ready c.requires.c_value _ c.first-a.ensures in
    let list = c.deep_form_by_unchecked.new.list in
    let w = rw c.in-Some.is at c.in_ok-form.ensures in
    let short = form-short list c.args.known.now c.first-a.result c.requires.ready fits c.in-Some.n c.in_ok-form.d w in
    form-list list c.args.known.now c.first-a.result c.requires.ready fits c.in-Some.n c.in_ok-form.d w (first_part list _ (let k = c.deep_form_by_unchecked.auto.list in omega arith))

pub right_form-requires-clause-list_limit_in_bounds : goal.right_form-requires-clause-list_limit_in_bounds
right_form-requires-clause-list_limit_in_bounds c =
    let fits = left-fits c.args.known.now c.args.e c.args.guard _ _ c.requires.ready c.requires.c_value _ c.first-a.ensures in
    let list = c.deep_form_by_unchecked.new.list in
    let w = rw c.in-Some.is at c.in_ok-form.ensures in
    (c.requires.list_limit_in_bounds, form-incoming list c.args.known.now c.first-a.result c.requires.ready fits c.in-Some.n c.in_ok-form.d w (omega arith))

pub returns-in-Some : goal.returns-in-Some
returns-in-Some c =
    let fits = left-fits c.args.known.now c.args.e c.args.guard _ _ c.requires.ready c.requires.c_value _ c.first-a.ensures in
    let list = c.deep_form_by_unchecked.new.list in
    let w = rw c.in-Some.is at c.in_ok-form.ensures in
    let short = form-short list c.args.known.now c.first-a.result c.requires.ready fits c.in-Some.n c.in_ok-form.d w in
    left-some c.args.known.now c.args.e c.args.guard _ _ c.requires.ready c.requires.c_value c.first-a.result c.second-b.result c.first-a.ensures c.second-b.ensures list c.in-Some.n c.in_ok-form.d w
    (first_part list _ (let k = c.deep_form_by_unchecked.auto.list in omega arith)) _ (to_z-of_z w32 c.args.guard c.ranges.guard) c.right_form.ensures

pub returns-in-None : goal.returns-in-None
returns-in-None c =
    let w = rw c.in-None.is at c.in_ok-form.ensures in
    left-none c.args.known.now c.args.e c.args.guard _ _ c.requires.ready c.requires.c_value c.first-a.result c.second-b.result c.first-a.ensures c.second-b.ensures c.in_ok-form.d w c.with_reasons.ensures
