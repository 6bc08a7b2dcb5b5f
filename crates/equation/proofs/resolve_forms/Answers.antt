use mir.Val.{to_z, of_z}
use mir.ValLaws.{to_z-of_z}
use mir.Syntax.{w32}
use Rattle.sides.specs.Wordeq.{is_guard}
use mathlib.Core.Path.{ap, ◌∙◌}
use Rattle.records.proofs.Public.{handed}
use Rattle.equation.proofs.Refines.StepCalls.{forms-refused, forms_resolved}
use Rattle.equation.proofs.resolve_forms.Goals as goal

pub returns-in_err-o : goal.returns-in_err-o
returns-in_err-o c =
    rw (handed _ c.from_residual.ensures.1)
    (forms-refused c.args.lhs.now c.args.rhs.now c.args.guard (to_z w32 (of_z w32 c.args.guard)) _ (to_z-of_z w32 c.args.guard c.ranges.guard) c.in_err-o.ensures)

pub returns : goal.returns
returns c =
    forms_resolved c.args.lhs.now c.args.rhs.now c.resolve_unchecked.new.list c.args.guard
    (to_z w32 (of_z w32 c.args.guard)) c.args.incoming c.in_ok-o.o _ c.requires.ready c.requires.both_lists c.requires.list_limit_in_bounds.1
    (to_z-of_z w32 c.args.guard c.ranges.guard) c.in_ok-o.ensures c.carried.ensures
