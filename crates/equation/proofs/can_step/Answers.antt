use Rattle.std.proofs.Common.{rules, ◌≡◌, Bool, ◌&&◌, ◌∙◌, sym, ap}
use mir.ValLaws.{to_z-of_z}
use mir.Syntax.{w32}
use Rattle.records.specs.Store.{term, is_equation, is_string}
use Rattle.records.specs.Rules.{is_list}
use Rattle.records.specs.View.{termed}
use Rattle.records.proofs.Lists.{and-next, and-stop}
use Rattle.sides.specs.Wordeq.{is_guard}
use Rattle.equation.proofs.Refines.StepCalls.{equation-first}
use Rattle.equation.proofs.can_step.Goals as goal
use Rattle.equation.proofs.can_step.Goals.{then-is_a, else-is_a}

pub returns-then-is_string : goal.returns-then-is_string
returns-then-is_string c =
    let s = termed c.args.terms.now c.args.c in
    let x : c.if-is_list.value ≡ (is_list s c.args.known.now && is_equation s c.args.e) = search rules in
    let y : c.if-is_a.value ≡ (c.if-is_list.value && is_string s (term s c.args.e).first) =
    elim c.if-is_a.branch [
      | then-is_a w ↦ equation-first c.args.terms.now c.args.c c.args.known.now c.args.e c.if-is_list.value x w.if-is_a.true w.first.result w.first.ensures _ (w.value-is ∙ w.is_string.ensures)
      | else-is_a w ↦ search rules
    ] in
    and-next _ (is_guard c.args.guard) _ (sym (y ∙ ap (λ (b : Bool). b && is_string s (term s c.args.e).first) x) ∙ c.if-is_string.true) (c.is_guard.ensures ∙ ap is_guard (to_z-of_z w32 c.args.guard c.ranges.guard))

pub returns-else-is_string : goal.returns-else-is_string
returns-else-is_string c =
    let s = termed c.args.terms.now c.args.c in
    let x : c.if-is_list.value ≡ (is_list s c.args.known.now && is_equation s c.args.e) = search rules in
    let y : c.if-is_a.value ≡ (c.if-is_list.value && is_string s (term s c.args.e).first) =
    elim c.if-is_a.branch [
      | then-is_a w ↦ equation-first c.args.terms.now c.args.c c.args.known.now c.args.e c.if-is_list.value x w.if-is_a.true w.first.result w.first.ensures _ (w.value-is ∙ w.is_string.ensures)
      | else-is_a w ↦ search rules
    ] in
    c.if-is_string.false ∙ and-stop _ _ (sym (y ∙ ap (λ (b : Bool). b && is_string s (term s c.args.e).first) x) ∙ c.if-is_string.false)
