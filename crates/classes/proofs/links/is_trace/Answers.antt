use Rattle.std.proofs.lemmas.Grind.{common_steps}
use Rattle.std.proofs.Common.{◌≡◌, ◌&&◌, arith}
use mathlib.Core.Path.{◌∙◌}
use Rattle.records.specs.Store.{within}
use Rattle.classes.proofs.Refines.JoinWords.{edged, trace-uncounted, trace-edge, trace-not, trace-last}
use Rattle.classes.proofs.links.is_trace.Goals as goal
use Rattle.classes.proofs.links.is_trace.Goals.{then-is_within-3, else-is_within-3}

pub returns-then-forest_parent-child : goal.returns-then-forest_parent-child
returns-then-forest_parent-child c =
    let s = c.args in
    let v : c.if-is_within.value ≡ (within s.n s.child && within s.n s.old) = grind (arith, common_steps) in
    let w : c.if-is_within-2.value ≡ (within s.n s.child && within s.n s.old && within s.n s.under) = grind (arith, common_steps) in
    let x : c.if-is_within-3.value ≡ edged s.terms.now s.n s.child s.old s.under = elim c.if-is_within-3.branch [
      | then-is_within-3 b ↦ b.value-is ∙ trace-edge s.terms.now s.n s.child s.old s.under _ w b.if-is_within-3.true _ b.forest_parent.ensures
      | else-is_within-3 b ↦ b.value-is ∙ trace-uncounted s.terms.now s.n s.child s.old s.under _ w b.if-is_within-3.false
    ] in
    trace-last s.terms.now s.n s.child s.old s.under _ w _ x c.if-forest_parent-child.true _ c.class_parent.ensures

pub returns-else-forest_parent-child : goal.returns-else-forest_parent-child
returns-else-forest_parent-child c =
    let s = c.args in
    let v : c.if-is_within.value ≡ (within s.n s.child && within s.n s.old) = grind (arith, common_steps) in
    let w : c.if-is_within-2.value ≡ (within s.n s.child && within s.n s.old && within s.n s.under) = grind (arith, common_steps) in
    let x : c.if-is_within-3.value ≡ edged s.terms.now s.n s.child s.old s.under = elim c.if-is_within-3.branch [
      | then-is_within-3 b ↦ b.value-is ∙ trace-edge s.terms.now s.n s.child s.old s.under _ w b.if-is_within-3.true _ b.forest_parent.ensures
      | else-is_within-3 b ↦ b.value-is ∙ trace-uncounted s.terms.now s.n s.child s.old s.under _ w b.if-is_within-3.false
    ] in
    trace-not s.terms.now s.n s.child s.old s.under _ w _ x c.if-forest_parent-child.false
