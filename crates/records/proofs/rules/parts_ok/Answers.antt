use mathlib.Core.Path.{◌≡◌, sym, ap, ◌∙◌}
use lib.Dec.{leb}
use native.Mathlib.Omega.{arith}
use Rattle.records.proofs.Refines.RuleLaws.{walk_start, walk_over, walk_end, walk_stop, walk_turn}
use Rattle.records.proofs.rules.parts_ok.Goals as goal

pub loop-i-init : goal.loop-i-init
loop-i-init c =
    let a = c.args in walk_start a.terms.now a.cells.now a.c a.t a.f

pub returns-then-not-is_within : goal.returns-then-not-is_within
returns-then-not-is_within c =
    let a = c.args in walk_end a.terms.now a.cells.now a.c a.t a.f _ _ c.loop-i.invariant _ c.is_within.ensures c.if-not-is_within.true

pub returns-then-not-part_ok : goal.returns-then-not-part_ok
returns-then-not-part_ok c =
    let a = c.args in
    walk_stop a.terms.now a.cells.now a.c a.t a.f _ _ c.loop-i.invariant _ c.is_within.ensures c.if-not-is_within.false c.loop-i-test.true
    _ c.part_ok.ensures c.if-not-part_ok.true

pub loop-i-preserved : goal.loop-i-preserved
loop-i-preserved c =
    let a = c.args in
    walk_turn a.terms.now a.cells.now a.c a.t a.f _ _ c.loop-i.invariant _ c.is_within.ensures c.if-not-is_within.false c.loop-i-test.true _
    c.part_ok.ensures c.if-not-part_ok.false _ c.next-at.ensures

pub returns : goal.returns
returns c =
    let a = c.args in
    let e : c.loop-i.i ≡ a.c.cells = omega arith in
    let w = walk_over a.terms.now a.cells.now a.c a.t a.f _ _ c.loop-i.invariant (omega arith) in ap (leb 2) (sym e) ∙ w
