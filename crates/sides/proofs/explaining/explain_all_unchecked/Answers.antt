use mathlib.Core.Path.{sym, ◌∙◌}
use borrow.Author.Tests.{eqb-true}
use Rattle.sides.proofs.Refines.ExplainingEach.{citing-none, citing-end, citing-pair, citing-class, citing-refused, citing-turn}
use Rattle.records.proofs.Public.{handed}
use native.Mathlib.Omega.{arith}
use Rattle.sides.proofs.explaining.explain_all_unchecked.Goals as goal

pub returns-then-is_empty : goal.returns-then-is_empty
returns-then-is_empty c =
    citing-end c.args.terms.now c.args.cells.now c.args.chars.now c.args.keys.now c.args.side.now
    c.args.v
    (citing-none c.args.terms.now c.args.cells.now c.args.chars.now c.args.keys.now c.args.side.now
    c.args.v c.requires.ready)
    (let z = eqb-true _ 0 (sym c.is_empty.ensures ∙ c.if-is_empty.true) in omega arith)

pub loop-u-init : goal.loop-u-init
loop-u-init c =
    citing-none c.args.terms.now c.args.cells.now c.args.chars.now c.args.keys.now c.args.side.now
    c.args.v c.requires.ready

pub explain_atom-requires-clause-pair : goal.explain_atom-requires-clause-pair
explain_atom-requires-clause-pair c =
    citing-pair c.args.terms.now c.args.cells.now c.args.chars.now c.args.keys.now c.args.side.now
    c.args.v c.loop-u.invariant c.loop-u-test.true c.requires.pairs c.requires.one_class

pub explain_atom-requires-clause-one_class : goal.explain_atom-requires-clause-one_class
explain_atom-requires-clause-one_class c =
    citing-class c.args.terms.now c.args.cells.now c.args.chars.now c.args.keys.now c.args.side.now
    c.args.v c.loop-u.invariant c.loop-u-test.true c.requires.pairs c.requires.one_class

pub returns-in_err-d : goal.returns-in_err-d
returns-in_err-d c =
    rw (handed _ c.from_residual.ensures.1)
    (citing-refused c.args.terms.now c.args.cells.now c.args.chars.now c.args.keys.now c.args.side.now
    c.args.v c.loop-u.invariant c.loop-u-test.true c.requires.pairs c.requires.one_class _ _ c.in_err-d.ensures)

pub loop-u-preserved : goal.loop-u-preserved
loop-u-preserved c =
    citing-turn c.args.terms.now c.args.cells.now c.args.chars.now c.args.keys.now c.args.side.now
    c.args.v c.loop-u.invariant c.loop-u-test.true c.requires.pairs c.requires.one_class _ _ c.in_ok-d.ensures

pub returns : goal.returns
returns c =
    citing-end c.args.terms.now c.args.cells.now c.args.chars.now c.args.keys.now c.args.side.now
    c.args.v c.loop-u.invariant c.loop-u-test.false
