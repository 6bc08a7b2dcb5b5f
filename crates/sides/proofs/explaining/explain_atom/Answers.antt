use borrow.Author.Tests.{eqb-true, eqb-false}
use mathlib.Core.Path.{refl, sym, ◌∙◌}
use Rattle.sides.proofs.Refines.ExplainingEach.{atom-constant, atom-explained}
use Rattle.sides.proofs.explaining.explain_atom.Goals as goal

pub returns-then-is_a : goal.returns-then-is_a
returns-then-is_a c =
    atom-constant c.args.terms.now c.args.cells.now c.args.chars.now c.args.reasons.now c.args.keys.now
    c.args.c _ _ _ refl c.requires.ready (eqb-true _ _ (sym c.is_a.ensures ∙ c.if-is_a.true))

pub returns : goal.returns
returns c =
    atom-explained c.args.terms.now c.args.cells.now c.args.chars.now c.args.reasons.now c.args.keys.now
    c.args.c _ _ _ refl (eqb-false _ _ (sym c.is_a.ensures ∙ c.if-is_a.false)) c.explain_unchecked.ensures
