use borrow.Author.Tests.{eqb-true, eqb-false, not-true, not-false}
use mathlib.Core.Path.{refl, sym, ◌∙◌}
use Rattle.sides.proofs.Refines.LackingSides.{lack-atom-none, lack-atom-is, text-fits}
use Rattle.sides.proofs.lacking.lacks_atom.Goals as goal

pub returns-then-not-is_a : goal.returns-then-not-is_a
returns-then-not-is_a c =
    lack-atom-none c.args.terms.now c.args.c c.args.a _ c.requires.0.texts refl (eqb-false _ _ (sym c.is_a.ensures ∙ not-true _ c.if-not-is_a.true-raw)) _ _

pub lacks_text-requires : goal.lacks_text-requires
lacks_text-requires c = (
  c.requires.0.room,
  c.requires.0.texts.limited,
  text-fits c.args.terms.now c.args.c c.args.a _ c.requires.0.texts refl (eqb-true _ _ (sym c.is_a.ensures ∙ not-false _ c.if-not-is_a.false-raw)) _ _ _ _
      c.first.ensures c.wide-p.ensures c.second.ensures c.wide-k.ensures,
  c.requires.1,
)

pub returns : goal.returns
returns c =
    lack-atom-is c.args.terms.now c.args.c c.args.a _ c.requires.0.texts refl (eqb-true _ _ (sym c.is_a.ensures ∙ not-false _ c.if-not-is_a.false-raw)) _ _ _ _
    c.first.ensures c.wide-p.ensures c.second.ensures c.wide-k.ensures _ _ _ _ c.lacks_text.ensures
