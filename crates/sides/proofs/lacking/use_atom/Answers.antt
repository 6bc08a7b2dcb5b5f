use borrow.Author.Tests.{eqb-true, eqb-false}
use mathlib.Core.Path.{refl, sym, ◌∙◌}
use Rattle.sides.proofs.Refines.LackingSides.{use_atom-none, use_atom-is, text-limit}
use Rattle.sides.proofs.lacking.use_atom.Goals as goal

pub use_text-requires : goal.use_text-requires
use_text-requires c =
    text-limit c.args.terms.now c.args.c c.args.a _ c.requires.0 refl (eqb-true _ _ (sym c.is_a.ensures ∙ c.if-is_a.true)) _ _ _ _
    c.first.ensures c.wide-p.ensures c.second.ensures c.wide-n.ensures

pub returns-then-is_a : goal.returns-then-is_a
returns-then-is_a c =
    use_atom-is c.args.terms.now c.args.c c.args.a _ c.requires.0 refl (eqb-true _ _ (sym c.is_a.ensures ∙ c.if-is_a.true)) _ _ _ _
    c.first.ensures c.wide-p.ensures c.second.ensures c.wide-n.ensures _ _ c.requires.1 c.use_text.ensures

pub returns-else-is_a : goal.returns-else-is_a
returns-else-is_a c =
    use_atom-none c.args.terms.now c.args.c c.args.a _ c.requires.0 refl (eqb-false _ _ (sym c.is_a.ensures ∙ c.if-is_a.false)) _
