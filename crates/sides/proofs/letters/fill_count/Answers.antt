use borrow.Author.Tests.{eqb-true}
use mathlib.Core.Path.{refl, sym, ◌∙◌}
use Rattle.sides.proofs.Refines.TileWalk.{count-constant}
use Rattle.sides.proofs.letters.fill_count.Goals as goal

pub returns-then-is_a : goal.returns-then-is_a
returns-then-is_a c =
    count-constant _ _ _ _ _ _ _ refl (eqb-true _ _ (sym c.is_a.ensures ∙ c.if-is_a.true)) c.requires c.second.ensures c.wide.ensures
