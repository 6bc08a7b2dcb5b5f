use borrow.Author.Rules.{rules}
use Rattle.sides.specs.Wordeq.{unequal, fixed}
use Rattle.sides.proofs.Refines.SideUnequal.{unequal-is}
use Rattle.sides.proofs.letters.unequal.Goals as goal
use Rattle.sides.proofs.letters.unequal.Goals.{then-is_fixed, else-is_fixed}

pub returns-then-is_fixed-2 : goal.returns-then-is_fixed-2
returns-then-is_fixed-2 c =
    elim c.if-is_fixed.branch [ then-is_fixed w ↦ unequal-is c.args.terms.now c.args.chars.now c.args.c c.args.l.now c.args.r.now (cc) (cc) _ _ c.is_tiled.ensures | else-is_fixed w ↦ cc ]

pub returns-else-is_fixed-2 : goal.returns-else-is_fixed-2
unfolding unequal fixed
returns-else-is_fixed-2 c = search rules
