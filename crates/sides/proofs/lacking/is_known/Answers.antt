use Rattle.sides.proofs.Refines.LackingPlaces.{seen_here}
use borrow.Author.Tests.{ne_eqb}
use Rattle.sides.proofs.lacking.is_known.Goals as goal

pub returns-then-table-i-ne0 : goal.returns-then-table-i-ne0
returns-then-table-i-ne0 c =
    rw (ne_eqb _ 0 c.if-table-i-ne0.true) (seen_here _ _ _ c.args.i c.requires.2 c.if-table-i-ne0.true)
