use Rattle.records.specs.View.{termed}
use Rattle.sides.proofs.FirstOfKind.{fixed-kind}
use Rattle.sides.proofs.letters.is_fixed.Goals as goal

pub returns : goal.returns
returns c =
    fixed-kind (termed c.args.terms.now c.args.c) c.args.l.now _ (rw c.from.ensures at c.first_of_kind_unchecked.ensures)
