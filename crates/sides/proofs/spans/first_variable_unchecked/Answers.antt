use Rattle.sides.proofs.FirstOfKind.{first-variable}
use Rattle.sides.proofs.spans.first_variable_unchecked.Goals as goal

pub returns : goal.returns
returns c =
    first-variable _ _ _ (rw c.from.ensures at c.first_of_kind_unchecked.ensures)
