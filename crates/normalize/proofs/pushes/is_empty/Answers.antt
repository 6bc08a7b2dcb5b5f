use Rattle.normalize.proofs.Refines.Pushing.{empty-other, empty_constant}
use Rattle.normalize.proofs.pushes.is_empty.Goals as goal

pub returns-then-is_a : goal.returns-then-is_a
returns-then-is_a c =
    empty_constant c.args.terms.now _ _ _ _ c.is_a.ensures c.if-is_a.true c.second.ensures

pub returns-else-is_a : goal.returns-else-is_a
returns-else-is_a c =
    empty-other _ _ _ c.is_a.ensures c.if-is_a.false
