use Rattle.records.specs.View.{termed}
use Rattle.wordeq.proofs.Refines.Flattening.{either_left, either_right}
use Rattle.wordeq.proofs.resolving.either_concat.Goals as goal

pub returns-then-has_concat : goal.returns-then-has_concat
returns-then-has_concat c =
    either_left (termed c.args.terms.now c.args.c) c.args.lhs.now c.args.rhs.now _ c.has_concat.ensures
    c.if-has_concat.true

pub returns-else-has_concat : goal.returns-else-has_concat
returns-else-has_concat c =
    either_right (termed c.args.terms.now c.args.c) c.args.lhs.now c.args.rhs.now _ c.has_concat.ensures
    c.if-has_concat.false _ c.has_concat-else-has_concat.ensures
