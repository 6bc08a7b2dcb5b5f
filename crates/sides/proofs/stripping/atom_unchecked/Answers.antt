use Rattle.sides.proofs.FrontOrEnd.{read_first, read-last}
use Rattle.sides.proofs.stripping.atom_unchecked.Goals as goal

pub returns-then-tail : goal.returns-then-tail
returns-then-tail c =
    read-last c.args.tail c.args.l.now c.args.i c.if-tail.true c.requires

pub returns-else-tail : goal.returns-else-tail
returns-else-tail c =
    read_first c.args.tail c.args.l.now c.args.i c.if-tail.false
