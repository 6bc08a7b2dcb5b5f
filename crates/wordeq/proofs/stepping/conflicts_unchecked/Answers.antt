use Rattle.records.proofs.Public.{handed}
use Rattle.wordeq.proofs.Refines.Steps.{lined_read_in, conflicts-found, conflicts-none}
use Rattle.sides.proofs.Trying.{passed_on, both-rises, last_of, else_last, else_refused}
use Rattle.sides.specs.Wordeq.{constants}
use Rattle.wordeq.proofs.stepping.conflicts_unchecked.Goals as goal

pub returns-in_err-o : goal.returns-in_err-o
returns-in_err-o c =
    rw (handed _ c.from_residual.ensures.1) (else_refused (constants c.args.lhs.now c.args.rhs.now) c.in_err-o.ensures)

pub returns-in_default : goal.returns-in_default
returns-in_default c =
    else_last (constants c.args.lhs.now c.args.rhs.now) (last_of c.in_ok-o.o c.in_default.not-Done) c.in_ok-o.ensures

pub constants_unchecked-requires : goal.constants_unchecked-requires
constants_unchecked-requires c =
    lined_read_in (passed_on (both-rises c.args.lhs.now c.args.rhs.now) c.in_ok-o.ensures c.in-Done.is c.requires.both_lists)

pub returns-then-constants_unchecked : goal.returns-then-constants_unchecked
returns-then-constants_unchecked c =
    conflicts-found c.args.lhs.now c.args.rhs.now c.in_ok-o.ensures c.in-Done.is c.constants_unchecked.result
    c.constants_unchecked.ensures c.if-constants_unchecked.true

pub returns-else-constants_unchecked : goal.returns-else-constants_unchecked
returns-else-constants_unchecked c =
    conflicts-none c.args.lhs.now c.args.rhs.now c.in_ok-o.ensures c.in-Done.is c.constants_unchecked.result
    c.constants_unchecked.ensures c.if-constants_unchecked.false
