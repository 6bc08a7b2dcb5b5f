use Rattle.records.proofs.Public.{handed}
use Rattle.sides.specs.Wordeq.{occurs}
use Rattle.sides.proofs.Trying.{passed_on, occurs-rises, last_of, else_last, else_refused, else_tries}
use Rattle.sides.proofs.occurring.occurs_unchecked.Goals as goal

pub returns-in_err-o : goal.returns-in_err-o
returns-in_err-o c =
    rw (handed _ c.from_residual.ensures.1) (else_refused (occurs c.args.rhs.now c.args.lhs.now) c.in_err-o.ensures)

pub returns-in_default : goal.returns-in_default
returns-in_default c =
    else_last (occurs c.args.rhs.now c.args.lhs.now) (last_of c.in_ok-o.o c.in_default.not-Done) c.in_ok-o.ensures

pub occurs_in-requires-2 : goal.occurs_in-requires-2
occurs_in-requires-2 c =
    let x = passed_on (occurs-rises c.args.lhs.now c.args.rhs.now) c.in_ok-o.ensures c.in-Done.is
    c.requires.both_lists in
    record {
      ready = x.ready;
      both_lists = record { left = x.lists.right; right = x.lists.left };
    }

pub returns : goal.returns
returns c =
    else_tries (occurs-rises c.args.lhs.now c.args.rhs.now) c.in_ok-o.ensures c.in-Done.is c.occurs_in-2.ensures
