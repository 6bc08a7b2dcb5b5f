use Rattle.records.proofs.Public.{handed}
use Rattle.records.proofs.Sequence.{grows-length}
use Rattle.wordeq.proofs.Refines.SplitAtoms.{stays, lengths-sides, lengths-done, lengths-stop, lengths-stop_2}
use mathlib.Core.Path.{refl}
use Rattle.wordeq.proofs.splits.lengths_unchecked.Goals as goal

pub returns-in_err-la : goal.returns-in_err-la
returns-in_err-la c =
    rw (handed _ c.from_residual.ensures.1) (lengths-stop _ _ c.in_err-la.ensures)

pub make_length_unchecked-requires-2 : goal.make_length_unchecked-requires-2
make_length_unchecked-requires-2 c =
    record {
      ready = c.in_ok-la.ensures.ready _ _ refl;
      c_value = stays c.in_ok-la.d (grows-length _) c.in_ok-la.ensures _ c.requires.b_value;
    }

pub returns-in_err-lb : goal.returns-in_err-lb
returns-in_err-lb c =
    rw (handed _ c.from_residual-in_err-lb.ensures.1) (lengths-stop_2 _ _ c.in_ok-la.ensures c.in_err-lb.ensures)

pub make_equation_unchecked-requires : goal.make_equation_unchecked-requires
make_equation_unchecked-requires c =
    record {
      ready = c.in_ok-lb.ensures.ready _ _ refl;
      c_value = lengths-sides _ _ c.in_ok-la.ensures c.in_ok-lb.e c.in_ok-lb.ensures c.requires.ready c.requires.a_value c.requires.b_value;
    }

pub returns : goal.returns
returns c =
    lengths-done _ _ c.in_ok-la.ensures c.in_ok-lb.e c.in_ok-lb.ensures c.make_equation_unchecked.ensures
