use Rattle.records.proofs.Public.{handed}
use Rattle.wordeq.proofs.Refines.SplitAtoms.{prefix_parts, prefix_sides, prefix_done, prefix_stop, prefix_stop_2}
use mathlib.Core.Path.{refl}
use Rattle.wordeq.proofs.splits.prefix_unchecked.Goals as goal

pub returns-in_err-z : goal.returns-in_err-z
returns-in_err-z c =
    rw (handed _ c.from_residual.ensures.1) (prefix_stop _ _ c.in_err-z.ensures)

pub make_concatenation_unchecked-requires : goal.make_concatenation_unchecked-requires
make_concatenation_unchecked-requires c =
    record {
      ready = c.in_ok-z.ensures.ready _ _ refl;
      c_value = prefix_parts c.in_ok-z.d _ c.requires.ready c.requires.h_value c.in_ok-z.ensures;
    }

pub returns-in_err-t : goal.returns-in_err-t
returns-in_err-t c =
    rw (handed _ c.from_residual-in_err-t.ensures.1) (prefix_stop_2 _ _ c.in_ok-z.ensures c.in_err-t.ensures)

pub make_equation_unchecked-requires : goal.make_equation_unchecked-requires
make_equation_unchecked-requires c =
    record {
      ready = c.in_ok-t.ensures.ready _ _ refl;
      c_value = prefix_sides c.in_ok-z.d _ c.requires.ready c.requires.h_value c.in_ok-z.ensures _ c.requires.v_value c.in_ok-t.e c.in_ok-t.ensures;
    }

pub returns : goal.returns
returns c =
    prefix_done _ _ c.in_ok-z.ensures c.in_ok-t.ensures c.make_equation_unchecked.ensures
