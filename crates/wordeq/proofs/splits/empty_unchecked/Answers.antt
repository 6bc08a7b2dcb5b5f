use Rattle.records.proofs.Public.{handed}
use Rattle.wordeq.proofs.Refines.SplitAtoms.{no_characters, empty-sides, empty-done, empty-stop}
use mathlib.Core.Path.{refl}
use Rattle.wordeq.proofs.splits.empty_unchecked.Goals as goal

pub make_constant_unchecked-requires-clause-c_value : goal.make_constant_unchecked-requires-clause-c_value
make_constant_unchecked-requires-clause-c_value c =
    no_characters

pub returns-in_err-t : goal.returns-in_err-t
returns-in_err-t c =
    rw (handed _ c.from_residual.ensures.1) (empty-stop _ c.in_err-t.ensures)

pub make_equation_unchecked-requires : goal.make_equation_unchecked-requires
make_equation_unchecked-requires c =
    record {
      ready = c.in_ok-t.ensures.ready _ _ refl;
      c_value = empty-sides _ c.in_ok-t.d c.in_ok-t.ensures c.requires.ready c.requires.v_value;
    }

pub returns : goal.returns
returns c =
    empty-done _ c.in_ok-t.d c.in_ok-t.ensures c.make_equation_unchecked.ensures
