use Rattle.records.proofs.Public.{handed}
use Rattle.wordeq.proofs.Refines.Propagate.{empties-pairs, empties-done, empties-stop}
use Rattle.sides.proofs.SideReady.{ready_readable}
use Rattle.wordeq.proofs.Refines.SplitAtoms.{no_characters}
use mathlib.Core.Path.{refl}
use Rattle.wordeq.proofs.propagate.empties_unchecked.Goals as goal

pub make_constant_unchecked-requires-clause-c_value : goal.make_constant_unchecked-requires-clause-c_value
make_constant_unchecked-requires-clause-c_value c =
    no_characters

pub returns-in_err-t : goal.returns-in_err-t
returns-in_err-t c =
    rw (handed _ c.from_residual.ensures.1) (empties-stop c.args.side.now c.requires.side_value c.in_err-t.ensures)

pub link_first-requires : goal.link_first-requires
link_first-requires c =
    record {
      readable = ready_readable (c.in_ok-t.ensures.ready _ _ refl);
      every = empties-pairs c.args.side.now c.requires.side_value c.in_ok-t.d c.in_ok-t.ensures c.requires.ready;
    }

pub returns : goal.returns
returns c =
    empties-done c.args.side.now c.requires.side_value c.in_ok-t.d c.in_ok-t.ensures c.link_first.ensures
