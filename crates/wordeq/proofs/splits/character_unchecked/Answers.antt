use Rattle.records.proofs.Public.{handed}
use Rattle.records.proofs.Sequence.{grows-constant}
use Rattle.wordeq.proofs.Refines.SplitAtoms.{stays, one-character, character-string, character-done, character-stop}
use mathlib.Core.Path.{refl}
use Rattle.wordeq.proofs.splits.character_unchecked.Goals as goal

pub make_constant_unchecked-requires-clause-c_value : goal.make_constant_unchecked-requires-clause-c_value
make_constant_unchecked-requires-clause-c_value c =
    one-character _ c.requires.ch_value

pub returns-in_err-h : goal.returns-in_err-h
returns-in_err-h c =
    rw (handed _ c.from_residual.ensures.1) (character-stop _ _ c.in_err-h.ensures)

pub prefix_unchecked-requires : goal.prefix_unchecked-requires
prefix_unchecked-requires c =
    record {
      ready = c.in_ok-h.ensures.ready _ _ refl;
      v_value = stays c.in_ok-h.d (grows-constant _) c.in_ok-h.ensures _ c.requires.v_value;
      h_value = character-string c.in_ok-h.d _ c.requires.ready c.requires.ch_value c.in_ok-h.ensures;
    }

pub returns : goal.returns
returns c =
    character-done _ _ c.in_ok-h.ensures c.prefix_unchecked.ensures
