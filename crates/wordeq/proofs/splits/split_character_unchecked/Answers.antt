use Rattle.records.proofs.Public.{handed}
use Rattle.wordeq.proofs.Refines.SplitAtoms.{stays, grows-empty, characters-done, characters-stop, characters-stop_2}
use mathlib.Core.Path.{refl}
use Rattle.wordeq.proofs.splits.split_character_unchecked.Goals as goal

pub returns-in_err-p : goal.returns-in_err-p
returns-in_err-p c =
    rw (handed _ c.from_residual.ensures.1) (characters-stop _ _ c.in_err-p.ensures)

pub character_unchecked-requires-clause-ready : goal.character_unchecked-requires-clause-ready
character_unchecked-requires-clause-ready c =
    c.in_ok-p.ensures.ready _ _ refl

pub character_unchecked-requires-clause-v_value : goal.character_unchecked-requires-clause-v_value
character_unchecked-requires-clause-v_value c =
    stays c.in_ok-p.d (grows-empty _) c.in_ok-p.ensures _ c.requires.v_value

pub returns-in_err-q : goal.returns-in_err-q
returns-in_err-q c =
    rw (handed _ c.from_residual-in_err-q.ensures.1) (characters-stop_2 _ _ c.in_ok-p.ensures c.in_err-q.ensures)

pub returns : goal.returns
returns c =
    characters-done _ _ c.in_ok-p.ensures c.in_ok-q.e c.in_ok-q.ensures c.args.list.now c.requires.in_bounds
