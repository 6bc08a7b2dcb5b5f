use Rattle.records.proofs.Public.{handed}
use Rattle.wordeq.proofs.Refines.SplitAtoms.{stays, grows-lengths, heads_done, heads-stop}
use mathlib.Core.Path.{refl}
use Rattle.wordeq.proofs.splits.split_heads_unchecked.Goals as goal

pub returns-in_err-p : goal.returns-in_err-p
returns-in_err-p c =
    rw (handed _ c.from_residual.ensures.1) (heads-stop _ _ c.in_err-p.ensures)

pub put_prefixes-requires-clause-ready : goal.put_prefixes-requires-clause-ready
put_prefixes-requires-clause-ready c =
    c.in_ok-p.ensures.ready _ _ refl

pub put_prefixes-requires-clause-a_value : goal.put_prefixes-requires-clause-a_value
put_prefixes-requires-clause-a_value c =
    stays c.in_ok-p.d (grows-lengths _ _) c.in_ok-p.ensures _ c.requires.a_value

pub put_prefixes-requires-clause-b_value : goal.put_prefixes-requires-clause-b_value
put_prefixes-requires-clause-b_value c =
    stays c.in_ok-p.d (grows-lengths _ _) c.in_ok-p.ensures _ c.requires.b_value

pub returns : goal.returns
returns c =
    heads_done _ _ c.in_ok-p.ensures c.put_prefixes.ensures
