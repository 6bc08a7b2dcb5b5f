use Rattle.records.proofs.Public.{handed}
use Rattle.wordeq.proofs.Refines.SplitAtoms.{stays, grows_prefix, prefixes_done, prefixes_stop, prefixes_stop_2}
use mathlib.Core.Path.{refl}
use Rattle.wordeq.proofs.splits.put_prefixes.Goals as goal

pub returns-in_err-q : goal.returns-in_err-q
returns-in_err-q c =
    rw (handed _ c.from_residual.ensures.1) (prefixes_stop _ _ _ c.in_err-q.ensures)

pub prefix_unchecked-requires-2 : goal.prefix_unchecked-requires-2
prefix_unchecked-requires-2 c =
    record {
      ready = c.in_ok-q.ensures.ready _ _ refl;
      v_value = stays c.in_ok-q.d (grows_prefix _ _) c.in_ok-q.ensures _ c.requires.b_value;
      h_value = stays c.in_ok-q.d (grows_prefix _ _) c.in_ok-q.ensures _ c.requires.a_value;
    }

pub returns-in_err-u : goal.returns-in_err-u
returns-in_err-u c =
    rw (handed _ c.from_residual-in_err-u.ensures.1) (prefixes_stop_2 _ _ _ c.in_ok-q.ensures c.in_err-u.ensures)

pub returns : goal.returns
returns c =
    prefixes_done _ _ _ c.in_ok-q.ensures c.in_ok-u.e c.in_ok-u.ensures c.args.list.now c.requires.in_bounds
