use Rattle.engine.proofs.Refines.Starts.{explained-by, explainable_walk}
use native.Mathlib.Omega.{arith}
use Rattle.engine.proofs.explain_tabled.Goals as goal

pub explain_rec-requires : goal.explain_rec-requires
explain_rec-requires c =
    explainable_walk _ _ _ _ _ _ _ 31 49 (omega arith) (omega arith) (omega arith) c.requires.1

pub explain_rec-requires-in-32-to-127 : goal.explain_rec-requires-in-32-to-127
explain_rec-requires-in-32-to-127 c =
    explainable_walk _ _ _ _ _ _ _ 127 386 (omega arith) (omega arith) (omega arith) c.requires.1

pub explain_rec-requires-in-128-to-256 : goal.explain_rec-requires-in-128-to-256
explain_rec-requires-in-128-to-256 c =
    explainable_walk _ _ _ _ _ _ _ 256 1294 (omega arith) (omega arith) (omega arith) c.requires.1

pub explain_rec-requires-in_default : goal.explain_rec-requires-in_default
explain_rec-requires-in_default c =
    explainable_walk _ _ _ _ _ _ _ 512 4634 c.requires.0 (omega arith) (omega arith) c.requires.1

pub returns-in-0-to-31 : goal.returns-in-0-to-31
returns-in-0-to-31 c =
    explained-by _ _ _ _ _ _ _ _ _ _ 49 _ c.explain_rec.ensures

pub returns-in-32-to-127 : goal.returns-in-32-to-127
returns-in-32-to-127 c =
    explained-by _ _ _ _ _ _ _ _ _ _ 386 _ c.explain_rec-in-32-to-127.ensures

pub returns-in-128-to-256 : goal.returns-in-128-to-256
returns-in-128-to-256 c =
    explained-by _ _ _ _ _ _ _ _ _ _ 1294 _ c.explain_rec-in-128-to-256.ensures

pub returns-in_default : goal.returns-in_default
returns-in_default c =
    explained-by _ _ _ _ _ _ _ _ _ _ 4634 _ c.explain_rec-in_default.ensures
