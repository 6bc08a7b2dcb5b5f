use Rattle.records.specs.Working.Leaves.{class_test}
use Rattle.records.specs.Working.ClimbEnds.{Kept}
use Rattle.records.specs.View.{termed}
use Rattle.records.proofs.Lists.{UpTo}
use Rattle.records.proofs.roots.classes_many.Given as goal

abbrev pub invariant-loop-t : goal.invariant-loop-t
invariant-loop-t l = UpTo (class_test (termed l.terms l.c)) l.t × Kept (termed l.terms l.c) l.c.terms l.roots l.tops
