use Rattle.records.specs.Rules.{parents_rule}
use Rattle.records.specs.View.{termed}
use Rattle.records.proofs.Lists.{UpTo}
use Rattle.records.proofs.classes.parents_hold.Given as goal

abbrev pub invariant-loop-t : goal.invariant-loop-t
invariant-loop-t l = UpTo (parents_rule (termed l.terms l.c)) l.t
