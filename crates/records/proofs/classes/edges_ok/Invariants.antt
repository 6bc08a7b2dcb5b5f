use Rattle.records.specs.Rules.{edge_rule}
use Rattle.records.specs.View.{termed, chained}
use Rattle.records.specs.Working.Heights.{Heights}
use Rattle.records.proofs.Lists.{UpTo}
use Rattle.records.proofs.classes.edges_ok.Given as goal

abbrev pub invariant-loop-t : goal.invariant-loop-t
invariant-loop-t l = UpTo (edge_rule (chained l.terms l.cells l.c)) l.t × Heights (termed l.terms l.c) l.cells l.heights
