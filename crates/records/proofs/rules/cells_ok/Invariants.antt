use mathlib.Core.List.{[]}
use Rattle.records.specs.Rules.{cell_rule}
use Rattle.records.specs.View.{chained}
use Rattle.records.proofs.Lists.{UpTo}
use Rattle.records.proofs.rules.cells_ok.Given as goal

abbrev pub invariant-loop-i : goal.invariant-loop-i
invariant-loop-i l = UpTo (cell_rule (chained [] l.cells l.c)) l.i
