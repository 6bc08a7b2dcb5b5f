use Rattle.classes.proofs.Refines.MarkTables.{Auditing}
use Rattle.classes.proofs.trail.tables_ok_unchecked.Given as goal

abbrev pub invariant-loop-i : goal.invariant-loop-i
invariant-loop-i l = Auditing l.initial.table l.cells l.c l.marks l.fn.d.marks l.initial.joins l.table l.joins l.i
