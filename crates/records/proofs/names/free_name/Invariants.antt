use Rattle.records.proofs.Naming.{Passed}
use Rattle.records.specs.View.{lent, store_of}
use Rattle.records.proofs.names.free_name.Given as goal

abbrev pub invariant-loop-x : goal.invariant-loop-x
invariant-loop-x l = Passed (store_of (lent l.terms l.cells l.chars l.reasons l.keys) l.c) l.x
