use Rattle.records.proofs.Refines.Builds.{Walked}
use Rattle.records.proofs.build.chain_is.Given as goal

abbrev pub invariant-loop-x : goal.invariant-loop-x
invariant-loop-x l = Walked l.cells l.n l.l l.c l.at l.x-index
