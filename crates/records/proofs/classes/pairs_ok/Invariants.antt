use Rattle.records.proofs.Refines.PairLaws.{Linking}
use Rattle.records.proofs.classes.pairs_ok.Given as goal

abbrev pub invariant-loop : goal.invariant-loop
invariant-loop l = Linking l.cells l.n l.p l.a l.b l.x l.y l.z l.counter
