use Rattle.records.proofs.Refines.HeightLaws.{Raising}
use Rattle.records.proofs.heights.height_up.Given as goal

abbrev pub invariant-loop : goal.invariant-loop
invariant-loop l = Raising l.terms l.n l.y l.x l.z l.h l.counter
