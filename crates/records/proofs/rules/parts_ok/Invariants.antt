use Rattle.records.proofs.Refines.RuleLaws.{Walked}
use Rattle.records.proofs.rules.parts_ok.Given as goal

abbrev pub invariant-loop-i : goal.invariant-loop-i
invariant-loop-i l = Walked l.terms l.cells l.c l.t l.f l.at l.i
