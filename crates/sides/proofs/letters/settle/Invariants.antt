use Rattle.sides.proofs.Refines.SideWalk.{Onward}
use Rattle.sides.proofs.letters.settle.Given as goal

abbrev pub invariant-loop-i : goal.invariant-loop-i
invariant-loop-i l = Onward l.terms l.c l.l l.initial.i l.initial.j l.i l.j
