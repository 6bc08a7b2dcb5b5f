use Rattle.sides.proofs.Refines.TileWalk.{Walked, Filling}
use Rattle.sides.proofs.letters.is_tiled.Given as goal

abbrev pub invariant-loop : goal.invariant-loop
invariant-loop l = Filling l.terms l.chars l.c l.word l.side l.v l.m l.i l.n l.source l.k l.x l.counter

abbrev pub invariant-loop-i : goal.invariant-loop-i
invariant-loop-i l = Walked l.terms l.chars l.c l.word l.side l.v l.m l.k l.i
