use Rattle.records.proofs.Loops.{Summing}
use Rattle.records.specs.View.{lengths}
use Rattle.records.proofs.text.joined_length_unchecked.Given as goal

abbrev pub invariant-loop-t : goal.invariant-loop-t
invariant-loop-t l = Summing (lengths l.terms) 4294967295 l.list l.total l.t-index
