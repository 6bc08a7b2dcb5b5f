use Rattle.sides.proofs.Refines.SideLetters.{letter_count}
use Rattle.records.proofs.Loops.{Summing}
use Rattle.records.specs.View.{char_limit, termed}
use Rattle.sides.proofs.letters.letters_length_unchecked.Given as goal

abbrev pub invariant-loop-a : goal.invariant-loop-a
invariant-loop-a l = Summing (letter_count (termed l.terms l.c)) char_limit l.l l.total l.a-index
