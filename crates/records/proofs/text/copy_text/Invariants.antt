use Rattle.records.proofs.Refines.Texts.{Copied}
use Rattle.records.specs.View.{span}
use Rattle.records.proofs.text.copy_text.Given as goal

abbrev pub invariant-loop-i : goal.invariant-loop-i
invariant-loop-i l = Copied l.initial.chars l.chars l.at (span l.initial.chars l.from l.n) l.i
