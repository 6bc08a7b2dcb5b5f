use Rattle.commands.proofs.Numbering.{Numbered}
use lib.ListN.{length}
use Prim.Native.Nat.{◌-◌}
use Rattle.commands.proofs.numbers.read_numbers.Given as goal

abbrev pub invariant-loop-at : goal.invariant-loop-at
invariant-loop-at l = Numbered l.rest l.initial.list l.list l.at l.n

abbrev pub decreases-loop-at : goal.decreases-loop-at
decreases-loop-at l = length l.rest - l.at
