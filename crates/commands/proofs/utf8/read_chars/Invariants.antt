use Rattle.commands.proofs.Decoding.{Decoded}
use lib.ListN.{length}
use Prim.Native.Nat.{◌-◌}
use Rattle.commands.proofs.utf8.read_chars.Given as goal

abbrev pub invariant-loop-at : goal.invariant-loop-at
invariant-loop-at l = Decoded l.s l.initial.list l.list l.at l.n

abbrev pub decreases-loop-at : goal.decreases-loop-at
decreases-loop-at l = length l.s - l.at
