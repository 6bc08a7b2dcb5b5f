use Rattle.records.specs.Working.Hashes.{hash_from}
use lib.ListN.{drop}
use Prim.Native.Nat.{◌<◌}
use mathlib.Core.Path.{◌≡◌}
use Rattle.records.proofs.unique.text_hash.Given as goal

abbrev pub invariant-loop-x : goal.invariant-loop-x
invariant-loop-x l = (l.h < 4294967291) × (hash_from l.h (drop l.x-index l.w) ≡ hash_from 1 l.w)
