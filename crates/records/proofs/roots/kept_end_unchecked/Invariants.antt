use Rattle.records.specs.Working.Audited.{Steps}
use Rattle.records.proofs.Climbs.{Climbing}
use Prim.Native.Nat.{ℕ, ◌<◌}
use Rattle.records.proofs.roots.kept_end_unchecked.Given as goal

abbrev pub invariant-loop : goal.invariant-loop
invariant-loop g l = (l.x < 513) × ((up : ℕ → ℕ) → Steps (goal.F-post g l.parent) up l.n → Climbing up l.n l.t l.x l.counter)
