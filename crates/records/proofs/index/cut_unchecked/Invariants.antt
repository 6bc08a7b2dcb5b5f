use Prim.Native.Nat.{◌+◌, ◌-◌, ◌≤◌}
use Rattle.records.proofs.Refines.IndexCuts.{Cutting}
use Rattle.records.proofs.index.cut_unchecked.Given as goal

abbrev pub invariant-loop-b : goal.invariant-loop-b
invariant-loop-b l = Cutting l.initial.terms l.terms l.n l.b 0

abbrev pub invariant-loop-t : goal.invariant-loop-t
invariant-loop-t l = (l.t ≤ l.n + 1) × Cutting l.initial.terms l.terms l.n 0 (l.t - 1)
