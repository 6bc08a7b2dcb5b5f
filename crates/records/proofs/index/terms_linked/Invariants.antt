use Rattle.records.proofs.Refines.IndexReads.{Reading}
use Rattle.records.specs.Index.{bucket}
use Rattle.records.specs.View.{records_in}
use Prim.Native.Nat.{◌-◌}
use Rattle.records.proofs.index.terms_linked.Given as goal

abbrev pub invariant-loop-t : goal.invariant-loop-t
invariant-loop-t l = Reading l.terms (bucket (records_in l.terms l.cells l.chars l.c)) l.c.terms (l.t - 1) l.ends
