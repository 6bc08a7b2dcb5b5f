use lib.ListN.{length}
use mathlib.Core.Path.{◌≡◌}
use Rattle.normalize.specs.Working.Flat.{bare}
use Rattle.wordeq.proofs.Refines.Flattening.{Flattening}
use Rattle.wordeq.proofs.resolving.flatten_list_unchecked.Given as goal

abbrev pub invariant-loop-t : goal.invariant-loop-t
invariant-loop-t l = (length l.out ≡ length l.initial.out) × Flattening (bare l.terms l.c.terms l.cells l.c.cells) l.l l.initial.out l.out l.t-index l.n
