use Rattle.empties.proofs.Refines.Listing.{Listing}
use Rattle.records.specs.View.{read_in}
use Rattle.empties.proofs.list_unmet.Given as goal

abbrev pub invariant-loop-v : goal.invariant-loop-v
invariant-loop-v l = Listing (read_in l.terms l.chars l.c) l.e l.side l.list l.v-index l.n
