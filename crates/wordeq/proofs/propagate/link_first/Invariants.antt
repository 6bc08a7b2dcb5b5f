use Rattle.records.specs.View.{read_in}
use Rattle.sides.specs.Wordeq.{same}
use Rattle.records.specs.Lists.{first_of}
use lib.ListN.{drop}
use mathlib.Core.Bool.{not}
use mathlib.Core.Path.{◌≡◌}
use Rattle.wordeq.proofs.propagate.link_first.Given as goal

abbrev pub invariant-loop-v : goal.invariant-loop-v
invariant-loop-v l = first_of (λ v. not (same (read_in l.terms l.chars l.c) v l.word)) (drop l.v-index l.side) ≡ first_of (λ v. not (same (read_in l.terms l.chars l.c) v l.word)) l.side
