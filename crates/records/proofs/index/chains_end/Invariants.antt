use mathlib.Core.Path.{◌≡◌}
use mathlib.Core.Bool.{true}
use lib.ListN.{get_or}
use lib.Dec.{eqb}
use Rattle.records.specs.Lists.{all_below}
use Rattle.records.specs.Working.Indexing.{word_after}
use Rattle.records.proofs.index.chains_end.Given as goal

abbrev pub invariant-loop-b : goal.invariant-loop-b
invariant-loop-b l = all_below (λ j. eqb (word_after l.terms j (get_or l.ends j 0)) 0) l.b ≡ true
