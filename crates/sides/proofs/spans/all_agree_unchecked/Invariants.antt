use Rattle.records.specs.View.{read_in}
use mathlib.Core.Path.{◌≡◌}
use lib.ListN.{drop}
use Rattle.records.specs.Lists.{all}
use Rattle.sides.specs.Working.Spans.{agrees}
use Rattle.sides.proofs.spans.all_agree_unchecked.Given as goal

abbrev pub invariant-loop-a : goal.invariant-loop-a
invariant-loop-a l = all (agrees (read_in l.terms l.chars l.c) l.v) (drop l.a-index l.l) ≡ all (agrees (read_in l.terms l.chars l.c) l.v) l.l
