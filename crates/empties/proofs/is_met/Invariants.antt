use Rattle.records.specs.Lists.{any}
use Rattle.records.specs.Store.{same_class}
use Rattle.records.specs.View.{read_in}
use lib.ListN.{drop}
use mathlib.Core.Path.{◌≡◌}
use Rattle.empties.proofs.is_met.Given as goal

abbrev pub invariant-loop-m : goal.invariant-loop-m
invariant-loop-m l = any (same_class (read_in l.terms l.chars l.c) l.v) (drop l.m-index l.met) ≡ any (same_class (read_in l.terms l.chars l.c) l.v) l.met
