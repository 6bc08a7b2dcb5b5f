use Rattle.records.specs.View.{termed}
use Rattle.records.proofs.Refines.PairLaws.{Chaining}
use Rattle.records.specs.Working.Audited.{TermPair}
use Rattle.records.specs.Working.Heights.{Heights}
use Rattle.records.specs.Rules.{falls_rule}
use mathlib.Core.Path.{◌≡◌}
use lib.ListN.{length}
use Rattle.records.proofs.classes.falls_hold.Given as goal

abbrev pub invariant-loop : goal.invariant-loop
invariant-loop l = Chaining (TermPair l.c.terms) (falls_rule (termed l.terms l.c) l.m) l.cells l.c.cells l.p l.x l.counter × Heights (termed l.terms l.c) l.cells l.heights × (length l.heights ≡ length l.initial.heights)
