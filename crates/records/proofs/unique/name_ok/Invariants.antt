use mathlib.Core.List.{[]}
use Rattle.records.specs.View.{lent, store_of}
use Rattle.records.proofs.Refines.NameLaws.{Walk}
use Rattle.records.proofs.unique.name_ok.Given as goal

abbrev pub invariant-loop-u : goal.invariant-loop-u
invariant-loop-u l = Walk (store_of (lent l.terms [] l.chars [] []) l.c) l.m l.t l.u

abbrev pub decreases-loop-u : goal.decreases-loop-u
decreases-loop-u l = l.u
