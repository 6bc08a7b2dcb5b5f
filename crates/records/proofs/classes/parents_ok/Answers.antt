use mathlib.Core.Bool.{true, false}
use Rattle.records.proofs.Refines.ClassLaws.{parent-term}
use Rattle.records.specs.Rules.{parents_rule}
use native.Mathlib.Omega.{arith}
use Rattle.records.proofs.classes.parents_ok.Goals as goal

pub returns-then-is_within : goal.returns-then-is_within
unfolding parents_rule
returns-then-is_within c =
    let a = c.args in let p = parent-term a.terms.now a.c a.t c.requires false _ c.class_parent.ensures in let q = parent-term a.terms.now a.c a.t c.requires true _ c.forest_parent.ensures in grind arith

pub returns-else-is_within : goal.returns-else-is_within
unfolding parents_rule
returns-else-is_within c =
    let a = c.args in let p = parent-term a.terms.now a.c a.t c.requires false _ c.class_parent.ensures in grind arith
