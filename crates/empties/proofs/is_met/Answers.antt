use Rattle.empties.proofs.Refines.Listing.{met-empty, met-pair, met-first, met-later}
use Rattle.records.proofs.Loops.{any-stop, any-turn, any-done}
use Rattle.records.specs.Store.{same_class}
use Rattle.records.specs.View.{read_in}
use mathlib.Core.Bool.{true, false}
use mathlib.Core.Path.{sym, ◌∙◌}
use Rattle.empties.proofs.is_met.Goals as goal

pub same_class_unchecked-requires : goal.same_class_unchecked-requires
same_class_unchecked-requires c =
    record {
      fact_1 = c.requires.readable;
      fact_2 = met-empty (read_in c.args.terms.now c.args.chars.now c.args.c) _ _ c.args.met.now c.requires.strings;
    }

pub returns-then-same_class_unchecked : goal.returns-then-same_class_unchecked
returns-then-same_class_unchecked c =
    met-first (read_in c.args.terms.now c.args.chars.now c.args.c) _ _ c.args.met.now _ c.same_class_unchecked.ensures
    c.if-same_class_unchecked.true

pub same_class_unchecked-requires-in-loop-m : goal.same_class_unchecked-requires-in-loop-m
same_class_unchecked-requires-in-loop-m c =
    record {
      fact_1 = c.requires.readable;
      fact_2 = met-pair (read_in c.args.terms.now c.args.chars.now c.args.c) _ c.args.e c.args.met.now c.requires.strings _
          c.loop-m-test.true;
    }

pub returns-then-same_class_unchecked-2 : goal.returns-then-same_class_unchecked-2
returns-then-same_class_unchecked-2 c =
    met-later (read_in c.args.terms.now c.args.chars.now c.args.c) c.args.v c.args.e c.args.met.now _
    c.same_class_unchecked.ensures c.if-same_class_unchecked.false true
    (any-stop (same_class (read_in c.args.terms.now c.args.chars.now c.args.c) c.args.v) c.args.met.now _
    c.loop-m.invariant c.loop-m-test.true (sym c.same_class_unchecked-in-loop-m.ensures ∙ c.if-same_class_unchecked-2.true))

pub loop-m-preserved : goal.loop-m-preserved
loop-m-preserved c =
    any-turn (same_class (read_in c.args.terms.now c.args.chars.now c.args.c) c.args.v) c.args.met.now _
    c.loop-m.invariant c.loop-m-test.true (sym c.same_class_unchecked-in-loop-m.ensures ∙ c.if-same_class_unchecked-2.false)

pub returns : goal.returns
returns c =
    met-later (read_in c.args.terms.now c.args.chars.now c.args.c) c.args.v c.args.e c.args.met.now _
    c.same_class_unchecked.ensures c.if-same_class_unchecked.false false
    (any-done (same_class (read_in c.args.terms.now c.args.chars.now c.args.c) c.args.v) c.args.met.now _
    c.loop-m.invariant c.loop-m-test.false)
