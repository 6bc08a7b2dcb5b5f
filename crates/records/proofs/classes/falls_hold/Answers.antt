use Rattle.records.proofs.Refines.HeightLaws.{height-fails, height-passes}
use Rattle.records.proofs.Refines.PairLaws.{chaining_begin, chaining_end, chaining_head, chaining_stop, chaining_turn, chaining_done}
use mathlib.Core.Path.{refl, ◌∙◌}
use mathlib.Core.Bool.{true, false}
use Rattle.records.proofs.classes.falls_hold.Goals as goal

pub loop-init : goal.loop-init
loop-init c =
    (chaining_begin _ _ _ _ _ c.requires.every, c.requires.heights, refl)

pub returns-then-not-is_within : goal.returns-then-not-is_within
returns-then-not-is_within c =
    record { is = chaining_end _ _ _ _ _ _ _ c.loop.invariant.0 _ c.is_within.ensures c.if-not-is_within.true; kept = c.loop.invariant.1 }

pub kept_height-requires : goal.kept_height-requires
kept_height-requires c =
    record {
      pathed = c.requires.pathed;
      term_pair = chaining_head _ _ _ _ _ _ _ c.loop.invariant.0 _ _ _ c.loop-test.true c.is_within.ensures c.if-not-is_within.false refl refl;
      heights = c.loop.invariant.1;
    }

pub returns-then-m-kept_height : goal.returns-then-m-kept_height
returns-then-m-kept_height c =
    let k = c.kept_height.ensures in
    record {
      is = chaining_stop _ _ _ _ _ _ _ c.loop.invariant.0 _ _ _ c.loop-test.true c.is_within.ensures c.if-not-is_within.false refl refl false
          (height-fails _ _ _ _ k.is c.ranges.m.fits c.if-m-kept_height.true) refl;
      kept = k.kept;
    }

pub loop-preserved : goal.loop-preserved
loop-preserved c =
    let k = c.kept_height.ensures in (
      chaining_turn _ _ _ _ _ _ _ c.loop.invariant.0 _ _ _ c.loop-test.true c.is_within.ensures c.if-not-is_within.false refl refl true _
          (height-passes _ _ _ _ k.is c.ranges.m.fits c.if-m-kept_height.false) refl c.next-x.ensures,
      k.kept,
      c.kept_height.auto.heights ∙ c.loop.invariant.2,
    )

pub returns : goal.returns
returns c =
    record { is = chaining_done _ _ _ _ _ _ _ c.loop.invariant.0 c.loop-test.false; kept = c.loop.invariant.1 }
