use mathlib.Core.Path.{refl}
use Rattle.sides.proofs.Refines.TileWalk.{filling_start, filling_one, filling_end, filling_differs, word_limit_lem, source_limit, walked_end}
use Rattle.sides.proofs.letters.is_tiled.Goals as goal

pub loop-init : goal.loop-init
loop-init c =
    filling_start _ _ _ _ _ _ _ _ _ _ _ _ _ c.loop-i.invariant c.requires c.loop-i-test.true refl c.fill_count-n.ensures
    c.fill_start-x.ensures c.fill_source-source.ensures

pub onward-k-requires : goal.onward-k-requires
onward-k-requires c =
    word_limit_lem _ _ _ _ _ _ _ _ c.requires.known c.same_letter.ensures c.if-not-same_letter.false-raw c.settle-k.ensures.at
    c.settle-x.ensures.at

pub onward-x-requires : goal.onward-x-requires
onward-x-requires c =
    source_limit _ _ _ _ _ _ _ _ c.requires.known c.same_letter.ensures c.if-not-same_letter.false-raw c.settle-k.ensures.at
    c.settle-x.ensures.at

pub loop-preserved : goal.loop-preserved
loop-preserved c =
    filling_one _ _ _ _ _ _ _ _ _ _ _ _ _ c.loop.invariant c.loop-test.true _ _ c.settle-k.ensures c.settle-x.ensures _
    c.same_letter.ensures c.if-not-same_letter.false-raw _ _ c.onward-k.ensures c.onward-x.ensures

pub loop-i-preserved : goal.loop-i-preserved
loop-i-preserved c =
    filling_end _ _ _ _ _ _ _ _ _ _ _ _ _ c.loop.invariant c.loop-test.false

pub returns-then-not-same_letter : goal.returns-then-not-same_letter
returns-then-not-same_letter c =
    filling_differs _ _ _ _ _ _ _ _ _ _ _ _ _ c.loop.invariant c.loop-test.true _ _ c.settle-k.ensures c.settle-x.ensures _
    c.same_letter.ensures c.if-not-same_letter.true-raw

pub returns : goal.returns
returns c =
    walked_end _ _ _ _ _ _ _ _ _ _ _ c.requires.known.texts c.loop-i.invariant c.loop-i-test.false c.settle.ensures refl
