use Rattle.sides.proofs.Refines.Alike.{texts-apart, text-inside, texts-compared}
use Rattle.sides.proofs.stripping.same_text.Goals as goal

pub returns-then-k-second : goal.returns-then-k-second
returns-then-k-second c =
    texts-apart c.requires.readable _ _ c.requires.constants _ _ c.second-k.ensures c.second.ensures c.if-k-second.true

pub slice_bounds-text_is-end : goal.slice_bounds-text_is-end
slice_bounds-text_is-end c =
    text-inside c.requires.readable _ _ c.requires.constants _ _ c.second-k.ensures c.second.ensures _ c.first-from.ensures
    c.if-k-second.false

pub returns : goal.returns
returns c =
    texts-compared c.requires.readable _ _ c.requires.constants _ _ c.second-k.ensures c.second.ensures _ c.first-from.ensures _
    c.first.ensures c.if-k-second.false _ c.text_is.ensures
