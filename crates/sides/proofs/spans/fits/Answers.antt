use Rattle.sides.proofs.Refines.Fitting.{fits-over, fits_uneven, span-there, fits_tiled}
use Rattle.sides.proofs.spans.fits.Goals as goal
use Rattle.sides.proofs.spans.fits.Goals.{then-l-n-via-then-l-n, then-l-n-via-else-l-n+then-l-n-ne0}

pub returns-then-l-n : goal.returns-then-l-n
returns-then-l-n c =
    elim c.then-l-n.branch [ then-l-n-via-then-l-n w ↦ fits-over c.args.terms.now c.args.chars.now c.args.c c.args.word.now c.args.side.now c.args.k _ _ c.requires.0 c.letters_length_unchecked-l.ensures c.letters_length_unchecked-n.ensures w.if-l-n.true | then-l-n-via-else-l-n+then-l-n-ne0 w ↦ fits_uneven c.args.terms.now c.args.chars.now c.args.c c.args.word.now c.args.side.now c.args.k _ _ c.requires.0 c.letters_length_unchecked-l.ensures c.letters_length_unchecked-n.ensures w.if-l-n.false w.if-l-n-ne0.true ]

pub is_tiled-requires : goal.is_tiled-requires
is_tiled-requires c =
    span-there c.args.terms.now c.args.chars.now c.args.c c.args.word.now c.args.side.now c.args.k _ _
    c.requires.0 c.letters_length_unchecked-l.ensures c.letters_length_unchecked-n.ensures c.if-l-n.false c.args.i c.requires.3 _
    c.letters_length_unchecked-place.ensures

pub returns : goal.returns
returns c =
    fits_tiled c.args.terms.now c.args.chars.now c.args.c c.args.word.now c.args.side.now c.args.k _ _
    c.requires.0 c.letters_length_unchecked-l.ensures c.letters_length_unchecked-n.ensures c.if-l-n.false c.args.i c.requires.3 _
    c.letters_length_unchecked-place.ensures c.if-l-n-ne0.false _ c.is_tiled.ensures
