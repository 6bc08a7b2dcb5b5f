use Rattle.records.specs.View.{termed}
use Rattle.sides.proofs.Refines.SideLetters.{count-letters}
use Rattle.sides.proofs.letters.letter_count.Goals as goal

pub returns : goal.returns
returns c =
    count-letters (termed c.args.terms.now c.args.c) c.args.a _ c.fill_count.ensures
