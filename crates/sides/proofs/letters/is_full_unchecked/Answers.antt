use Rattle.records.specs.View.{termed}
use Rattle.sides.proofs.Refines.SideLetters.{count-full}
use Rattle.sides.proofs.letters.is_full_unchecked.Goals as goal

pub returns : goal.returns
returns c =
    count-full (termed c.args.terms.now c.args.c) c.args.a _ c.fill_count.ensures
