use Rattle.wordeq.proofs.Refines.Heads.{letter-first}
use Rattle.wordeq.proofs.heads.first_letter.Goals as goal

pub returns : goal.returns
returns c =
    letter-first c.args.terms.now c.args.chars.now c.args.c c.args.a _ _ _ c.requires.0 c.requires.1
    c.first.ensures c.wide-p.ensures c.word.ensures
