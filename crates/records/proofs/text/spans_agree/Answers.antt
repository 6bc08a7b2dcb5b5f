use Rattle.records.proofs.Views.{agree-part}
use Rattle.records.proofs.text.spans_agree.Goals as goal

pub returns : goal.returns
returns c =
    agree-part c.args.chars.now c.args.at c.args.from c.args.n _ c.requires.within c.text_from.ensures
