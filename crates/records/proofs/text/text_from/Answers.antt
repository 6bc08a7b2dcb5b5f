use Rattle.records.proofs.Refines.Texts.{part-equal}
use Rattle.records.proofs.text.text_from.Goals as goal

pub returns-else-chars-at : goal.returns-else-chars-at
returns-else-chars-at c = part-equal c.args.chars.now _ _ _ c.if-chars-at.false c.eq.ensures
