use Rattle.records.proofs.Refines.Making.{text-over, text_test}
use Rattle.records.proofs.make.text_fits.Goals as goal

pub returns-then-n-k : goal.returns-then-n-k
returns-then-n-k c =
    text-over c.args.chars.now _ _ c.requires c.if-n-k.true

pub returns : goal.returns
returns c =
    text_test c.args.chars.now _ _ c.requires c.if-n-k.false
