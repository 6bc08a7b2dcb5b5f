use Rattle.commands.proofs.Decoding.{char_at}
use Rattle.commands.proofs.utf8.char_at.Goals as goal

pub returns : goal.returns
returns c =
    char_at c.args.s.now c.args.at _ _ _ _ _ c.byte-a.ensures c.byte-b.ensures c.byte-c.ensures
    c.byte-d.ensures c.char_by.ensures
