use Rattle.wordeq.proofs.Refines.PropagateMakes.{fixed-all, word_made}
use Rattle.wordeq.proofs.propagate.side_word_unchecked.Goals as goal

pub join_constants_unchecked-requires-clause-list_value : goal.join_constants_unchecked-requires-clause-list_value
join_constants_unchecked-requires-clause-list_value c =
    fixed-all _ c.args.side.now c.requires.side_value

pub returns : goal.returns
returns c =
    word_made c.args.side.now c.requires.side_value c.join_constants_unchecked.ensures
