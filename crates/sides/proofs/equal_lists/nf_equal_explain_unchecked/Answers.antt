use Rattle.sides.proofs.Refines.Pairs.{front-pairs}
use Rattle.sides.proofs.equal_lists.nf_equal_explain_unchecked.Goals as goal

pub returns : goal.returns
returns c =
    front-pairs c.args.lhs.now c.args.rhs.now c.explain_pairs.ensures
