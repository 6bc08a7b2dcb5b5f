use Rattle.std.proofs.Common.{arith}
use Rattle.commands.proofs.Guards.{below-is, below_none, above_is, above-none, number-low}
use Rattle.commands.proofs.numbers.guard_of.Goals as goal

pub returns-in_err-number_of-in-Some : goal.returns-in_err-number_of-in-Some
returns-in_err-number_of-in-Some c = let k = c.in-Some.ensures.cases in rw c.from_residual.ensures (below_none _ _ k.0 k.1 c.in_err-number_of-in-Some.ensures)

pub negative-requires : goal.negative-requires
negative-requires c = let h = number-low _ _ _ c.in_ok-number_of-in-Some.ensures in omega arith

pub returns-in_ok-number_of-in-Some : goal.returns-in_ok-number_of-in-Some
returns-in_ok-number_of-in-Some c = let k = c.in-Some.ensures.cases in below-is _ _ k.0 k.1 _ _ c.in_ok-number_of-in-Some.ensures c.negative.ensures

pub returns-in_err-number_of-in-None : goal.returns-in_err-number_of-in-None
returns-in_err-number_of-in-None c = rw c.from_residual-in_err-number_of-in-None.ensures (above-none _ c.in-None.ensures.cases c.in_err-number_of-in-None.ensures)

pub positive-requires : goal.positive-requires
positive-requires c = number-low _ _ _ c.in_ok-number_of-in-None.ensures

pub returns-in_ok-number_of-in-None : goal.returns-in_ok-number_of-in-None
returns-in_ok-number_of-in-None c = above_is _ c.in-None.ensures.cases _ _ c.in_ok-number_of-in-None.ensures c.positive.ensures
