use Rattle.std.proofs.Common.{arith}
use Rattle.commands.proofs.Decoding.{by_one, by-none, by_two, by_three, by-four, by-more}
use Rattle.commands.proofs.utf8.char_by.Goals as goal

pub returns-in-0-to-127 : goal.returns-in-0-to-127
returns-in-0-to-127 c = rw c.from.ensures (by_one _ _ _ _ (omega arith))

pub returns-in_default : goal.returns-in_default
returns-in_default c = by-none _ _ _ _ (omega arith) (omega arith)

pub returns-in-192-to-223 : goal.returns-in-192-to-223
returns-in-192-to-223 c = by_two _ _ _ _ _ c.two_bytes.ensures (omega arith) (omega arith)

pub returns-in-224-to-239 : goal.returns-in-224-to-239
returns-in-224-to-239 c = by_three _ _ _ _ _ c.three_bytes.ensures (omega arith) (omega arith)

pub returns-in-240-to-247 : goal.returns-in-240-to-247
returns-in-240-to-247 c = by-four _ _ _ _ _ c.four_bytes.ensures (omega arith) (omega arith)

pub returns-in_default-2 : goal.returns-in_default-2
returns-in_default-2 c = by-more _ _ _ _ (omega arith)
