use mathlib.Core.Path.{◌∙◌, sym}
use borrow.Author.Tests.{eqb-true, eqb-false}
use Rattle.commands.proofs.Numbering.{number-none, read_none, read_odd, read_past, read_one, read_all}
use Rattle.commands.proofs.numbers.number_of.Goals as goal

pub returns-then-is_empty : goal.returns-then-is_empty
returns-then-is_empty c = number-none _ _ (eqb-true _ _ (sym c.is_empty.ensures ∙ c.if-is_empty.true))

pub loop-b-init : goal.loop-b-init
loop-b-init c = read_none _ _ c.requires.some_limit (eqb-false _ _ (sym c.is_empty.ensures ∙ c.if-is_empty.false))

pub returns-then-not-is_ascii_digit : goal.returns-then-not-is_ascii_digit
returns-then-not-is_ascii_digit c = read_odd _ _ _ _ c.loop-b.invariant c.loop-b-test.true c.if-not-is_ascii_digit.ensures.value

pub returns-then-limit-x : goal.returns-then-limit-x
returns-then-limit-x c = read_past _ _ _ _ c.loop-b.invariant c.loop-b-test.true _ c.from.ensures c.if-limit-x.true

pub loop-b-preserved : goal.loop-b-preserved
loop-b-preserved c =
    read_one _ _ _ _ c.loop-b.invariant c.loop-b-test.true _ c.from.ensures c.if-not-is_ascii_digit.ensures.value c.if-limit-x.false

pub returns : goal.returns
returns c = read_all _ _ _ _ c.loop-b.invariant c.loop-b-test.false
