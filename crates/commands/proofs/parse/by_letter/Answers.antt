use Rattle.std.proofs.lemmas.Grind.{common_steps}
use Rattle.std.proofs.Common.{◌≡◌, arith}
use Rattle.commands.specs.Commands.{through, text_after, numbers_after, as_constant, as_variable, as_concatenation, as_known, parsed_is}
use Rattle.commands.proofs.Parsing.{letter-constant, letter-variable, letter-concatenation, letter-equation, letter-merge, letter-known, letter-resolve, other-letter}
use Rattle.commands.proofs.parse.by_letter.Goals as goal

pub returns-in-67 : goal.returns-in-67
returns-in-67 c =
    let e : parsed_is c.map.result c.read_text.new.list ≡ through as_constant (text_after c.args.rest.now) = grind (arith, common_steps) in
    letter-constant _ _ _ c.in-67.is e

pub returns-in-86 : goal.returns-in-86
returns-in-86 c =
    let e : parsed_is c.map-in-86.result c.read_text-in-86.new.list ≡ through as_variable (text_after c.args.rest.now) = grind (arith, common_steps) in
    letter-variable _ _ _ c.in-86.is e

pub returns-in-80 : goal.returns-in-80
returns-in-80 c =
    let e : parsed_is c.map-in-80.result c.read_numbers.new.list ≡ through as_concatenation (numbers_after c.args.rest.now) = grind (arith, common_steps) in
    letter-concatenation _ _ _ c.in-80.is e

pub returns-in-69 : goal.returns-in-69
returns-in-69 c =
    letter-equation _ _ _ c.in-69.is c.read_equation.ensures

pub returns-in-77 : goal.returns-in-77
returns-in-77 c =
    letter-merge _ _ _ c.in-77.is c.read_merge.ensures

pub returns-in-75 : goal.returns-in-75
returns-in-75 c =
    let e : parsed_is c.map-in-75.result c.read_numbers-in-75.new.list ≡ through as_known (numbers_after c.args.rest.now) = grind (arith, common_steps) in
    letter-known _ _ _ c.in-75.is e

pub returns-in-82 : goal.returns-in-82
returns-in-82 c =
    letter-resolve _ _ _ c.in-82.is (c.read_resolve.ensures.says _)

pub returns-in_default : goal.returns-in_default
returns-in_default c =
    other-letter _ _ (omega arith) (omega arith) (omega arith) (omega arith) (omega arith) (omega arith) (omega arith)
