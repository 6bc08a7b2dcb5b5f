use borrow.Author.Tests.{le-ltb}
use mathlib.Core.Path.{◌∙◌}
use Rattle.records.specs.View.{read_in}
use Rattle.forced.proofs.Refines.ForcedLengthCalls.{list-string, after-strings, class-none, class-is}
use Rattle.forced.proofs.has_one_class.Goals as goal

pub all_agree_unchecked-requires : goal.all_agree_unchecked-requires
all_agree_unchecked-requires c =
    record {
      readable = c.requires.readable;
      l_value = after-strings (read_in c.args.terms.now c.args.chars.now c.args.c) c.args.side.now c.requires.side_is_list
          c.first_variable_unchecked-i.result;
      v_value = list-string (read_in c.args.terms.now c.args.chars.now c.args.c) c.args.side.now c.requires.side_is_list
          c.first_variable_unchecked-i.result c.if-i-side.true;
    }

pub returns-then-i-side : goal.returns-then-i-side
returns-then-i-side c =
    class-is c.args.terms.now c.args.chars.now c.args.c c.args.side.now _ c.first_variable_unchecked-i.ensures
    c.if-i-side.true _ c.all_agree_unchecked.ensures

pub returns-else-i-side : goal.returns-else-i-side
returns-else-i-side c =
    le-ltb _ _ c.if-i-side.false ∙ class-none c.args.terms.now c.args.chars.now c.args.c c.args.side.now _ c.first_variable_unchecked-i.ensures c.if-i-side.false
