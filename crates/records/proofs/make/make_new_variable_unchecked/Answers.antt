use Rattle.records.proofs.Refines.Making.{name_kind, variable-new}
use Rattle.records.proofs.make.make_new_variable_unchecked.Goals as goal

pub append_text-requires : goal.append_text-requires
append_text-requires c =
    record {
      fact_1 = c.requires.ready;
      fact_2 = name_kind;
    }

pub returns : goal.returns
returns c =
    variable-new _ c.requires.ready c.requires.c_value c.requires.c_value_2 c.append_text.ensures
