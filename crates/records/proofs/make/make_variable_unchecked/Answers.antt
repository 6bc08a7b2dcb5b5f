use Rattle.records.proofs.Refines.Making.{variable-made}
use Rattle.records.specs.Store.{within}
use mathlib.Core.Path.{refl}
use Rattle.records.proofs.make.make_variable_unchecked.Goals as goal

pub make_text-requires : goal.make_text-requires
unfolding within
make_text-requires c =
    record {
      fact_1 = c.requires.ready;
      fact_2 = refl;
    }

pub returns : goal.returns
returns c =
    variable-made _ c.requires.ready c.requires.c_value c.make_text.ensures
