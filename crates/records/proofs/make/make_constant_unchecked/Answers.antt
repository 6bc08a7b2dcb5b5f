use Rattle.records.proofs.Refines.Making.{constant-made}
use Rattle.records.specs.Store.{within}
use mathlib.Core.Path.{refl}
use Rattle.records.proofs.make.make_constant_unchecked.Goals as goal

pub make_text-requires : goal.make_text-requires
unfolding within
make_text-requires c =
    record {
      fact_1 = c.requires.ready;
      fact_2 = refl;
    }

pub returns : goal.returns
returns c =
    constant-made _ c.requires.ready c.requires.c_value c.make_text.ensures
