use mathlib.Core.Logic.{inr}
use mathlib.Core.Path.{refl}
use Rattle.records.proofs.Refines.Builds.{equation-made}
use Rattle.records.proofs.build.make_equation_unchecked.Goals as goal

pub make_sides-requires : goal.make_sides-requires
make_sides-requires c =
    record {
      fact_1 = c.requires.ready;
      fact_2 = inr refl;
    }

pub returns : goal.returns
returns c =
    search equation-made
