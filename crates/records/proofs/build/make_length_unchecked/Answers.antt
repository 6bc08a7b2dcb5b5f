use mathlib.Core.Logic.{inl}
use mathlib.Core.Path.{refl}
use Rattle.records.proofs.Refines.Builds.{length-made}
use Rattle.records.proofs.build.make_length_unchecked.Goals as goal

pub make_sides-requires : goal.make_sides-requires
make_sides-requires c =
    record {
      fact_1 = c.requires.ready;
      fact_2 = inl (refl, refl);
    }

pub returns : goal.returns
returns c =
    search length-made
