use mathlib.Core.Path.{refl}
use Rattle.engine.specs.Working.Seen.{seen_at, bit}
use Rattle.engine.proofs.is_seen.Goals as goal

pub returns : goal.returns
unfolding seen_at bit
returns c =
    refl
