use Prim.Native.Nat.{◌/◌}
use Rattle.engine.proofs.Refines.Bits.{shifted_fits, note_shifted}
use Rattle.engine.specs.Working.Seen.{seen_at}
use Rattle.engine.proofs.note_seen.Goals as goal

pub overflow_add-table : goal.overflow_add-table
unfolding seen_at
overflow_add-table c =
    record { fits = shifted_fits _ c.args.k c.requires.1 (c.slice_known-1.given (c.args.k / 32)).fits }

pub returns : goal.returns
returns c =
    note_shifted _ _ c.requires.0 c.requires.1
