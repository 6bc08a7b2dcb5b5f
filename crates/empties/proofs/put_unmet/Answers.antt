use Rattle.empties.proofs.Refines.Listing.{put-met, put-new}
use Rattle.records.specs.View.{read_in}
use lib.Seq.{length-take-le}
use mathlib.Core.Path.{sym}
use native.Mathlib.Omega.{arith}
use Rattle.empties.proofs.put_unmet.Goals as goal

pub slice_bounds-is_met-end-2 : goal.slice_bounds-is_met-end-2
slice_bounds-is_met-end-2 c =
    (let h = c.requires.n_in_bounds in sym (length-take-le _ c.args.list.now (omega arith)))

pub is_met-requires : goal.is_met-requires
is_met-requires c =
    record {
      readable = c.requires.readable;
      strings = c.requires.strings;
    }

pub returns-then-is_met : goal.returns-then-is_met
returns-then-is_met c =
    put-met (read_in c.args.terms.now c.args.chars.now c.args.c) _ _ _ c.args.list.now c.requires.n_in_bounds _
    c.is_met.ensures c.if-is_met.true

pub returns-else-is_met : goal.returns-else-is_met
returns-else-is_met c =
    put-new (read_in c.args.terms.now c.args.chars.now c.args.c) _ _ _ c.args.list.now c.requires.n_in_bounds _
    c.is_met.ensures c.if-is_met.false
