use Rattle.empties.proofs.Refines.Listing.{listing_none, listing-strings, listing-turn, listing_done}
use Rattle.records.specs.View.{read_in}
use native.Mathlib.Omega.{arith}
use Rattle.empties.proofs.list_unmet.Goals as goal

pub loop-v-init : goal.loop-v-init
loop-v-init c =
    listing_none (read_in c.args.terms.now c.args.chars.now c.args.c) c.args.e c.args.side.now c.requires.strings c.args.list.now

pub put_unmet-n-requires : goal.put_unmet-n-requires
put_unmet-n-requires c =
    record {
      readable = c.requires.readable;
      strings = listing-strings (read_in c.args.terms.now c.args.chars.now c.args.c) c.args.e c.args.side.now
          c.requires.strings c.loop-v.invariant c.loop-v-test.true;
      n_in_bounds = let a = c.loop-v.invariant.few in omega arith;
    }

pub loop-v-preserved : goal.loop-v-preserved
loop-v-preserved c =
    listing-turn (read_in c.args.terms.now c.args.chars.now c.args.c) c.args.e c.args.side.now c.requires.strings
    c.loop-v.invariant c.loop-v-test.true (let a = c.loop-v.invariant.few in omega arith) c.put_unmet-n.ensures

pub returns : goal.returns
returns c =
    listing_done (read_in c.args.terms.now c.args.chars.now c.args.c) c.args.e c.args.side.now c.requires.strings
    c.loop-v.invariant c.loop-v-test.false (let a = c.loop-v.invariant.few in omega arith)
