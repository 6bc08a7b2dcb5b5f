use Rattle.records.proofs.Refines.Builds.{one-limit, one-words, one_later, append-long, append-limit, append-words, append-full, append-made}
use Rattle.records.proofs.Refines.Making.{walk-to}
use borrow.Author.Rules.{rules}
use Rattle.records.proofs.build.append_parts.Goals as goal

pub returns-then-not-cells_fit : goal.returns-then-not-cells_fit
returns-then-not-cells_fit c =
    search append-long

pub returns-then-not-term_fits : goal.returns-then-not-term_fits
returns-then-not-term_fits c =
    search append-full

pub put_chain_unchecked-requires : goal.put_chain_unchecked-requires
put_chain_unchecked-requires c =
    record {
      limited = let a = c.args in
          let t = a.terms.now in
          let e = a.cells.now in
          let h = a.chars.now in
          let r = a.reasons.now in
          let k = a.keys.now in
          let p = c.cells_fit.ensures in
          let s = c.requires.sized in append-limit t e h r k a.c a.l.now _ p s c.if-not-cells_fit.false-raw;
      room = let a = c.args in
          let t = a.terms.now in
          let e = a.cells.now in
          let h = a.chars.now in
          let r = a.reasons.now in
          let k = a.keys.now in
          let p = c.cells_fit.ensures in
          let s = c.requires.sized in append-words t e h r k a.c a.l.now _ p s c.if-not-cells_fit.false-raw;
    }

pub put_term_unchecked-requires : goal.put_term_unchecked-requires
put_term_unchecked-requires c =
    let t = c.args.terms.now in
    let p = c.term_fits.ensures in
    let h = walk-to 3 _ c.requires _ (rw c.into-2.ensures at c.bucket_of.ensures) in
    record {
      limited = one-limit t _ _ p c.if-not-term_fits.false-raw;
      room = one-words t _ _ p c.if-not-term_fits.false-raw;
      bucket = h.0;
      walkable = h.1;
    }

pub with_cells-requires : goal.with_cells-requires
with_cells-requires c =
    search (rules, append-limit)

pub with_term-requires : goal.with_term-requires
with_term-requires c =
    search (rules, one_later)

pub returns : goal.returns
returns c =
    append-made _ _ _ _ _ _ _ _ c.cells_fit.ensures c.if-not-cells_fit.false-raw _ c.term_fits.ensures c.requires _ _ _ _ _ c.if-not-term_fits.false-raw
    (rw c.into-2.ensures at c.bucket_of.ensures) c.put_chain_unchecked.ensures c.put_chain_unchecked.auto.cells
    (rw c.into.ensures at c.put_term_unchecked.ensures) c.put_term_unchecked.auto.terms c.with_cells.ensures c.with_term.ensures
