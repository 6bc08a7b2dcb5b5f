use Rattle.records.proofs.Refines.Rooms.{fits-limit, fits-words}
use Rattle.records.proofs.Refines.Builds.{sided, sides_searchable, sides-old, sides-full, sides-made}
use Rattle.records.proofs.Refines.Making.{walk-to}
use borrow.Author.Rules.{rules}
use Rattle.records.proofs.build.make_sides.Goals as goal

pub find_sides-t-requires : goal.find_sides-t-requires
find_sides-t-requires c =
    sides_searchable _ _ _ _ _ _ c.requires.fact_1 (sided c.requires.fact_2) (rw c.into.ensures at c.bucket_of_sides-at.ensures)

pub returns-then-t-ne0 : goal.returns-then-t-ne0
returns-then-t-ne0 c =
    search sides-old

pub put_term_unchecked-requires : goal.put_term_unchecked-requires
put_term_unchecked-requires c =
    let h = walk-to _ _ c.requires.fact_1 _ (rw c.into.ensures at c.bucket_of_sides-at.ensures) in
    record {
      limited = fits-limit c.args.terms.now _ _ c.term_fits.ensures c.if-term_fits.true;
      room = fits-words c.args.terms.now _ _ c.term_fits.ensures c.if-term_fits.true;
      bucket = h.0;
      walkable = h.1;
    }

pub with_term-requires : goal.with_term-requires
with_term-requires c =
    search (rules, fits-limit)

pub returns-then-term_fits : goal.returns-then-term_fits
returns-then-term_fits c =
    sides-made _ _ _ _ _ _ c.requires.fact_1 _ _ _ _ c.find_sides-t.ensures c.if-t-ne0.false _ c.term_fits.ensures _ _ _ c.if-term_fits.true (sided c.requires.fact_2)
    (rw c.into.ensures at c.bucket_of_sides-at.ensures) (rw c.into-then-term_fits.ensures at c.put_term_unchecked.ensures) c.put_term_unchecked.auto.terms c.with_term.ensures

pub returns : goal.returns
returns c =
    search sides-full
