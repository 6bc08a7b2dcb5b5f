use mathlib.Core.Path.{refl}
use Rattle.records.proofs.Refines.Making.{text-long, text-full, text-made, walk-to, long-limit, long-room, one-limit, one-room, next-limit}
use native.Mathlib.Omega.{arith}
use Rattle.records.proofs.make.append_text.Goals as goal

pub returns-then-not-text_fits : goal.returns-then-not-text_fits
returns-then-not-text_fits c =
    text-long _ _ _ refl _ c.text_fits.ensures c.if-not-text_fits.true-raw

pub returns-then-not-term_fits : goal.returns-then-not-term_fits
returns-then-not-term_fits c =
    text-full _ _ _ refl _ c.text_fits.ensures c.if-not-text_fits.false-raw _ c.term_fits.ensures c.if-not-term_fits.true-raw

pub put_text_unchecked-requires : goal.put_text_unchecked-requires
put_text_unchecked-requires c =
    long-room c.requires.fact_1.sized _ c.if-not-text_fits.false-raw _ c.text_fits.ensures

pub overflow_cast-w : goal.overflow_cast-w
overflow_cast-w c =
    omega (arith, long-limit c.requires.fact_1.sized _ c.if-not-text_fits.false-raw _ c.text_fits.ensures)

pub put_term_unchecked-requires : goal.put_term_unchecked-requires
put_term_unchecked-requires c =
    let h = walk-to _ _ c.requires.fact_1 _ (rw c.into-2.ensures at c.bucket_of.ensures) in
    record {
      limited = one-limit c.requires.fact_1.sized _ c.if-not-term_fits.false-raw c.term_fits.ensures;
      room = one-room c.requires.fact_1.sized _ c.if-not-term_fits.false-raw c.term_fits.ensures;
      bucket = h.0;
      walkable = h.1;
    }

pub with_chars-d-requires : goal.with_chars-d-requires
with_chars-d-requires c =
    long-limit c.requires.fact_1.sized _ c.if-not-text_fits.false-raw _ c.text_fits.ensures

pub overflow_add-result : goal.overflow_add-result
overflow_add-result c =
    omega (arith, one-limit c.requires.fact_1.sized _ c.if-not-term_fits.false-raw c.term_fits.ensures)

pub overflow_cast-result : goal.overflow_cast-result
overflow_cast-result c =
    omega (arith, one-limit c.requires.fact_1.sized _ c.if-not-term_fits.false-raw c.term_fits.ensures)

pub with_term-requires : goal.with_term-requires
with_term-requires c =
    next-limit c.requires.fact_1.sized _ c.if-not-term_fits.false-raw _ c.with_chars-d.ensures c.term_fits.ensures

pub returns : goal.returns
returns c =
    text-made _ _ _ refl _ c.text_fits.ensures c.if-not-text_fits.false-raw _ c.term_fits.ensures c.requires.fact_1 c.requires.fact_2 _ (rw c.into-2.ensures at c.bucket_of.ensures) c.if-not-term_fits.false-raw
    c.put_text_unchecked.ensures c.put_text_unchecked.auto.chars (rw c.into.ensures at c.put_term_unchecked.ensures)
    c.put_term_unchecked.auto.terms c.with_chars-d.ensures c.with_term.ensures
