use Rattle.records.proofs.Refines.JoinConstants.{texts_counted, texts_there, joined_searchable, joined_made, total_long, total_room}
use Rattle.records.proofs.Refines.Making.{text-found, text-new, text-long, text-full, text-made, walk-to, long-limit, one-limit, one-room, next-limit}
use mathlib.Core.Path.{refl}
use Rattle.records.specs.Store.{within}
use native.Mathlib.Omega.{arith}
use Rattle.records.proofs.make.join_constants_unchecked.Goals as goal

pub bucket_of_joined-b-requires : goal.bucket_of_joined-b-requires
bucket_of_joined-b-requires c =
    texts_there c.requires.ready _ c.requires.list_value

pub find_joined-t-requires : goal.find_joined-t-requires
find_joined-t-requires c =
    record {
      searchable = joined_searchable c.requires.ready _ c.requires.list_value _ c.bucket_of_joined-b.ensures;
      list_len_bound = c.requires.list_len_bound;
      texts_within = texts_there c.requires.ready _ c.requires.list_value;
      total_value = c.joined_length_unchecked-total.ensures;
    }

pub returns-then-t-ne0 : goal.returns-then-t-ne0
unfolding within
returns-then-t-ne0 c =
    joined_made c.requires.ready _ c.requires.list_value (text-found c.requires.ready 1 refl _ _ c.find_joined-t.ensures c.if-t-ne0.true)

pub returns-then-not-text_fits : goal.returns-then-not-text_fits
unfolding within
returns-then-not-text_fits c =
    joined_made c.requires.ready _ c.requires.list_value
    (text-new c.requires.ready 1 refl _ _ c.find_joined-t.ensures c.if-t-ne0.false
    (text-long 1 _ _ (total_long c.requires.ready _ _ c.joined_length_unchecked-total.ensures) _ c.text_fits.ensures c.if-not-text_fits.true-raw))

pub returns-then-not-term_fits : goal.returns-then-not-term_fits
unfolding within
returns-then-not-term_fits c =
    joined_made c.requires.ready _ c.requires.list_value
    (text-new c.requires.ready 1 refl _ _ c.find_joined-t.ensures c.if-t-ne0.false
    (text-full 1 _ _ (total_long c.requires.ready _ _ c.joined_length_unchecked-total.ensures) _ c.text_fits.ensures
    c.if-not-text_fits.false-raw _ c.term_fits.ensures c.if-not-term_fits.true-raw))

pub put_joined_unchecked-requires : goal.put_joined_unchecked-requires
put_joined_unchecked-requires c =
    record {
      texts_within = texts_counted c.requires.ready _ c.requires.list_value;
      list_in_bounds = total_room c.requires.ready _ _ c.joined_length_unchecked-total.ensures _ c.if-not-text_fits.false-raw c.text_fits.ensures;
    }

pub overflow_cast-c : goal.overflow_cast-c
overflow_cast-c c =
    omega (arith, c.requires.ready.sized.char_limited)

pub overflow_cast-total : goal.overflow_cast-total
overflow_cast-total c =
    omega (arith, long-limit c.requires.ready.sized _ c.if-not-text_fits.false-raw _ c.text_fits.ensures)

pub put_term_unchecked-requires : goal.put_term_unchecked-requires
put_term_unchecked-requires c =
    let h = walk-to 1 _ c.requires.ready _ c.bucket_of_joined-b.ensures in
    record {
      limited = one-limit c.requires.ready.sized _ c.if-not-term_fits.false-raw c.term_fits.ensures;
      room = one-room c.requires.ready.sized _ c.if-not-term_fits.false-raw c.term_fits.ensures;
      bucket = h.0;
      walkable = h.1;
    }

pub with_chars-d-requires : goal.with_chars-d-requires
with_chars-d-requires c =
    long-limit c.requires.ready.sized _ c.if-not-text_fits.false-raw _ c.text_fits.ensures

pub overflow_add-result : goal.overflow_add-result
overflow_add-result c =
    omega (arith, one-limit c.requires.ready.sized _ c.if-not-term_fits.false-raw c.term_fits.ensures)

pub overflow_cast-result : goal.overflow_cast-result
overflow_cast-result c =
    omega (arith, one-limit c.requires.ready.sized _ c.if-not-term_fits.false-raw c.term_fits.ensures)

pub with_term-requires : goal.with_term-requires
with_term-requires c =
    next-limit c.requires.ready.sized _ c.if-not-term_fits.false-raw _ c.with_chars-d.ensures c.term_fits.ensures

pub returns : goal.returns
unfolding within
returns c =
    joined_made c.requires.ready _ c.requires.list_value
    (text-new c.requires.ready 1 refl _ _ c.find_joined-t.ensures c.if-t-ne0.false
    (text-made 1 _ _ (total_long c.requires.ready _ _ c.joined_length_unchecked-total.ensures) _ c.text_fits.ensures
    c.if-not-text_fits.false-raw _ c.term_fits.ensures c.requires.ready refl _ c.bucket_of_joined-b.ensures c.if-not-term_fits.false-raw
    c.put_joined_unchecked.ensures
    c.put_joined_unchecked.auto.chars (rw c.into.ensures at c.put_term_unchecked.ensures) c.put_term_unchecked.auto.terms
    c.with_chars-d.ensures c.with_term.ensures))
