use Rattle.records.proofs.Refines.JoinedTexts.{part-below, part_room, part-added}
use native.Mathlib.Omega.{arith}
use Rattle.records.proofs.text.add_part_unchecked.Goals as goal

pub overflow_add-to : goal.overflow_add-to
overflow_add-to c =
    let given = c.args in
    omega (
      arith,
      part_room given.terms.now given.chars.now given.list.now given.to given.i given.held
          c.requires.texts_within c.requires.list_in_bounds c.requires.i_in_bounds c.requires.holds_join _ _ c.first-from.ensures c.second-next.ensures,
    )

pub copy_text-requires : goal.copy_text-requires
copy_text-requires c =
    record {
      below = let given = c.args in
          part-below given.terms.now given.chars.now given.list.now given.to given.i given.held
          c.requires.texts_within c.requires.list_in_bounds c.requires.i_in_bounds c.requires.holds_join _ _ c.first-from.ensures c.second-next.ensures;
      room = let given = c.args in part_room given.terms.now given.chars.now given.list.now given.to given.i given.held
          c.requires.texts_within c.requires.list_in_bounds c.requires.i_in_bounds c.requires.holds_join _ _ c.first-from.ensures c.second-next.ensures;
    }

pub overflow_add-result : goal.overflow_add-result
overflow_add-result c =
    let given = c.args in
    omega (
      arith,
      part_room given.terms.now given.chars.now given.list.now given.to given.i given.held
          c.requires.texts_within c.requires.list_in_bounds c.requires.i_in_bounds c.requires.holds_join _ _ c.first-from.ensures c.second-next.ensures,
    )

pub returns : goal.returns
returns c =
    let given = c.args in
    part-added given.terms.now given.chars.now given.list.now given.to given.i given.held
    c.requires.texts_within c.requires.list_in_bounds c.requires.i_in_bounds c.requires.holds_join _ _ c.first-from.ensures c.second-next.ensures _ c.copy_text.ensures
