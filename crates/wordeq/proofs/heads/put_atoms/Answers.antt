use mathlib.Core.Path.{sym, ◌∙◌}
use Rattle.wordeq.proofs.Refines.Heads.{read_in-of, texts-of, full_at, first_char, atoms-right, atoms-left, atoms-heads}
use Rattle.wordeq.proofs.heads.put_atoms.Goals as goal

pub is_full_unchecked-requires : goal.is_full_unchecked-requires
is_full_unchecked-requires c =
    texts-of c.requires.ready

pub first_letter-x-requires : goal.first_letter-x-requires
first_letter-x-requires c =
    (read_in-of c.requires.ready, sym c.is_full_unchecked.ensures ∙ c.if-is_full_unchecked.true)

pub split_character_unchecked-requires-clause-ch_value : goal.split_character_unchecked-requires-clause-ch_value
split_character_unchecked-requires-clause-ch_value c =
    first_char c.args.b _ _ c.requires.ready c.first_letter-x.ensures

pub returns-then-is_full_unchecked : goal.returns-then-is_full_unchecked
returns-then-is_full_unchecked c =
    atoms-right c.args.a c.args.b _ _ (full_at c.args.b c.requires.ready c.is_full_unchecked.ensures c.if-is_full_unchecked.true)
    c.first_letter-x.ensures c.split_character_unchecked.ensures

pub is_full_unchecked-requires-else-is_full_unchecked : goal.is_full_unchecked-requires-else-is_full_unchecked
is_full_unchecked-requires-else-is_full_unchecked c =
    texts-of c.requires.ready

pub first_letter-y-requires : goal.first_letter-y-requires
first_letter-y-requires c =
    (read_in-of c.requires.ready, sym c.is_full_unchecked-else-is_full_unchecked.ensures ∙ c.if-is_full_unchecked-2.true)

pub split_character_unchecked-requires-then-is_full_unchecked-2-clause-ch_value : goal.split_character_unchecked-requires-then-is_full_unchecked-2-clause-ch_value
split_character_unchecked-requires-then-is_full_unchecked-2-clause-ch_value c =
    first_char c.args.a _ _ c.requires.ready c.first_letter-y.ensures

pub returns-then-is_full_unchecked-2 : goal.returns-then-is_full_unchecked-2
returns-then-is_full_unchecked-2 c =
    atoms-left c.args.a c.args.b c.requires.head_pair _ _
    (full_at c.args.a c.requires.ready c.is_full_unchecked-else-is_full_unchecked.ensures c.if-is_full_unchecked-2.true) c.first_letter-y.ensures
    c.split_character_unchecked-then-is_full_unchecked-2.ensures

pub returns-else-is_full_unchecked-2 : goal.returns-else-is_full_unchecked-2
returns-else-is_full_unchecked-2 c =
    atoms-heads c.args.a c.args.b (full_at c.args.b c.requires.ready c.is_full_unchecked.ensures c.if-is_full_unchecked.false)
    (full_at c.args.a c.requires.ready c.is_full_unchecked-else-is_full_unchecked.ensures c.if-is_full_unchecked-2.false) c.split_heads_unchecked.ensures
