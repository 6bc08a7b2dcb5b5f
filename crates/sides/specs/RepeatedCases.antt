-- The definitions of one repeated field run on small stores: what is in the scope, and which answer is given where a word is known or none.
use Rattle.std.specs.Prelude.{Bool, true, false, not, ◌&&◌, ◌||◌, List, [], ◌∷◌, ℕ, pos, eqb, T, if◌then◌else◌}
use Rattle.records.specs.Lists.{all, any, first_of, keep, concat_map, same_word, is_in, first_below, all_below, up_to}
use Rattle.records.specs.Store.{Term, no_term, no_cell, Store, Out, ok, stop, term_in, cell_in, within, text_in, climb, same_class, is_constant, is_variable, text, above_by, nearest_in, path_in}
use Rattle.records.specs.View.{term_words, cell_words}
use Rattle.records.specs.Rules.{each_term}
use Rattle.records.specs.Make.{own, add_text, add_term, add_key, lookup, lowest, constant_of, make_constant, same_pair, is_key, length_of, make_length, equation_of, make_equation}
use Rattle.engine.specs.Explain.{highest, was_seen, each, edge, walk, walked, explain, is_reasoned}
use Rattle.sides.specs.Wordeq.{Answer, done, saturated, conflict, propagate, split, same, fixed, letters_of, letters, same_heads, same_tails, rest, explain_match, explain_matches, needs_reason, strip, is_full, occurrence, occurs, unequal, short, absent, constants, is_plain, alias, empties, assigns, filled, lead, first_span, fits, explain_all, tile_by, tile, differ, clashes, one_if_absent, split_character, split_heads, splits, after, steps, resolve}

-- 1 is the field; 2 is "", 3 "7", 4 "-", 5 "7-", 6 "7-7", 7 "7-8"
abbrev pub apart : List Term
apart = own 1 2 0 1 ∷ own 2 1 0 0 ∷ own 3 1 1 1 ∷ own 4 1 2 1 ∷ own 5 1 1 2 ∷ own 6 1 1 3 ∷ own 7 1 4 3 ∷ []

-- 3 and 4 merged by definition
abbrev pub merged : List Term
merged =
    own 1 2 0 1 ∷ own 2 1 0 0 ∷ record { kind = 1; first = 1; second = 1; class_parent = 4; forest_parent = 4; label_kind = 4; label_value = 0; stamp = 0 }
    ∷ own 4 1 2 1 ∷ own 5 1 1 2 ∷ own 6 1 1 3 ∷ own 7 1 4 3 ∷ []

-- a store of these terms, with room for n, and this pair a key
abbrev pub storing : ℕ → List Term → List (ℕ × ℕ) → Store
storing n ts keys = record {
  terms = ts;
  cells = [];
  chars = 120 ∷ 55 ∷ 45 ∷ 55 ∷ 55 ∷ 45 ∷ 56 ∷ [];
  reasons = [];
  keys = keys;
  names = 0;
  room = record { terms = n; cells = 0; chars = 7; reasons = 0; keys = 1; terms_long = term_words 7; cells_long = cell_words 0; zero_term = (no_term, 0); zero_cell = no_cell };
}

-- a store, a side of constants and a label, and a word for the field, or that there is none
pub data Case : Type 0 where
  has : Store → List ℕ → List ℕ → List ℕ → Case
  lacks : Store → List ℕ → List ℕ → Case

-- the tests of `OneField` for the field 1
unfoldable pub in_scope : Store → List ℕ → List ℕ → Bool
in_scope s c m =
    all (is_constant s) c && all (λ t. is_constant s t || eqb t 1) m && is_in 1 m && is_variable s 1 && each_term s (λ t. eqb t 1 || not (same_class s t 1))

abbrev pub is_conflict : Out Answer → Bool
is_conflict (ok s done) = false
is_conflict (ok s saturated) = false
is_conflict (ok s conflict) = true
is_conflict (ok s (propagate v w k)) = false
is_conflict (ok s (split l g n)) = false
is_conflict (stop k) = false

-- the label with this word for the field
unfoldable pub with_word : Store → List ℕ → List ℕ → List ℕ
with_word s u m = concat_map (λ t. if eqb t 1 then u else text s t) m

unfoldable pub holds : Case → Bool
holds (has s c m u) =
    in_scope s c m && same_word (with_word s u c) (with_word s u m) && not (is_conflict (resolve c m (pos 1) s)) && not (is_conflict (resolve m c (pos 1) s))
holds (lacks s c m) = in_scope s c m && is_conflict (resolve c m (pos 1) s) && is_conflict (resolve m c (pos 1) s)

unfoldable pub cases : List Case
cases =
    -- the field twice about a dash: "7" on both sides of it; none by length; none by a character
    has (storing 7 apart []) (6 ∷ []) (1 ∷ 4 ∷ 1 ∷ []) (55 ∷ []) ∷ lacks (storing 7 apart []) (5 ∷ []) (1 ∷ 4 ∷ 1 ∷ []) ∷ lacks (storing 7 apart []) (7 ∷ []) (1 ∷ 4 ∷ 1 ∷ [])
    -- 'This covers empty constants'
    ∷ has (storing 7 apart []) (3 ∷ []) (2 ∷ 1 ∷ 2 ∷ []) (55 ∷ []) ∷ has (storing 7 apart []) (2 ∷ []) (1 ∷ 2 ∷ 1 ∷ []) [] ∷ lacks (storing 7 apart []) (2 ∷ []) (1 ∷ 3 ∷ [])
    ∷ lacks (storing 7 apart []) (7 ∷ 2 ∷ []) (1 ∷ 2 ∷ 4 ∷ 1 ∷ [])
    -- 'and a variable standing alone'
    ∷ has (storing 7 apart []) [] (1 ∷ []) [] ∷ has (storing 7 apart []) (2 ∷ 6 ∷ []) (1 ∷ []) (55 ∷ 45 ∷ 55 ∷ [])
    -- no room for the joined word: refused, and there is a word
    ∷ has (storing 7 apart []) (3 ∷ 3 ∷ []) (1 ∷ []) (55 ∷ 55 ∷ [])
    -- the heads are a key: Saturated, and there is a word; or none, and Conflict all the same
    ∷ has (storing 7 apart ((1, 6) ∷ [])) (6 ∷ []) (1 ∷ 4 ∷ 1 ∷ []) (55 ∷ []) ∷ lacks (storing 7 apart ((1, 7) ∷ [])) (7 ∷ []) (1 ∷ 4 ∷ 1 ∷ [])
    -- "7" and "-" merged by definition: demand 3 says nothing of such words, and no word is there
    ∷ lacks (storing 7 merged []) (4 ∷ []) (1 ∷ 3 ∷ [])
    ∷ []

pub cases_hold : T (all holds cases)
unfolding cases holds in_scope with_word all any first_of keep concat_map same_word is_in first_below all_below up_to term_in cell_in within text_in climb above_by nearest_in path_in add_text add_term add_key lookup lowest constant_of make_constant same_pair is_key length_of make_length equation_of make_equation highest was_seen each edge walk walked explain is_reasoned same fixed letters_of letters same_heads same_tails rest explain_match explain_matches needs_reason strip is_full occurrence occurs unequal short absent constants is_plain alias empties assigns filled lead first_span fits explain_all tile_by tile differ clashes one_if_absent split_character split_heads splits after steps resolve
cases_hold = tt
