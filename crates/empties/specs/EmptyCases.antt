-- The definitions run on small stores: what the one call lists, and what repeated calls list there.
use Rattle.std.specs.Prelude.{◌≡◌, refl, Bool, true, false, ◌&&◌, List, [], ◌∷◌, ℕ, ◌-◌, length, pos, eqb, T, if◌then◌else◌}
use Rattle.records.specs.Lists.{all, any, first_of, keep, concat_map, same_word, is_in, firsts, up_to, first_below}
use Rattle.records.specs.Store.{Term, no_term, Cell, no_cell, Store, Out, ok, stop, term_in, cell_in, within, text_in, chain_by, climb, above_by, nearest_in, path_in}
use Rattle.records.specs.View.{term_words, cell_words}
use Rattle.records.specs.Rules.{is_number}
use Rattle.records.specs.Make.{own, add_text, add_term, lookup, lowest, constant_of, make_constant}
use Rattle.normalize.specs.Normalize.{atoms_by, flatten}
use Rattle.sides.specs.Wordeq.{Answer, done, saturated, conflict, propagate, split, same, fixed, letters_of, letters, same_heads, same_tails, rest, explain_match, explain_matches, strip, is_full, occurrence, occurs, unequal, short, absent, constants, is_plain, alias, empties, assigns, filled, lead, first_span, fits, tile_by, tile, differ, clashes, splits, after, steps, resolve}
use Rattle.classes.specs.Joins.{put_edge, put_class, turn, turns, join_in}
use Rattle.classes.specs.Calls.{join_terms}
use Rattle.empties.specs.Empties.{is_label, unmet, Parts, emptied, sides, empty_parts}
use Rattle.empties.specs.Repeats.{Entry, Listing, lists, stops, goes_on, repeated, listing}

-- variables of one character each, 1 to 8
abbrev pub letter : ℕ → Term
letter t = own t 2 (t - 1) 1

-- "" as term t
abbrev pub nothing : ℕ → Term
nothing t = own t 1 0 0

-- a term in the class of p, under the asserted reason 7
abbrev pub under : ℕ → Term → Term
under p x = record { kind = x.kind; first = x.first; second = x.second; class_parent = p; forest_parent = p; label_kind = 1; label_value = 7; stamp = 0 }

abbrev pub eight : List ℕ
eight = 1 ∷ 2 ∷ 3 ∷ 4 ∷ 5 ∷ 6 ∷ 7 ∷ 8 ∷ []

-- a store of these terms and cells, with room for n terms
abbrev pub storing : ℕ → List Term → List Cell → Store
storing n ts cs = record {
  terms = ts;
  cells = cs;
  chars = 97 ∷ 98 ∷ 99 ∷ 100 ∷ 101 ∷ 102 ∷ 103 ∷ 104 ∷ [];
  reasons = [];
  keys = [];
  names = 0;
  room = record { terms = n; cells = 64; chars = 64; reasons = 8; keys = 8; terms_long = term_words 32; cells_long = cell_words 64; zero_term = (no_term, 0); zero_cell = no_cell };
}

-- eight variables, each alone; with "" after them; with 2 in the class of 1, and 3 in that of ""; with a second "", whose class has 1
abbrev pub apart : List Term
apart = letter 1 ∷ letter 2 ∷ letter 3 ∷ letter 4 ∷ letter 5 ∷ letter 6 ∷ letter 7 ∷ letter 8 ∷ []

abbrev pub merged : List Term
merged = letter 1 ∷ under 1 (letter 2) ∷ under 9 (letter 3) ∷ letter 4 ∷ letter 5 ∷ letter 6 ∷ letter 7 ∷ letter 8 ∷ nothing 9 ∷ []

abbrev pub second : List Term
second = under 10 (letter 1) ∷ letter 2 ∷ letter 3 ∷ letter 4 ∷ letter 5 ∷ letter 6 ∷ letter 7 ∷ letter 8 ∷ nothing 9 ∷ nothing 10 ∷ []

-- 9 is 1 ++ 2
abbrev pub joined : List Term
joined = letter 1 ∷ letter 2 ∷ letter 3 ∷ letter 4 ∷ letter 5 ∷ letter 6 ∷ letter 7 ∷ letter 8 ∷ own 9 3 1 0 ∷ []

abbrev pub pair : List Cell
pair = record { value = 1; other = 0; next = 2 } ∷ record { value = 2; other = 0; next = 0 } ∷ []

-- a store, two lists, and what is to be answered: the number of "" and the variables, or the number of a refusal; and how many terms there
-- are then
pub data Case : Type 0 where
  gives : Store → List ℕ → List ℕ → ℕ → List ℕ → ℕ → Case
  refused : Store → List ℕ → List ℕ → ℕ → Case

abbrev pub same_parts : Out Parts → ℕ → List ℕ → ℕ → Bool
same_parts (ok s x) e l n = eqb x.empty e && same_word x.listed l && eqb (length s.terms) n
same_parts (stop k) e l n = false

abbrev pub stopped : Out Parts → ℕ → Bool
stopped (ok s x) k = false
stopped (stop j) k = eqb j k

-- an entry as words
abbrev pub spelt : Entry → List ℕ
spelt e = e.variable ∷ e.word ∷ (if e.link then 1 else 0) ∷ []

abbrev pub is_done : Answer → Bool
is_done done = true
is_done saturated = false
is_done conflict = false
is_done (propagate v w f) = false
is_done (split l g n) = false

-- the same entries, and Done after both; or the same refusal
abbrev pub same_listing : Listing → Listing → Bool
same_listing (lists l a) (lists m b) = same_word (concat_map spelt l) (concat_map spelt m) && is_done a && is_done b
same_listing (lists l a) (stops k) = false
same_listing (lists l a) goes_on = false
same_listing (stops j) (lists m b) = false
same_listing (stops j) (stops k) = eqb j k
same_listing (stops j) goes_on = false
same_listing goes_on z = false

-- nine ordinary calls, each merge under an asserted reason of its own
abbrev pub nine : Store → List ℕ → List ℕ → Listing
nine s l r = repeated 9 (λ i. (1, i)) l r (pos 1) s (record { marks = []; joins = [] })

-- repeated calls say the same
unfoldable pub again : Store → List ℕ → List ℕ → Bool
again s l r = if is_label s l r then same_listing (nine s l r) (listing (empty_parts l r s)) else true

unfoldable pub holds : Case → Bool
holds (gives s l r e p n) = same_parts (empty_parts l r s) e p n && again s l r
holds (refused s l r k) = stopped (empty_parts l r s) k && again s l r

unfoldable pub cases : List Case
cases =
    -- a label of eight parts against an empty code, on either side
    gives (storing 9 apart []) [] eight 9 eight 9 ∷ gives (storing 9 apart []) eight [] 9 eight 9
    -- no room for ""
    ∷ refused (storing 8 apart []) [] eight 8
    -- 'Two or more' counts places; 'Two variables of one class give one entry'; one that became "" is not listed
    ∷ gives (storing 9 apart []) [] (4 ∷ 4 ∷ []) 9 (4 ∷ []) 9
    ∷ gives (storing 9 merged []) [] eight 9 (1 ∷ 4 ∷ 5 ∷ 6 ∷ 7 ∷ 8 ∷ []) 9
    ∷ gives (storing 9 merged []) [] (4 ∷ 2 ∷ 1 ∷ []) 9 (4 ∷ 2 ∷ []) 9
    ∷ gives (storing 9 merged []) [] (3 ∷ 3 ∷ []) 9 [] 9
    -- the class of the lowest-numbered "" alone counts
    ∷ gives (storing 10 second []) [] (1 ∷ 2 ∷ []) 9 (1 ∷ 2 ∷ []) 10
    -- flattened first
    ∷ gives (storing 10 joined pair) (9 ∷ 3 ∷ 1 ∷ []) [] 10 (1 ∷ 2 ∷ 3 ∷ []) 10
    -- other lists: none, and nothing is made
    ∷ gives (storing 8 apart []) [] [] 0 [] 8 ∷ gives (storing 8 apart []) [] (1 ∷ []) 0 [] 8 ∷ gives (storing 8 apart []) (1 ∷ []) (2 ∷ 3 ∷ []) 0 [] 8
    ∷ gives (storing 9 merged []) (9 ∷ []) (1 ∷ 2 ∷ []) 0 [] 9 ∷ gives (storing 9 merged []) [] (1 ∷ 9 ∷ []) 0 [] 9
    ∷ []

pub cases_hold : T (all holds cases)
unfolding cases holds again is_label unmet emptied sides empty_parts repeated join_terms put_edge put_class turn turns join_in all any first_of keep concat_map same_word is_in firsts up_to first_below term_in cell_in within text_in chain_by climb above_by nearest_in path_in is_number add_text add_term lookup lowest constant_of make_constant atoms_by flatten same fixed letters_of letters same_heads same_tails rest explain_match explain_matches strip is_full occurrence occurs unequal short absent constants is_plain alias empties assigns filled lead first_span fits tile_by tile differ clashes splits after steps resolve
cases_hold = tt

-- a label with 4 at two places and 2: the first call gives 4, the second 2, each to "" with the link flag, and a third gives Done
pub three_calls : nine (storing 9 apart []) [] (4 ∷ 2 ∷ 4 ∷ []) ≡ lists (record { variable = 4; word = 9; link = true } ∷ record { variable = 2; word = 9; link = true } ∷ []) done
unfolding repeated join_terms put_edge put_class turn turns join_in all any first_of keep concat_map same_word is_in firsts up_to first_below term_in cell_in within text_in chain_by climb above_by nearest_in path_in is_number add_text add_term lookup lowest constant_of make_constant atoms_by flatten same fixed letters_of letters same_heads same_tails rest explain_match explain_matches strip is_full occurrence occurs unequal short absent constants is_plain alias empties assigns filled lead first_span fits tile_by tile differ clashes splits after steps resolve
three_calls = refl
