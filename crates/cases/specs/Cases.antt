-- Document 01, 'Label cases (starred: proved)', as one table, and one fact: the definition that the contracts cite gives each answer.
use Rattle.std.specs.Prelude.{Bool, true, false, ◌&&◌, List, [], ◌∷◌, ℕ, length, ℤ, pos, negsuc, eqb, T}
use Prim.Native.Char.{code}
use Prim.Native.String.{String}
use Rattle.records.specs.Lists.{all, any, first_of, keep, concat_map, table, same_word, is_in, firsts, seconds, up_to, all_below, first_below}
use Rattle.records.specs.Store.{Store, no_term, no_cell, Out, ok, stop, Work, ◌>>=◌, ◌>>◌, give, store, put, term_in, cell_in, within, text_in, chain_by, climb, above_by, nearest_in, path_in}
use Rattle.records.specs.View.{term_words, cell_words}
use Rattle.records.specs.Rules.{is_char, is_number, reason_rule, key_rule, cell_rule, text_rule, named, name_rule, part_rule, concat_rule, length_rule, is_equatable, equation_rule, term_rule, records_rule, parents_rule, ends_rule, alike_rule, alone_rule, edge_label, label_rule, classes_rule, pairs_of, falls_rule, congruence_rule, congruences_rule, audit_store}
use Rattle.records.specs.Make.{with_terms, with_reasons, same_pair, is_listed, add_reason, is_key, add_key, add_text, chain_from, add_chain, add_term, lookup, lowest, constant_of, concat_of, length_of, equation_of, make_constant, make_variable, make_concat, make_length, make_equation, decimal_by, name_of, is_taken, take_name_by, take_name}
use Rattle.classes.specs.Merge.{merge_in}
use Rattle.engine.specs.Explain.{was_seen, each, edge, highest, walk, walked, explain, is_reasoned}
use Rattle.normalize.specs.Normalize.{atoms_by, flatten}
use Rattle.sides.specs.Wordeq.{Answer, done, saturated, conflict, propagate, split, same, fixed, letters_of, letters, same_heads, same_tails, rest, explain_match, explain_matches, needs_reason, strip, is_full, occurrence, occurs, unequal, short, absent, constants, is_plain, alias, empties, assigns, filled, lead, first_span, fits, explain_all, tile_by, tile, differ, clashes, fresh_variable, one_if_absent, split_character, split_heads, splits, after, steps, resolve}

-- STORES, line by line as `labelstep` builds them

abbrev pub empty : Store
empty = record {
  terms = [];
  cells = [];
  chars = [];
  reasons = [];
  keys = [];
  names = 0;
  room = record { terms = 512; cells = 2048; chars = 16384; reasons = 4096; keys = 4096; terms_long = term_words 512; cells_long = cell_words 2048; zero_term = (no_term, 0); zero_cell = no_cell };
}

unfoldable pub codes : String → List ℕ
codes String.[] = []
codes (String.◌∷◌ c s) = code c ∷ codes s

-- a constant, a variable, a concatenation, a length, an equation, a class under another by an asserted reason (its stamp given)
pub data Line : Type 0 where
  con : String → Line
  var : String → Line
  cat : List ℕ → Line
  len : ℕ → Line
  equal : ℕ → ℕ → Line
  by : ℕ → ℕ → ℕ → ℕ → Line

unfoldable pub merged : ℕ → ℕ → ℕ → ℕ → Store → Store
merged c p n m s = with_terms s (merge_in s.terms c p n m)

unfoldable pub line : Line → Work ℕ
line (con x) = make_constant (codes x)
line (var x) = make_variable (codes x)
line (cat l) = make_concat l
line (len a) = make_length a
line (equal a b) = make_equation a b
line (by c p n m) = do
  s ← store
  put (merged c p n m s)
  give c

unfoldable pub build : List Line → Work (Unit {0})
build [] = give tt
build (x ∷ l) = line x >> build l

-- ANSWERS

abbrev pub same_guard : ℤ → ℤ → Bool
same_guard (pos a) (pos b) = eqb a b
same_guard (pos a) (negsuc b) = false
same_guard (negsuc a) (pos b) = false
same_guard (negsuc a) (negsuc b) = eqb a b

-- an answer's number, as the C interface has it, and its values
abbrev pub number : Answer → ℕ
number done = 0
number saturated = 1
number conflict = 2
number (propagate v w k) = 3
number (split l g n) = 4

abbrev pub flag : Bool → ℕ
flag true = 1
flag false = 0

abbrev pub values : Answer → List ℕ
values done = []
values saturated = []
values conflict = []
values (propagate v w k) = v ∷ w ∷ flag k ∷ []
values (split l g n) = n ∷ l

abbrev pub guard_of : Answer → ℤ
guard_of done = pos 0
guard_of saturated = pos 0
guard_of conflict = pos 0
guard_of (propagate v w k) = pos 0
guard_of (split l g n) = g

-- a Split adds the key of its heads, and no other answer adds one
abbrev pub keys_of : Answer → ℕ
keys_of done = 0
keys_of saturated = 0
keys_of conflict = 0
keys_of (propagate v w k) = 0
keys_of (split l g n) = 1

unfoldable pub same_pairs : List (ℕ × ℕ) → List (ℕ × ℕ) → Bool
same_pairs [] [] = true
same_pairs [] (y ∷ ys) = false
same_pairs (x ∷ xs) [] = false
same_pairs (x ∷ xs) (y ∷ ys) = same_pair x y && same_pairs xs ys

pub record Case : Type 0 where
  pub lines : List Line
  pub left : List ℕ
  pub right : List ℕ
  pub incoming : List (ℕ × ℕ)
  pub expected : Answer
  pub reasons : List (ℕ × ℕ)

abbrev pub case : List Line → List ℕ → List ℕ → Answer → List (ℕ × ℕ) → Case
case ls l r x rs = record { lines = ls; left = l; right = r; incoming = []; expected = x; reasons = rs }

-- the same with a reason handed in
abbrev pub case_after : List (ℕ × ℕ) → List Line → List ℕ → List ℕ → Answer → List (ℕ × ℕ) → Case
case_after rs₀ ls l r x rs = record { lines = ls; left = l; right = r; incoming = rs₀; expected = x; reasons = rs }

abbrev pub agrees : Case → Out Answer → Bool
agrees c (ok s x) = eqb (number x) (number c.expected) && same_word (values x) (values c.expected) && same_guard (guard_of x) (guard_of c.expected)
    && same_pairs s.reasons c.reasons
    && eqb (length s.keys) (keys_of c.expected)
agrees c (stop n) = false

-- guard 9, on a store that passes the audit
abbrev pub resolved : Case → Out (Unit {0}) → Bool
resolved c (stop n) = false
resolved c (ok s x) = eqb (audit_store s) 0 && agrees c (resolve c.left c.right (pos 9) (with_reasons s c.incoming))

unfoldable pub holds : Case → Bool
holds c = resolved c (build c.lines empty)

unfoldable pub starred : List Case
starred =
    -- [] = []: Done
    case [] [] [] done []
    -- ["a",x] = ["ab",y]: Done
    ∷ case (con "a" ∷ var "x" ∷ con "ab" ∷ var "y" ∷ []) (1 ∷ 2 ∷ []) (3 ∷ 4 ∷ []) done []
    -- [v] = ["a",u,"b"], u and v merged by a5: Conflict, a5
    ∷ case (var "v" ∷ var "u" ∷ con "a" ∷ con "b" ∷ by 2 1 5 1 ∷ []) (1 ∷ []) (3 ∷ 2 ∷ 4 ∷ []) conflict ((1, 5) ∷ [])
    -- [v] = [x,"a",y], v and "a" merged: Split
    ∷ case (var "v" ∷ var "x" ∷ con "a" ∷ var "y" ∷ by 1 3 5 1 ∷ []) (1 ∷ []) (2 ∷ 3 ∷ 4 ∷ []) (split (7 ∷ 10 ∷ 13 ∷ []) (negsuc 8) 9) []
    -- [u,"z",w] = ["bzc"], w and u merged by a7: Conflict, a7
    ∷ case (var "u" ∷ con "z" ∷ var "w" ∷ con "bzc" ∷ by 3 1 7 1 ∷ []) (1 ∷ 2 ∷ 3 ∷ []) (4 ∷ []) conflict ((1, 7) ∷ [])
    -- [] = [x,y], x and "" merged: Propagate y
    ∷ case (var "x" ∷ var "y" ∷ con "" ∷ by 1 3 1 1 ∷ []) [] (1 ∷ 2 ∷ []) (propagate 2 3 true) []
    -- [!strk0] = [x]: Split
    ∷ case (var "!strk0" ∷ var "x" ∷ []) (1 ∷ []) (2 ∷ []) (split (5 ∷ 8 ∷ 11 ∷ []) (negsuc 8) 9) []
    -- [x,u] = [y,"a"], x and y merged by a9: Propagate u "a", a9
    ∷ case (var "x" ∷ var "u" ∷ var "y" ∷ con "a" ∷ by 1 3 9 1 ∷ []) (1 ∷ 2 ∷ []) (3 ∷ 4 ∷ []) (propagate 2 4 false) ((1, 9) ∷ [])
    -- the same with i4 handed in
    ∷ case_after ((2, 4) ∷ []) (var "x" ∷ var "u" ∷ var "y" ∷ con "a" ∷ by 1 3 9 1 ∷ []) (1 ∷ 2 ∷ []) (3 ∷ 4 ∷ []) (propagate 2 4 false) ((2, 4) ∷ (1, 9) ∷ [])
    -- [x,u,w] = [y,"a",z], same merge: Saturated
    ∷ case (var "x" ∷ var "u" ∷ var "w" ∷ var "y" ∷ con "a" ∷ var "z" ∷ by 1 4 9 1 ∷ []) (1 ∷ 2 ∷ 3 ∷ []) (4 ∷ 5 ∷ 6 ∷ []) saturated []
    ∷ []

pub starred_hold : T (all holds starred)
unfolding starred holds same_pairs build line merged codes all any first_of keep concat_map table same_word is_in firsts seconds up_to all_below first_below term_in cell_in within text_in chain_by climb above_by nearest_in path_in is_char is_number reason_rule key_rule cell_rule text_rule named name_rule part_rule concat_rule length_rule is_equatable equation_rule term_rule records_rule parents_rule ends_rule alike_rule alone_rule edge_label label_rule classes_rule pairs_of falls_rule congruence_rule congruences_rule audit_store same_pair is_listed add_reason is_key add_key add_text chain_from add_chain add_term lookup lowest constant_of concat_of length_of equation_of make_constant make_variable make_concat make_length make_equation decimal_by name_of is_taken take_name_by take_name was_seen each edge highest walk walked explain is_reasoned atoms_by flatten same fixed letters_of letters same_heads same_tails rest explain_match explain_matches needs_reason strip is_full occurrence occurs unequal short absent constants is_plain alias empties assigns filled lead first_span fits explain_all tile_by tile differ clashes fresh_variable one_if_absent split_character split_heads splits after steps resolve
starred_hold = tt
