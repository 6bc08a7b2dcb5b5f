-- Other cases of document 01, of the deep form and of the step over one equation, and those of document 02's Note 5, by computing.
use Rattle.std.specs.Prelude.{Bool, true, false, ◌&&◌, List, [], ◌∷◌, ◌++◌, ℕ, zero, suc, length, pos, negsuc, eqb, T}
use Rattle.std.proofs.Math.Option.{Option, none, some}
use Rattle.records.specs.Lists.{all, any, first_of, keep, concat_map, table, same_word, is_in, firsts, seconds, up_to, all_below, first_below}
use Rattle.records.specs.Store.{Out, ok, stop, count, ◌>>=◌, ◌>>◌, term_in, cell_in, within, text_in, chain_by, climb, above_by, nearest_in, path_in}
use Rattle.records.specs.Rules.{is_char, is_number, reason_rule, key_rule, cell_rule, text_rule, named, name_rule, part_rule, concat_rule, length_rule, is_equatable, equation_rule, term_rule, records_rule, parents_rule, ends_rule, alike_rule, alone_rule, edge_label, label_rule, classes_rule, pairs_of, falls_rule, congruence_rule, congruences_rule, audit_store}
use Rattle.records.specs.Make.{same_pair, is_listed, add_reason, is_key, add_key, add_text, chain_from, add_chain, add_term, lookup, lowest, constant_of, concat_of, length_of, equation_of, make_constant, make_variable, make_concat, make_length, make_equation, decimal_by, name_of, is_taken, take_name_by, take_name}
use Rattle.engine.specs.Explain.{was_seen, each, edge, highest, walk, walked, explain, is_reasoned}
use Rattle.normalize.specs.Normalize.{atoms_by, flatten, representative, substitute, join, push, push_all, push_forms, normal_form, expand, settle, rounds, deep_form}
use Rattle.sides.specs.Wordeq.{Answer, conflict, propagate, split, same, fixed, letters_of, letters, same_heads, same_tails, rest, explain_match, explain_matches, needs_reason, strip, is_full, occurrence, occurs, unequal, short, absent, constants, is_plain, alias, empties, assigns, filled, lead, first_span, fits, explain_all, tile_by, tile, differ, clashes, fresh_variable, one_if_absent, split_character, split_heads, splits, after, steps, resolve}
use Rattle.equation.specs.Equation.{Stepped, unexpanded, answered, step}
use Rattle.cases.specs.Cases.{empty, codes, Line, con, var, cat, len, equal, by, merged, line, build, number, values, guard_of, same_guard, same_pairs, Case, case, holds}

-- the step's answer with its reasons
abbrev pub is_unexpanded : Out Stepped → Bool
is_unexpanded (ok s unexpanded) = eqb (length s.reasons) 0
is_unexpanded (ok s (answered x)) = false
is_unexpanded (stop n) = false

abbrev pub answers : Answer → List (ℕ × ℕ) → Out Stepped → Bool
answers x rs (ok s unexpanded) = false
answers x rs (ok s (answered y)) = eqb (number y) (number x) && same_word (values y) (values x) && same_guard (guard_of y) (guard_of x) && same_pairs s.reasons rs
answers x rs (stop n) = false

-- an equation of two terms, guard 9
unfoldable pub run : List Line → ℕ → ℕ → List ℕ → Out Stepped
run ls a b known = (build ls >> make_equation a b >>= (λ e. step known e (pos 9))) empty

-- the three answers of the example of 'Program `labelstep`': x ++ "a" = "b"; y merged with x by a3, x = "b" ++ y; x = "b"
unfoldable pub example : Bool
example =
    let three : List Line = var "x" ∷ con "a" ∷ cat (1 ∷ 2 ∷ []) ∷ con "b" ∷ [] in
    let known : List ℕ = 1 ∷ 2 ∷ 3 ∷ 4 ∷ [] in
    answers conflict [] (run three 3 4 known)
    && answers conflict ((1, 3) ∷ []) (run (three ++ (var "y" ∷ by 5 1 3 1 ∷ cat (4 ∷ 5 ∷ []) ∷ [])) 1 6 known)
    && answers (propagate 1 4 false) [] (run three 1 4 known)

-- x++y++x, x's representative "a"++z: Unexpanded
unfoldable pub twice : Bool
twice = is_unexpanded (run (var "x" ∷ con "a" ∷ var "z" ∷ cat (2 ∷ 3 ∷ []) ∷ var "y" ∷ cat (1 ∷ 5 ∷ 1 ∷ []) ∷ by 1 4 2 1 ∷ []) 6 2 (4 ∷ []))

unfoldable pub form_of : List Line → List ℕ → ℕ → Out (Option (List ℕ))
form_of ls known t = (build ls >> deep_form known t) empty

abbrev pub length_is : ℕ → Out (Option (List ℕ)) → Bool
length_is n (ok s none) = false
length_is n (ok s (some l)) = eqb (length l) n
length_is n (stop k) = false

abbrev pub is_none : Out (Option (List ℕ)) → Bool
is_none (ok s none) = true
is_none (ok s (some l)) = false
is_none (stop k) = false

-- x ++ x and so on: the term of number n + 1 has 2 ^ n atoms
unfoldable pub doubled : ℕ → ℕ → List Line
doubled zero t = []
doubled (suc n) t = cat (t ∷ t ∷ []) ∷ doubled n (suc t)

-- 256 deep atoms pass, 257 don't
unfoldable pub atoms256 : Bool
atoms256 = length_is 256 (form_of (var "x" ∷ doubled 8 1) [] 9) && is_none (form_of (var "x" ∷ doubled 8 1 ++ (cat (9 ∷ 1 ∷ []) ∷ [])) [] 10)

-- HOW MANY TERMS A SPLIT MAKES

-- [x,y] = [y,x] with these terms after x and y: a split over two heads
abbrev pub heads : List Line → List ℕ → ℕ → Case
heads ls atoms n = case (var "x" ∷ var "y" ∷ ls) (1 ∷ 2 ∷ []) (2 ∷ 1 ∷ []) (split atoms (negsuc 8) n) []

-- [x,y] = ["ab",x] with these terms after x, y and "ab": a split over a character
abbrev pub character : List Line → List ℕ → ℕ → Case
character ls atoms n = case (var "x" ∷ var "y" ∷ con "ab" ∷ ls) (1 ∷ 2 ∷ []) (3 ∷ 1 ∷ []) (split atoms (negsuc 8) n) []

unfoldable pub counted : List Case
counted =
    heads [] (5 ∷ 8 ∷ 11 ∷ []) 9
    -- len y; len x and len y
    ∷ heads (len 2 ∷ []) (5 ∷ 8 ∷ 11 ∷ []) 8
    ∷ heads (len 1 ∷ len 2 ∷ []) (5 ∷ 8 ∷ 11 ∷ []) 7
    -- and the equation of the lengths: len y = len x is another one than len x = len y
    ∷ heads (len 1 ∷ len 2 ∷ equal 4 3 ∷ []) (6 ∷ 9 ∷ 12 ∷ []) 7
    ∷ heads (len 1 ∷ len 2 ∷ equal 3 4 ∷ []) (5 ∷ 8 ∷ 11 ∷ []) 6
    -- [""] = [x,y]: over the heads "" and x
    ∷ case (con "" ∷ var "x" ∷ var "y" ∷ []) (1 ∷ []) (2 ∷ 3 ∷ []) (split (6 ∷ 9 ∷ 12 ∷ []) (negsuc 8) 9) []
    ∷ character [] (5 ∷ 9 ∷ []) 6
    -- ""; "a"; "" and x = ""; all three
    ∷ character (con "" ∷ []) (5 ∷ 9 ∷ []) 5
    ∷ character (con "a" ∷ []) (6 ∷ 9 ∷ []) 5
    ∷ character (con "" ∷ equal 1 4 ∷ []) (5 ∷ 9 ∷ []) 4
    ∷ character (con "" ∷ equal 1 4 ∷ con "a" ∷ []) (5 ∷ 9 ∷ []) 3
    ∷ []

abbrev pub count_is : ℕ → Out Stepped → Bool
count_is n (ok s x) = eqb (count s) n
count_is n (stop k) = false

-- x ++ "a" ++ "b" = y ++ x: of the ten terms after the equation, which is the seventh, one is the normal form's "ab"
unfoldable pub within_wordeq : Bool
within_wordeq =
    let o = run (var "x" ∷ con "a" ∷ con "b" ∷ cat (1 ∷ 2 ∷ 3 ∷ []) ∷ var "y" ∷ cat (5 ∷ 1 ∷ []) ∷ []) 4 6 [] in
    answers (split (11 ∷ 14 ∷ 17 ∷ []) (negsuc 8) 9) [] o && count_is 17 o

pub others_hold : T (example && twice && atoms256 && all holds counted && within_wordeq)
unfolding example twice run form_of doubled atoms256 counted within_wordeq holds same_pairs build line merged codes all any first_of keep concat_map table same_word is_in firsts seconds up_to all_below first_below term_in cell_in within text_in chain_by climb above_by nearest_in path_in is_char is_number reason_rule key_rule cell_rule text_rule named name_rule part_rule concat_rule length_rule is_equatable equation_rule term_rule records_rule parents_rule ends_rule alike_rule alone_rule edge_label label_rule classes_rule pairs_of falls_rule congruence_rule congruences_rule audit_store same_pair is_listed add_reason is_key add_key add_text chain_from add_chain add_term lookup lowest constant_of concat_of length_of equation_of make_constant make_variable make_concat make_length make_equation decimal_by name_of is_taken take_name_by take_name was_seen each edge highest walk walked explain is_reasoned atoms_by flatten same fixed letters_of letters same_heads same_tails rest explain_match explain_matches needs_reason strip is_full occurrence occurs unequal short absent constants is_plain alias empties assigns filled lead first_span fits explain_all tile_by tile differ clashes fresh_variable one_if_absent split_character split_heads splits after steps resolve representative substitute join push push_all push_forms normal_form expand settle rounds deep_form step
others_hold = tt
