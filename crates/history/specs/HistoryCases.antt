-- Lists of calls, run on a small store: after each call the audit passes, the classes are what the joins left standing generate, and each
-- standing mark leads back to the table that it was set at.
use Rattle.std.specs.Prelude.{Bool, true, false, not, ◌&&◌, List, [], ◌∷◌, ◌++◌, ℕ, suc, ◌-◌, length, eqb, T, if◌then◌else◌}
use Rattle.std.proofs.Math.Option.{Option, none, some}
use Rattle.records.specs.Lists.{all, any, first_of, table, same_word, is_in, firsts, seconds, up_to, all_below, first_below, one_more}
use Rattle.records.specs.Store.{Term, no_term, no_cell, Store, term_in, cell_in, within, count, text_in, chain_by, climb, above_by, nearest_in, path_in, same_class}
use Rattle.records.specs.View.{term_words, cell_words}
use Rattle.records.specs.Rules.{is_char, is_number, reason_rule, key_rule, cell_rule, text_rule, named, name_rule, part_rule, concat_rule, length_rule, is_equatable, equation_rule, term_rule, records_rule, parents_rule, ends_rule, alike_rule, alone_rule, edge_label, label_rule, classes_rule, pairs_of, falls_rule, congruence_rule, congruences_rule}
use Rattle.records.specs.Make.{own, add_reason, is_listed, same_pair, add_text, add_chain, chain_from, add_term, lookup, lowest, constant_of, concat_of, length_of, equation_of, make_constant, make_variable, make_concat, make_length, make_equation}
use Rattle.classes.specs.Joins.{put_edge, put_class, turn, turns, join_in, Trace, is_trace, undo_in}
use Rattle.classes.specs.Marks.{Trail, undo_all, rises, counts_rule, marks_rule, audit_trail}
use Rattle.classes.specs.Calls.{Outcome, gives, refuses, join_terms, set_mark, go_back}
use Rattle.history.specs.History.{World, start, standing_marks, cut_at, standing, marked_at, each_alone, with_later}
use Rattle.history.specs.Calls.{Call, join, set_mark_call, go_back_call, constant, variable, concat, length_of_term, equation, explain_pair_call, ask, after, run}
use Rattle.engine.specs.Explain.{was_seen, each, edge, highest, walk, walked, explain}
use Rattle.classes.specs.JoinCases.{same_term, same_table}

-- variables a, b, c and d, each its own class, and room for three terms more
abbrev pub letter : ℕ → Term
letter t = own t 2 (t - 1) 1

abbrev pub letters : List Term
letters = letter 1 ∷ letter 2 ∷ letter 3 ∷ letter 4 ∷ []

abbrev pub lettered : List Term → List ℕ → Store
lettered ts w = record {
  terms = ts;
  cells = [];
  chars = w;
  reasons = [];
  keys = [];
  names = 0;
  room = record { terms = 7; cells = 2; chars = 6; reasons = 4; keys = 0; terms_long = term_words 7; cells_long = cell_words 2; zero_term = (no_term, 0); zero_cell = no_cell };
}

abbrev pub abcd : List ℕ
abcd = 97 ∷ 98 ∷ 99 ∷ 100 ∷ []

unfoldable pub begun : World
begun = start (lettered letters abcd) (record { marks = []; joins = [] })

-- WHAT IS ASKED AFTER EACH CALL

-- a member of each class of what the pairs generate
unfoldable pub member : List (ℕ × ℕ) → ℕ → ℕ
member [] t = t
member (p ∷ l) t = if eqb (member l t) (member l p.0) then member l p.1 else member l t

abbrev pub same : Bool → Bool → Bool
same true b = b
same false b = not b

unfoldable pub divided : List (ℕ × ℕ) → Store → Bool
divided l s = all_below (λ t. all_below (λ u. same (same_class s (suc t) (suc u)) (eqb (member l (suc t)) (member l (suc u)))) (count s)) (count s)

abbrev pub leads_to : List Term → Outcome → Bool
leads_to ts (gives s x i) = same_table s.terms ts
leads_to ts (refuses k) = false

-- mark i, set at the table told, leads back to it
abbrev pub leads_back : World → ℕ → Option (List Term) → Bool
leads_back w i none = false
leads_back w i (some ts) = leads_to (with_later ts w.store.terms) (go_back i w.store w.trail)

unfoldable pub restored : World → Bool
restored w = all_below (λ i. leads_back w (suc i) (marked_at (suc i) w.history)) (length w.trail.marks)

unfoldable pub keeps : World → Bool
keeps w = eqb (audit_trail w.store w.trail) 0 && divided (standing w.history) w.store && restored w

unfoldable pub keeps_all : List Call → World → Bool
keeps_all [] w = keeps w
keeps_all (f ∷ l) w = keeps w && keeps_all l (after f w)

-- RUNS

-- a join before any mark, two marks with a join after each, a term made and joined, terms of one class, a number that is no term
unfoldable pub both : List Call
both = join 1 2 1 7 ∷ set_mark_call ∷ join 2 3 2 8 ∷ set_mark_call ∷ join 1 4 1 9 ∷ variable (120 ∷ []) ∷ join 5 3 1 9 ∷ join 5 1 1 1 ∷ join 9 1 1 1 ∷ []

-- back to the second, and to the first; a mark is set again, and the first is gone back to past it
unfoldable pub second : List Call
second = both ++ (go_back_call 2 ∷ [])

unfoldable pub first : List Call
first = both ++ (go_back_call 1 ∷ [])

unfoldable pub again : List Call
again = second ++ (join 4 5 1 3 ∷ set_mark_call ∷ join 3 4 1 2 ∷ go_back_call 1 ∷ go_back_call 1 ∷ [])

-- a concatenation, its length and an equation made and found again, between joins; one made without room
unfoldable pub makes : List Call
makes = set_mark_call ∷ join 1 2 1 1 ∷ concat (1 ∷ 2 ∷ []) ∷ set_mark_call ∷ join 5 3 1 2 ∷ length_of_term 5 ∷ equation 5 1 ∷ concat (1 ∷ 2 ∷ []) ∷ join 6 1 1 1 ∷ constant [] ∷ go_back_call 2 ∷ go_back_call 1 ∷ []

pub runs_kept : T (keeps_all again begun && keeps_all (first ++ (join 4 5 1 3 ∷ [])) begun && keeps_all makes begun)
unfolding begun member divided restored keeps keeps_all both second first again makes same_table same_term after run standing_marks cut_at standing marked_at each_alone join_terms set_mark go_back undo_all rises counts_rule marks_rule audit_trail put_edge put_class turn turns join_in is_trace undo_in add_text add_chain chain_from add_term lookup lowest named constant_of concat_of length_of equation_of make_constant make_variable make_concat make_length make_equation records_rule classes_rule congruences_rule term_rule cell_rule text_rule name_rule concat_rule part_rule length_rule equation_rule is_equatable is_char is_number reason_rule key_rule parents_rule ends_rule alike_rule alone_rule edge_label label_rule congruence_rule pairs_of falls_rule all any first_of table same_word is_in firsts seconds up_to all_below first_below term_in cell_in within text_in chain_by climb above_by nearest_in path_in
runs_kept = tt

-- FROM MARKS THAT STAND: where `both` ended, with another question's reasons, an explanation, a join and a mark

unfoldable pub resumed : World
resumed = start (run both begun).store (run both begun).trail

unfoldable pub passing : World → Bool
passing w = eqb (audit_trail w.store w.trail) 0 && restored w

unfoldable pub passing_all : List Call → World → Bool
passing_all [] w = passing w
passing_all (f ∷ l) w = passing w && passing_all l (after f w)

pub resumed_kept : T (passing_all (variable (121 ∷ []) ∷ set_mark_call ∷ join 6 1 1 4 ∷ explain_pair_call 6 2 ∷ go_back_call 3 ∷ ask [] ∷ go_back_call 2 ∷ go_back_call 1 ∷ []) resumed)
unfolding resumed passing passing_all begun restored both same_table same_term after run standing_marks cut_at marked_at each_alone join_terms set_mark go_back undo_all rises counts_rule marks_rule audit_trail put_edge put_class turn turns join_in is_trace undo_in add_text add_chain chain_from add_term lookup lowest named constant_of concat_of length_of equation_of make_constant make_variable make_concat make_length make_equation records_rule classes_rule congruences_rule term_rule cell_rule text_rule name_rule concat_rule part_rule length_rule equation_rule is_equatable is_char is_number reason_rule key_rule parents_rule ends_rule alike_rule alone_rule edge_label label_rule congruence_rule pairs_of falls_rule all any first_of table same_word is_in firsts seconds up_to all_below first_below term_in cell_in within text_in chain_by climb above_by nearest_in path_in was_seen each edge highest walk walked explain add_reason is_listed same_pair
resumed_kept = tt

-- what is left of the trail, each trace as three numbers
unfoldable pub traces : List Trace → List ℕ
traces [] = []
traces (y ∷ l) = y.child ∷ y.old_root ∷ y.under ∷ traces l

unfoldable pub same_trail : Trail → List ℕ → List ℕ → Bool
same_trail x ms js = same_word x.marks ms && same_word (traces x.joins) js

-- the tables at the first and at the second mark, with the term made since
abbrev pub at_first : List Term
at_first = one_more (join_in letters 1 2 1 7) (own 5 2 4 1)

abbrev pub at_second : List Term
at_second = one_more (join_in (join_in letters 1 2 1 7) 2 3 2 8) (own 5 2 4 1)

pub runs_end : T (same_trail (run both begun).trail (0 ∷ 1 ∷ []) (2 ∷ 2 ∷ 2 ∷ 1 ∷ 3 ∷ 3 ∷ 5 ∷ 5 ∷ 5 ∷ [])
    && same_table (run second begun).store.terms at_second && same_trail (run second begun).trail (0 ∷ []) (2 ∷ 2 ∷ 2 ∷ [])
    && same_table (run first begun).store.terms at_first && same_trail (run first begun).trail [] []
    && same_table (run again begun).store.terms at_first && same_trail (run again begun).trail [] [])
unfolding begun both second first again makes same_table same_term same_trail traces after run standing_marks cut_at join_terms set_mark go_back undo_all put_edge put_class turn turns join_in is_trace undo_in add_text add_chain chain_from add_term lookup lowest named constant_of concat_of length_of equation_of make_constant make_variable make_concat make_length make_equation is_equatable is_char is_number all any table same_word firsts all_below first_below term_in cell_in within text_in chain_by climb above_by
runs_end = tt

-- ANSWERS

abbrev pub told : ℕ → Outcome → Bool
told n (gives s x m) = eqb n m
told n (refuses k) = false

abbrev pub refused : ℕ → Outcome → Bool
refused n (gives s x m) = false
refused n (refuses k) = eqb n k

abbrev pub asking : (Store → Trail → Outcome) → List Call → Outcome
asking work l = work (run l begun).store (run l begun).trail

-- a join, one term twice, terms of one class; 5 before that: no term, a length, a kind or a number outside the rule
pub joins_told : T (told 1 (asking (join_terms 1 2 2 2147483647) []) && told 0 (asking (join_terms 1 1 1 7) []) && told 0 (asking (join_terms 5 1 1 7) both)
    && refused 5 (asking (join_terms 0 1 1 7) []) && refused 5 (asking (join_terms 1 5 1 7) []) && refused 5 (asking (join_terms 5 1 1 7) (length_of_term 1 ∷ []))
    && refused 5 (asking (join_terms 1 2 0 7) []) && refused 5 (asking (join_terms 1 2 3 7) []) && refused 5 (asking (join_terms 1 1 4 0) []) && refused 5 (asking (join_terms 1 2 1 2147483648) []))
unfolding begun both second first again makes same_table same_term same_trail traces after run standing_marks cut_at join_terms set_mark go_back undo_all put_edge put_class turn turns join_in is_trace undo_in add_text add_chain chain_from add_term lookup lowest named constant_of concat_of length_of equation_of make_constant make_variable make_concat make_length make_equation is_equatable is_char is_number all any table same_word firsts all_below first_below term_in cell_in within text_in chain_by climb above_by
joins_told = tt

-- marks are numbered by position; a mark that does not stand, and the 65th
pub marks_told : T (told 1 (asking set_mark []) && told 3 (asking set_mark both) && told 2 (asking set_mark second) && told 1 (asking set_mark again)
    && told 2 (asking (go_back 2) both) && refused 10 (asking (go_back 0) both) && refused 10 (asking (go_back 3) both) && refused 10 (asking (go_back 1) [])
    && told 64 (set_mark (lettered letters abcd) (record { marks = table (λ i. 0) 63; joins = [] })) && refused 10 (set_mark (lettered letters abcd) (record { marks = table (λ i. 0) 64; joins = [] })))
unfolding begun both second first again makes same_table same_term same_trail traces after run standing_marks cut_at join_terms set_mark go_back undo_all put_edge put_class turn turns join_in is_trace undo_in add_text add_chain chain_from add_term lookup lowest named constant_of concat_of length_of equation_of make_constant make_variable make_concat make_length make_equation is_equatable is_char is_number all any table same_word firsts all_below first_below term_in cell_in within text_in chain_by climb above_by
marks_told = tt
