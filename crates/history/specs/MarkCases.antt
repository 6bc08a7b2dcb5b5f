-- The audit's answer on good trails and on trails with a rule broken, by computing.
use Rattle.std.specs.Prelude.{Bool, true, ◌&&◌, List, [], ◌∷◌, ℕ, replicate, eqb, T}
use Rattle.records.specs.Lists.{all, any, first_of, table, same_word, is_in, firsts, seconds, up_to, all_below, first_below}
use Rattle.records.specs.Store.{Term, Store, term_in, cell_in, within, text_in, chain_by, climb, above_by, nearest_in, path_in}
use Rattle.records.specs.View.{sizes}
use Rattle.records.specs.Index.{numbers, sum, bucket_of, next_in, index_rule}
use Rattle.records.specs.Rules.{is_char, is_number, reason_rule, key_rule, cell_rule, text_rule, named, name_rule, part_rule, concat_rule, length_rule, is_equatable, equation_rule, term_rule, records_rule, parents_rule, ends_rule, alike_rule, alone_rule, edge_label, label_rule, classes_rule, pairs_of, falls_rule, congruence_rule, congruences_rule, audit_index}
use Rattle.records.specs.Make.{with_class, with_edge, add_text, add_term, lookup, lowest, make_variable}
use Rattle.records.specs.AuditCases.{good, good_heads, good_terms, good_cells, good_counts}
use Rattle.classes.specs.declared.Standing.{Standing}
use Rattle.classes.specs.Joins.{put_edge, put_class, turn, turns, join_in, Trace, trace, is_trace, undo_in}
use Rattle.classes.specs.Marks.{Trail, trail_sizes, undo_all, rises, counts_rule, marks_rule, audit_trail, audit_marks}
use Rattle.classes.specs.Calls.{join_terms, set_mark}
use Rattle.history.specs.History.{standing_marks}
use Rattle.history.specs.Calls as calls
use Rattle.history.specs.Calls.{run}
use Rattle.history.specs.HistoryCases.{letter, lettered, abcd, begun, both}

-- the trail of `both`: a mark, 2 joined with 3, a mark, 1 with 4, 5 with 3. Its tree has the root 4, and so has its class
abbrev pub trailed : List ℕ → List Trace → Trail
trailed ms js = record { marks = ms; joins = js }

abbrev pub after : List ℕ → Trace → Trace → Trace → Trail
after ms x y z = trailed ms (x ∷ y ∷ z ∷ [])

abbrev pub marked : List ℕ → Trail
marked ms = after ms (trace 2 2 2) (trace 1 3 3) (trace 5 5 5)

-- a trail with this for the second trace
abbrev pub instead : Trace → Trail
instead y = after (0 ∷ 1 ∷ []) (trace 2 2 2) y (trace 5 5 5)

unfoldable pub audits : Store → List (Trail × ℕ) → Bool
audits s [] = true
audits s (p ∷ l) = eqb (audit_trail s p.0) p.1 && audits s l

unfoldable pub trails : List (Trail × ℕ)
trails =
    -- as it is; fewer marks, more marks; nothing
    (marked (0 ∷ 1 ∷ []), 0)
    ∷ (marked (0 ∷ []), 0)
    ∷ (marked (0 ∷ 0 ∷ 1 ∷ 2 ∷ 3 ∷ []), 0)
    ∷ (trailed [] [], 0)
    ∷ (trailed (0 ∷ 0 ∷ []) [], 0)
    -- no term
    ∷ (instead (trace 9 3 3), 3)
    ∷ (instead (trace 0 3 3), 3)
    ∷ (instead (trace 1 9 3), 3)
    ∷ (instead (trace 1 3 0), 3)
    -- a child that is a root of its tree, a class root that is its own parent
    ∷ (instead (trace 4 3 3), 3)
    ∷ (instead (trace 1 3 4), 3)
    -- a table of which trees and classes are not alike; and one that a trace cannot be undone in
    ∷ (instead (trace 2 3 3), 3)
    ∷ (instead (trace 1 2 3), 3)
    -- counts that fall, that are above the joins, a first mark's word above 0, joins where no mark stands
    ∷ (marked (0 ∷ 2 ∷ 1 ∷ []), 3)
    ∷ (marked (0 ∷ 4 ∷ []), 3)
    ∷ (marked (1 ∷ []), 3)
    ∷ (marked (1 ∷ 1 ∷ []), 3)
    ∷ (marked [], 3)
    -- a table between marks is not asked, until a mark is there
    ∷ (after (0 ∷ 1 ∷ []) (trace 2 2 2) (trace 1 3 5) (trace 5 5 3), 0)
    ∷ (after (0 ∷ 1 ∷ 2 ∷ []) (trace 2 2 2) (trace 1 3 5) (trace 5 5 3), 3)
    ∷ []

pub trails_audited : T (audits (run both begun).store trails)
unfolding audits trails begun both calls.after run standing_marks join_terms set_mark undo_all rises counts_rule marks_rule audit_trail put_edge put_class turn turns join_in is_trace undo_in add_text add_term lookup lowest named make_variable records_rule classes_rule congruences_rule term_rule cell_rule text_rule name_rule concat_rule part_rule length_rule equation_rule is_equatable is_char is_number reason_rule key_rule parents_rule ends_rule alike_rule alone_rule edge_label label_rule congruence_rule pairs_of falls_rule all any first_of table same_word is_in firsts seconds up_to all_below first_below term_in cell_in within text_in chain_by climb above_by nearest_in path_in
trails_audited = tt

-- THE ORDER OF REFUSALS

-- b under a by a congruence edge, though neither is a concatenation; b under a in its class alone; b of no kind
abbrev pub letter_two : Term → Store
letter_two x = lettered (letter 1 ∷ x ∷ letter 3 ∷ letter 4 ∷ []) abcd

abbrev pub fourth : Store
fourth = letter_two (with_edge (with_class (letter 2) 1) 1 3 0 1)

abbrev pub third : Store
third = letter_two (with_class (letter 2) 1)

abbrev pub second : Store
second = letter_two (record { kind = 9; first = 1; second = 1; class_parent = 1; forest_parent = 2; label_kind = 0; label_value = 0; stamp = 0 })

-- a mark that leads back to a table that 4 is due of is 3, and so is a damaged trail, before the table's own 4; 2 is before both
unfoldable pub ordered : List (Trail × ℕ)
ordered = (trailed [] [], 4) ∷ (trailed (0 ∷ []) [], 3) ∷ (trailed [] (trace 1 1 1 ∷ []), 3) ∷ (trailed (1 ∷ []) [], 3) ∷ []

pub order_audited : T (audits fourth ordered && audits third ((trailed [] [], 3) ∷ (trailed (0 ∷ []) [], 3) ∷ []) && audits second ((trailed [] [], 2) ∷ (trailed (1 ∷ []) [], 2) ∷ []))
unfolding audits ordered undo_all rises counts_rule marks_rule audit_trail put_edge put_class turn turns is_trace undo_in records_rule classes_rule congruences_rule term_rule cell_rule text_rule name_rule named concat_rule part_rule length_rule equation_rule is_equatable is_char is_number reason_rule key_rule parents_rule ends_rule alike_rule alone_rule edge_label label_rule congruence_rule pairs_of falls_rule all any first_of table same_word is_in firsts seconds up_to all_below term_in cell_in within text_in chain_by climb above_by nearest_in path_in
order_audited = tt

-- WORDS LENT FOR MARKS

abbrev pub standing : ℕ → ℕ → Standing
standing m j = record { marks = m; joins = j }

unfoldable pub words : ℕ → ℕ → ℕ → ℕ
words n m j = audit_marks good (replicate n 0) good_counts (standing m j)

-- 1 where a count is above its limit or the slice is too short for all that it may hold, though no mark stands
pub sizes_audited : T (eqb (words 1597 0 0) 0 && eqb (words 1597 64 0) 0 && eqb (words 1596 0 0) 1 && eqb (words 1597 65 0) 1 && eqb (words 1597 1 512) 1 && eqb (words 1597 0 1) 3 && eqb (words 1597 1 511) 3)
unfolding words audit_marks audit_index index_rule numbers sum bucket_of next_in first_below trail_sizes sizes good_heads good_terms good_cells undo_all rises counts_rule marks_rule audit_trail put_edge put_class turn turns is_trace undo_in records_rule classes_rule congruences_rule term_rule cell_rule text_rule name_rule named concat_rule part_rule length_rule equation_rule is_equatable is_char is_number reason_rule key_rule parents_rule ends_rule alike_rule alone_rule edge_label label_rule congruence_rule pairs_of falls_rule all any first_of table same_word is_in firsts seconds up_to all_below term_in cell_in within text_in chain_by climb above_by nearest_in path_in
sizes_audited = tt
