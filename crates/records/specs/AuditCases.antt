-- The audit's answer on one good store and on that store with a rule or its index broken, by computing.
use Rattle.std.specs.Prelude.{Bool, ◌&&◌, List, [], ◌∷◌, ◌++◌, ℕ, zero, suc, set, drop, eqb, T}
use Rattle.records.specs.declared.State.{State}
use Rattle.records.specs.Lists.{all, any, first_of, table, same_word, is_in, firsts, seconds, up_to, all_below, first_below}
use Rattle.records.specs.Store.{Store, term_in, cell_in, within, text_in, chain_by, climb, above_by, nearest_in, path_in}
use Rattle.records.specs.View.{Lent, lent, buckets, term_place, cell_place, store_of, sizes}
use Rattle.records.specs.Index.{numbers, sum, bucket_of, next_in, head_of, next_of, index_rule}
use Rattle.records.specs.Rules.{is_char, is_number, reason_rule, key_rule, cell_rule, text_rule, named, name_rule, part_rule, concat_rule, length_rule, is_equatable, equation_rule, term_rule, records_rule, parents_rule, ends_rule, alike_rule, alone_rule, edge_label, label_rule, classes_rule, pairs_of, falls_rule, congruence_rule, congruences_rule, audit_store, audit_index, audit}

-- the length of x is alone in bucket 4 + 1, x = y in 5 + 1 + 2, x in 2 + 120 less 64, y in 2 + 121 less 64; x ++ y and y ++ x are both in 3 + 1 + 2
unfoldable pub good_heads : List ℕ
good_heads = set (set (set (set (set (table (λ b. 0) buckets) 5 5) 6 3) 8 6) 58 1) 59 2

-- variables x and y, merged by a7; x ++ y and y ++ x, joined by congruence; the length of x; x = y
unfoldable pub good_terms : List ℕ
good_terms =
    good_heads
    ++ (0 ∷ 0 ∷ 0 ∷ 0 ∷ 0 ∷ 0 ∷ 0 ∷ 0 ∷ 0 ∷ [])
    ++ (2 ∷ 0 ∷ 1 ∷ 1 ∷ 1 ∷ 0 ∷ 0 ∷ 0 ∷ 0 ∷ [])
    ++ (2 ∷ 1 ∷ 1 ∷ 1 ∷ 1 ∷ 1 ∷ 7 ∷ 1 ∷ 0 ∷ [])
    ++ (3 ∷ 1 ∷ 0 ∷ 4 ∷ 3 ∷ 0 ∷ 0 ∷ 0 ∷ 4 ∷ [])
    ++ (3 ∷ 3 ∷ 0 ∷ 4 ∷ 3 ∷ 3 ∷ 5 ∷ 2 ∷ 0 ∷ [])
    ++ (4 ∷ 1 ∷ 0 ∷ 5 ∷ 5 ∷ 0 ∷ 0 ∷ 0 ∷ 0 ∷ [])
    ++ (5 ∷ 1 ∷ 2 ∷ 6 ∷ 6 ∷ 0 ∷ 0 ∷ 0 ∷ 0 ∷ [])

-- the parts x, y; the parts y, x; the pairs (y, x), (x, y)
unfoldable pub good_cells : List ℕ
good_cells =
    (0 ∷ 0 ∷ 0 ∷ [])
    ++ (1 ∷ 0 ∷ 2 ∷ 2 ∷ 0 ∷ 0 ∷ [])
    ++ (2 ∷ 0 ∷ 4 ∷ 1 ∷ 0 ∷ 0 ∷ [])
    ++ (2 ∷ 1 ∷ 6 ∷ 1 ∷ 2 ∷ 0 ∷ [])

abbrev pub good : Lent
good = lent good_terms good_cells (120 ∷ 121 ∷ []) (1 ∷ 5 ∷ []) (1 ∷ 2 ∷ [])

abbrev pub counts : ℕ → ℕ → ℕ → ℕ → ℕ → State
counts t e h r k = record { terms = t; cells = e; chars = h; reasons = r; keys = k; names = 0 }

abbrev pub good_counts : State
good_counts = counts 6 6 2 1 1

-- a word that is put into a slice: the head of bucket b, word k of term t or of cell c, word i of the others
pub data Damage : Type 0 where
  in_head : ℕ → ℕ → Damage
  in_term : ℕ → ℕ → ℕ → Damage
  in_cell : ℕ → ℕ → ℕ → Damage
  in_chars : ℕ → ℕ → Damage
  in_reasons : ℕ → ℕ → Damage
  in_keys : ℕ → ℕ → Damage

unfoldable pub damage : List Damage → Lent → Lent
damage [] m = m
damage (in_head b v ∷ l) m = damage l (lent (set m.terms b v) m.cells m.chars m.reasons m.keys)
damage (in_term t k v ∷ l) m = damage l (lent (set m.terms (term_place t k) v) m.cells m.chars m.reasons m.keys)
damage (in_cell c k v ∷ l) m = damage l (lent m.terms (set m.cells (cell_place c k) v) m.chars m.reasons m.keys)
damage (in_chars i v ∷ l) m = damage l (lent m.terms m.cells (set m.chars i v) m.reasons m.keys)
damage (in_reasons i v ∷ l) m = damage l (lent m.terms m.cells m.chars (set m.reasons i v) m.keys)
damage (in_keys i v ∷ l) m = damage l (lent m.terms m.cells m.chars m.reasons (set m.keys i v))

pub record Case : Type 0 where
  pub count : State
  pub words : List Damage
  pub answer : ℕ

abbrev pub sized : State → ℕ → Case
sized c k = record { count = c; words = []; answer = k }

abbrev pub broken : List Damage → ℕ → Case
broken l k = record { count = good_counts; words = l; answer = k }

abbrev pub at : Damage → ℕ → Case
at d k = broken (d ∷ []) k

-- the index that the records determine, in the words of terms: the ninth words of n terms, and the heads
unfoldable pub with_nexts : Store → ℕ → List ℕ → List ℕ
with_nexts s zero l = l
with_nexts s (suc n) l = set (with_nexts s n l) (term_place (suc n) 8) (next_of s (suc n))

unfoldable pub reindexed : Lent → State → Lent
reindexed m c = lent (with_nexts (store_of m c) c.terms (table (head_of (store_of m c)) buckets ++ drop buckets m.terms)) m.cells m.chars m.reasons m.keys

-- the answer on the damaged words, and on these with the index of the damaged records
unfoldable pub as_lent : Case → Bool
as_lent c = eqb (audit (damage c.words good) c.count) c.answer

unfoldable pub answered : Case → Bool
answered c = eqb (audit (reindexed (damage c.words good) c.count) c.count) c.answer

-- what is broken in records, the index being theirs
unfoldable pub cases : List Case
cases =
    -- the store itself; fewer counted; record 0 is never read
    broken [] 0
    ∷ sized (counts 2 6 2 1 1) 0
    ∷ sized (counts 0 0 0 0 0) 0
    ∷ at (in_term 0 0 9) 0
    ∷ at (in_cell 0 2 9) 0
    -- a slice too short for its count, record 0 with it
    ∷ sized (counts 7 6 2 1 1) 1
    ∷ sized (counts 6 7 2 1 1) 1
    ∷ sized (counts 6 6 3 1 1) 1
    ∷ sized (counts 6 6 2 2 1) 1
    ∷ sized (counts 6 6 2 1 2) 1
    -- an earlier refusal comes first
    ∷ record { count = counts 7 6 2 1 1; words = in_term 1 0 0 ∷ []; answer = 1 }
    ∷ broken (in_term 1 3 0 ∷ in_term 1 2 0 ∷ []) 2
    ∷ broken (in_term 4 7 0 ∷ in_term 1 5 1 ∷ []) 3
    -- no kind; a text past the characters; an empty name; one name twice; what is no character
    ∷ at (in_term 1 0 0) 2
    ∷ at (in_term 5 0 6) 2
    ∷ at (in_term 1 1 2) 2
    ∷ at (in_term 1 2 3) 2
    ∷ at (in_term 1 2 0) 2
    ∷ at (in_chars 0 121) 2
    ∷ at (in_chars 0 0xD7FF) 0
    ∷ at (in_chars 0 0xD800) 0
    ∷ at (in_chars 0 0xDFFF) 0
    ∷ at (in_chars 0 0xE000) 0
    ∷ at (in_chars 0 0x2_FFFF) 0
    ∷ at (in_chars 0 0x3_0000) 2
    ∷ at (in_chars 0 0x10_FFFF) 2
    -- an empty constant, and one of the characters of a name
    ∷ broken (in_term 5 0 1 ∷ in_term 5 1 2 ∷ []) 0
    ∷ broken (in_term 5 0 1 ∷ in_term 5 1 0 ∷ in_term 5 2 2 ∷ []) 0
    -- a concatenation: an unused word, no part, one part, a part that is not lower, no string, a second value
    ∷ at (in_term 3 2 1) 2
    ∷ at (in_term 3 1 0) 2
    ∷ at (in_term 3 1 7) 2
    ∷ at (in_cell 1 2 0) 2
    ∷ at (in_cell 1 0 3) 2
    ∷ at (in_cell 1 0 0) 2
    ∷ broken (in_term 2 0 4 ∷ in_term 2 2 0 ∷ []) 2
    ∷ at (in_cell 1 1 1) 2
    -- a next that does not ascend, or is past the cells; cells may be shared
    ∷ at (in_cell 6 2 1) 2
    ∷ at (in_cell 6 2 6) 2
    ∷ at (in_cell 6 2 7) 2
    ∷ broken (in_term 3 1 3 ∷ in_cell 5 1 2 ∷ in_cell 6 1 1 ∷ []) 0
    -- a length: an unused word, of no string, of a higher term
    ∷ at (in_term 5 2 1) 2
    ∷ at (in_term 5 1 0) 2
    ∷ at (in_term 5 1 6) 2
    ∷ at (in_term 5 1 5) 2
    -- an equation: of itself, of a string and a length; of two lengths
    ∷ at (in_term 6 1 6) 2
    ∷ at (in_term 6 1 5) 2
    ∷ at (in_term 6 2 0) 2
    ∷ broken (in_term 6 1 5 ∷ in_term 6 2 5 ∷ []) 0
    -- reasons and keys
    ∷ at (in_reasons 0 2) 0
    ∷ at (in_reasons 0 0) 2
    ∷ at (in_reasons 0 3) 2
    ∷ at (in_reasons 1 0x7FFF_FFFF) 0
    ∷ at (in_reasons 1 0x8000_0000) 2
    ∷ at (in_keys 0 2) 2
    ∷ at (in_keys 0 3) 2
    ∷ at (in_keys 1 5) 2
    ∷ at (in_keys 0 0) 2
    ∷ at (in_keys 1 4) 0
    -- parents that are no terms; cycles; trees and classes that divide the terms otherwise
    ∷ at (in_term 1 3 0) 3
    ∷ at (in_term 1 4 7) 3
    ∷ at (in_term 1 3 2) 3
    ∷ at (in_term 2 3 2) 3
    ∷ at (in_term 1 4 2) 3
    ∷ at (in_term 2 4 3) 3
    -- a length in the class of a string
    ∷ broken (in_term 5 3 1 ∷ in_term 5 4 1 ∷ in_term 5 5 1 ∷ []) 3
    -- labels: of a root; of no kind; a number that is none; a definitional merge with a number, and without; stamps of other edges are free
    ∷ at (in_term 1 5 1) 3
    ∷ at (in_term 1 6 1) 3
    ∷ at (in_term 1 7 1) 3
    ∷ at (in_term 2 5 0) 3
    ∷ at (in_term 2 5 5) 3
    ∷ at (in_term 2 6 0x8000_0000) 3
    ∷ at (in_term 2 5 2) 0
    ∷ at (in_term 2 5 4) 3
    ∷ broken (in_term 2 5 4 ∷ in_term 2 6 0 ∷ []) 0
    ∷ at (in_term 2 7 0) 0
    -- congruence edges: between variables; a stamp that is not above the pair's; a pair short, no pair, a wrong pair; all the other way round; one of the two
    ∷ at (in_term 2 5 3) 4
    ∷ at (in_term 4 7 1) 4
    ∷ at (in_term 2 7 2) 4
    ∷ at (in_term 4 6 6) 4
    ∷ at (in_term 4 6 0) 4
    ∷ at (in_cell 5 1 2) 4
    ∷ broken (in_cell 5 0 1 ∷ in_cell 5 1 2 ∷ in_cell 6 0 2 ∷ in_cell 6 1 1 ∷ []) 0
    ∷ broken (in_cell 5 0 1 ∷ in_cell 5 1 2 ∷ []) 4
    ∷ []

-- what is broken in the index
unfoldable pub index_cases : List Case
index_cases =
    -- the store itself; the ninth word of record 0, and what is above the count, are not read
    broken [] 0
    ∷ at (in_term 0 8 9) 0
    ∷ record { count = counts 5 6 2 1 1; words = in_head 8 0 ∷ in_term 6 8 9 ∷ []; answer = 0 }
    -- the head of an empty bucket, the later of two as head, no head, another's head, one past the count
    ∷ at (in_head 63 1) 12
    ∷ at (in_head 6 4) 12
    ∷ at (in_head 8 0) 12
    ∷ at (in_head 8 5) 12
    ∷ sized (counts 5 6 2 1 1) 12
    -- a chain cut short, one that goes on to another bucket's term, past the count, back to itself, back to its first
    ∷ at (in_term 3 8 0) 12
    ∷ at (in_term 4 8 5) 12
    ∷ at (in_term 4 8 7) 12
    ∷ at (in_term 4 8 4) 12
    ∷ at (in_term 4 8 3) 12
    -- the later of two first, both being there
    ∷ broken (in_head 6 4 ∷ in_term 3 8 0 ∷ in_term 4 8 3 ∷ []) 12
    -- a record that is in another bucket than its chain
    ∷ at (in_chars 0 122) 12
    -- every other refusal comes first
    ∷ record { count = counts 7 6 2 1 1; words = in_head 6 4 ∷ []; answer = 1 }
    ∷ broken (in_head 6 4 ∷ in_term 1 0 0 ∷ []) 2
    ∷ broken (in_head 6 4 ∷ in_term 1 3 0 ∷ []) 3
    ∷ broken (in_head 6 4 ∷ in_term 4 7 1 ∷ []) 4
    ∷ []

pub cases_answered : T (all answered cases && all as_lent index_cases)
unfolding good_heads good_terms good_cells damage with_nexts reindexed as_lent answered cases index_cases audit sizes audit_store audit_index index_rule numbers sum bucket_of next_in records_rule classes_rule congruences_rule term_rule cell_rule text_rule name_rule named concat_rule part_rule length_rule equation_rule is_equatable is_char is_number reason_rule key_rule parents_rule ends_rule alike_rule alone_rule edge_label label_rule congruence_rule pairs_of falls_rule all any first_of table same_word is_in firsts seconds up_to all_below first_below term_in cell_in within text_in chain_by climb above_by nearest_in path_in
cases_answered = tt
