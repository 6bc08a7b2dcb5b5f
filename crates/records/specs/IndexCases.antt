-- The index of one small store, by computing: its buckets, its heads and ninth words, and the test on these and on damaged ones.
use Rattle.std.specs.Prelude.{Bool, not, ◌&&◌, List, [], ◌∷◌, ◌++◌, ℕ, suc, set, eqb, T}
use Rattle.records.specs.Lists.{all, first_of, concat_map, table, same_word, firsts, all_below, first_below}
use Rattle.records.specs.Store.{no_term, no_cell, Store, or_none, term_in, cell_in, within, text_in, chain_by}
use Rattle.records.specs.View.{buckets, term_words, cell_words}
use Rattle.records.specs.Make.{own, number_of, lookup, constant_of, concat_of, length_of, equation_of}
use Rattle.records.specs.Rules.{named}
use Rattle.records.specs.Index.{numbers, sum, bucket_of, bucket, next_in, head_of, next_of, index_rule}

-- variables x and y, "a", x ++ x, the length of x, x = y
abbrev pub labels : Store
labels = record {
  terms = own 1 2 0 1 ∷ own 2 2 1 1 ∷ own 3 1 2 1 ∷ own 4 3 1 0 ∷ own 5 4 1 0 ∷ own 6 5 1 2 ∷ [];
  cells = record { value = 1; other = 0; next = 2 } ∷ record { value = 1; other = 0; next = 0 } ∷ [];
  chars = 120 ∷ 121 ∷ 97 ∷ [];
  reasons = [];
  keys = [];
  names = 0;
  room = record { terms = 8; cells = 8; chars = 8; reasons = 8; keys = 8; terms_long = term_words 8; cells_long = cell_words 8; zero_term = (no_term, 0); zero_cell = no_cell };
}

-- 2 + 120 and 2 + 121, less 64; 1 + 97, less 64; 3 + 1 + 1, x being counted twice; 4 + 1; 5 + 1 + 2
unfoldable pub label_buckets : List ℕ
label_buckets = 58 ∷ 59 ∷ 34 ∷ 5 ∷ 5 ∷ 8 ∷ []

-- 4 and 5 are one chain, each other term is alone in its own
unfoldable pub label_heads : List ℕ
label_heads = set (set (set (set (set (table (λ b. 0) 64) 5 4) 8 6) 34 3) 58 1) 59 2

unfoldable pub label_nexts : List ℕ
label_nexts = 0 ∷ 0 ∷ 0 ∷ 5 ∷ 0 ∷ 0 ∷ []

-- the words of terms with these heads and ninth words, the other eight of a record being 0
unfoldable pub with_index : List ℕ → List ℕ → List ℕ
with_index heads nexts = heads ++ concat_map (λ x. table (λ k. 0) 8 ++ (x ∷ [])) (0 ∷ nexts)

unfoldable pub is_index : List ℕ → List ℕ → Bool
is_index heads nexts = index_rule (with_index heads nexts) labels

-- the lowest, of a chain and of all
unfoldable pub is_found : (Store → ℕ → Bool) → List ℕ → ℕ → Bool
is_found equal l t = eqb (or_none (first_of (equal labels) l)) t && eqb (number_of (lookup equal labels)) t

unfoldable pub cases : List Bool
cases =
    same_word (table (λ i. bucket labels (suc i)) 6) label_buckets
    ∷ same_word (table (head_of labels) buckets) label_heads
    ∷ same_word (table (λ i. next_of labels (suc i)) 6) label_nexts
    ∷ is_index label_heads label_nexts
    -- the head of an empty bucket, the later term as head, no head, another's head
    ∷ not (is_index (set label_heads 63 1) label_nexts)
    ∷ not (is_index (set label_heads 5 5) label_nexts)
    ∷ not (is_index (set label_heads 8 0) label_nexts)
    ∷ not (is_index (set label_heads 8 5) label_nexts)
    -- a chain cut short, one that comes back, one that goes on to another bucket's term, to no term
    ∷ not (is_index label_heads (set label_nexts 3 0))
    ∷ not (is_index label_heads (set label_nexts 4 4))
    ∷ not (is_index label_heads (set label_nexts 4 6))
    ∷ not (is_index label_heads (set label_nexts 4 7))
    -- a later term first
    ∷ not (is_index (set label_heads 5 5) (set (set label_nexts 3 0) 4 4))
    -- the bucket of an empty text, of a sum of 64
    ∷ eqb (bucket_of 1 []) 1
    ∷ eqb (bucket_of 1 (63 ∷ [])) 0
    -- what is looked for, in the chain of its bucket and in the whole store
    ∷ eqb (bucket_of 3 (1 ∷ 1 ∷ [])) 5
    ∷ is_found (concat_of (1 ∷ 1 ∷ [])) (4 ∷ 5 ∷ []) 4
    ∷ is_found (length_of 1) (4 ∷ 5 ∷ []) 5
    ∷ is_found (length_of 2) [] 0
    ∷ is_found (equation_of 1 2) (6 ∷ []) 6
    ∷ is_found (constant_of (97 ∷ [])) (3 ∷ []) 3
    ∷ is_found (named (121 ∷ [])) (2 ∷ []) 2
    ∷ []

pub cases_hold : T (all (λ b. b) cases)
unfolding label_buckets label_heads label_nexts with_index concat_map is_index is_found cases numbers sum bucket_of next_in index_rule all first_of table same_word firsts all_below first_below term_in cell_in within text_in chain_by lookup constant_of concat_of length_of equation_of named
cases_hold = tt
