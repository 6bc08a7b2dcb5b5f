-- What of the lent slices is counted, and whether the slices are long enough for it.
use Rattle.std.specs.Prelude.{Bool, ◌&&◌, List, [], ◌∷◌, ℕ, suc, ◌+◌, ◌-◌, ◌*◌, ◌/◌, min, length, get_or, leb}
use Rattle.std.specs.Borrow.{Bor, MutBor}
use denote.Ref.{as_bor}
use denote.Triple.Both.{Both}
use Rattle.records.specs.declared.State.{State}
use Rattle.records.specs.Lists.{table}
use Rattle.records.specs.Store.{Term, Cell, Room, Store}

-- the words of the five lent slices
pub record Lent : Type 0 where
  pub terms : List ℕ
  pub cells : List ℕ
  pub chars : List ℕ
  pub reasons : List ℕ
  pub keys : List ℕ

-- the words of the five slices, in a `requires`: of a slice lent by `&` `x.now`, of one lent by `&mut` `x.old`
abbrev pub lent : List ℕ → List ℕ → List ℕ → List ℕ → List ℕ → Lent
lent t e h r k = record { terms = t; cells = e; chars = h; reasons = r; keys = k }

-- a lent slice as an `ensures` has it: at the entry of the call, and at its exit. A `&` is the same at both
abbrev pub Slice : Type 0
Slice = Both (Bor (List ℕ)) (Bor (List ℕ))

-- a slice that is lent by `&mut`, likewise
abbrev pub changing : Both (MutBor (List ℕ)) (MutBor (List ℕ)) → Slice
changing x = record { entry = as_bor x.entry; exit = as_bor x.exit }

-- the five slices by their names, at one moment
abbrev pub lends : Bor (List ℕ) → Bor (List ℕ) → Bor (List ℕ) → Bor (List ℕ) → Bor (List ℕ) → Lent
lends t e h r k = lent t.now e.now h.now r.now k.now

-- and in an `ensures`, at both moments
abbrev pub across : Slice → Slice → Slice → Slice → Slice → Both Lent Lent
across t e h r k = record { entry = lends t.entry e.entry h.entry r.entry k.entry; exit = lends t.exit e.exit h.exit r.exit k.exit }

-- a promise that names the words at entry and at exit
abbrev pub Between : {B : Type 1} → (Lent → Lent → B) → Both Lent Lent → B
Between P x = P x.entry x.exit

-- 'Up to 512', 'Up to 2,048', 'up to 16,384', 'up to 4,096'
abbrev pub term_limit : ℕ
term_limit = 512

abbrev pub cell_limit : ℕ
cell_limit = 2048

abbrev pub char_limit : ℕ
char_limit = 16384

abbrev pub reason_limit : ℕ
reason_limit = 4096

abbrev pub key_limit : ℕ
key_limit = 4096

-- document 02, Note 9: 'Keep 64 bucket heads beside the term records': before record 0
abbrev pub buckets : ℕ
buckets = 64

-- the words of a record: 'Terms, eight words', and Note 9's 'ninth word'; 'Cells, three words'
abbrev pub term_width : ℕ
term_width = 9

abbrev pub cell_width : ℕ
cell_width = 3

-- the place of word k of a record
abbrev pub term_place : ℕ → ℕ → ℕ
term_place t k = buckets + term_width * t + k

abbrev pub cell_place : ℕ → ℕ → ℕ
cell_place c k = cell_width * c + k

-- a record's words: 'Record 0 of terms and of cells is never read'; 'characters, reasons and keys start at place 0'
abbrev pub term_at : List ℕ → ℕ → Term
term_at l t = record {
  kind = get_or l (term_place t 0) 0;
  first = get_or l (term_place t 1) 0;
  second = get_or l (term_place t 2) 0;
  class_parent = get_or l (term_place t 3) 0;
  forest_parent = get_or l (term_place t 4) 0;
  label_kind = get_or l (term_place t 5) 0;
  label_value = get_or l (term_place t 6) 0;
  stamp = get_or l (term_place t 7) 0;
}

-- Note 9: the head of a bucket, and 'a ninth word, the next term in its bucket'
abbrev pub head_at : List ℕ → ℕ → ℕ
head_at l b = get_or l b 0

abbrev pub next_at : List ℕ → ℕ → ℕ
next_at l t = get_or l (term_place t 8) 0

abbrev pub cell_at : List ℕ → ℕ → Cell
cell_at l c = record { value = get_or l (cell_place c 0) 0; other = get_or l (cell_place c 1) 0; next = get_or l (cell_place c 2) 0 }

abbrev pub pair_at : List ℕ → ℕ → ℕ × ℕ
pair_at l i = (get_or l (2 * i + 0) 0, get_or l (2 * i + 1) 0)

-- record 0 of terms and of cells: part of the room, so that a call which keeps the room keeps it
unfoldable pub zero_term : List ℕ → Term × ℕ
zero_term l = (term_at l 0, next_at l 0)

unfoldable pub zero_cell : List ℕ → Cell
zero_cell l = cell_at l 0

-- the records of a slice up to a count
abbrev pub terms_view : List ℕ → ℕ → List Term
terms_view l n = table (λ i. term_at l (suc i)) n

abbrev pub cells_view : List ℕ → ℕ → List Cell
cells_view l n = table (λ i. cell_at l (suc i)) n

abbrev pub chars_view : List ℕ → ℕ → List ℕ
chars_view l n = table (λ i. get_or l i 0) n

abbrev pub pairs_view : List ℕ → ℕ → List (ℕ × ℕ)
pairs_view l n = table (pair_at l) n

-- n words of a slice from a place on: a text, where it is within what is counted (proofs/Views.antt, `text-span`)
abbrev pub span : List ℕ → ℕ → ℕ → List ℕ
span l p n = table (λ i. get_or l (p + i) 0) n

-- the text of a term in the lent words
abbrev pub text_at : List ℕ → List ℕ → ℕ → List ℕ
text_at l h t = span h (term_at l t).first (term_at l t).second

-- the characters of a list of terms, counted
unfoldable pub lengths : List ℕ → List ℕ → ℕ
lengths l [] = 0
lengths l (t ∷ ts) = (term_at l t).second + lengths l ts

-- how many words n records and record 0 take, the heads before them too
abbrev pub term_words : ℕ → ℕ
term_words n = buckets + term_width * (n + 1)

abbrev pub cell_words : ℕ → ℕ
cell_words n = cell_width * (n + 1)

-- how many records fit a slice and its limit
abbrev pub term_room : List ℕ → ℕ
term_room l = min term_limit ((length l - buckets) / term_width - 1)

abbrev pub cell_room : List ℕ → ℕ
cell_room l = min cell_limit (length l / cell_width - 1)

abbrev pub char_room : List ℕ → ℕ
char_room l = min char_limit (length l)

abbrev pub reason_room : List ℕ → ℕ
reason_room l = min reason_limit (length l / 2)

abbrev pub key_room : List ℕ → ℕ
key_room l = min key_limit (length l / 2)

abbrev pub room_of : Lent → Room
room_of m = record {
  terms = term_room m.terms;
  cells = cell_room m.cells;
  chars = char_room m.chars;
  reasons = reason_room m.reasons;
  keys = key_room m.keys;
  terms_long = length m.terms;
  cells_long = length m.cells;
  zero_term = zero_term m.terms;
  zero_cell = zero_cell m.cells;
}

abbrev pub store_of : Lent → State → Store
store_of m c = record {
  terms = terms_view m.terms c.terms;
  cells = cells_view m.cells c.cells;
  chars = chars_view m.chars c.chars;
  reasons = pairs_view m.reasons c.reasons;
  keys = pairs_view m.keys c.keys;
  names = c.names;
  room = room_of m;
}

-- a store of which the terms alone are lent; the terms and the characters; the terms and the cells; all three
abbrev pub termed : List ℕ → State → Store
termed l c = store_of (lent l [] [] [] []) c

abbrev pub read_in : List ℕ → List ℕ → State → Store
read_in l h c = store_of (lent l [] h [] []) c

abbrev pub chained : List ℕ → List ℕ → State → Store
chained l e c = store_of (lent l e [] [] []) c

abbrev pub records_in : List ℕ → List ℕ → List ℕ → State → Store
records_in l e h c = store_of (lent l e h [] []) c

-- refusal 1, 'a count above its limit, or a slice too short for it', does not hold; record 0 takes room too
unfoldable pub sizes : Lent → State → Bool
sizes m c =
    (leb c.terms term_limit && leb (term_words c.terms) (length m.terms))
    && (leb c.cells cell_limit && leb (cell_words c.cells) (length m.cells))
    && (leb c.chars char_limit && leb c.chars (length m.chars))
    && (leb c.reasons reason_limit && leb (2 * c.reasons) (length m.reasons))
    && (leb c.keys key_limit && leb (2 * c.keys) (length m.keys))

-- the state of six numbers
abbrev pub counts : ℕ → ℕ → ℕ → ℕ → ℕ → ℕ → State
counts t e h r k n = record { terms = t; cells = e; chars = h; reasons = r; keys = k; names = n }

-- the state with one term, some cells or characters, one reason or key more, or with another count of reasons or name counter
abbrev pub one_term : State → State
one_term c = record { terms = c.terms + 1; cells = c.cells; chars = c.chars; reasons = c.reasons; keys = c.keys; names = c.names }

abbrev pub more_cells : State → ℕ → State
more_cells c n = record { terms = c.terms; cells = c.cells + n; chars = c.chars; reasons = c.reasons; keys = c.keys; names = c.names }

abbrev pub more_chars : State → ℕ → State
more_chars c n = record { terms = c.terms; cells = c.cells; chars = c.chars + n; reasons = c.reasons; keys = c.keys; names = c.names }

abbrev pub reasons_at : State → ℕ → State
reasons_at c n = record { terms = c.terms; cells = c.cells; chars = c.chars; reasons = n; keys = c.keys; names = c.names }

abbrev pub one_reason : State → State
one_reason c = record { terms = c.terms; cells = c.cells; chars = c.chars; reasons = c.reasons + 1; keys = c.keys; names = c.names }

abbrev pub one_key : State → State
one_key c = record { terms = c.terms; cells = c.cells; chars = c.chars; reasons = c.reasons; keys = c.keys + 1; names = c.names }

abbrev pub names_at : State → ℕ → State
names_at c n = record { terms = c.terms; cells = c.cells; chars = c.chars; reasons = c.reasons; keys = c.keys; names = n }
