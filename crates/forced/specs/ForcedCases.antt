-- The definition of the forced length run on a small store: pairs of lists, each both ways round.
use Rattle.std.specs.Prelude.{Bool, false, ◌&&◌, List, [], ◌∷◌, ℕ, eqb, T}
use Rattle.records.specs.Lists.{all, keep, concat_map, table, same_word, firsts}
use Rattle.records.specs.Store.{Term, no_term, no_cell, Store, Out, ok, stop, term_in, cell_in, within, text_in, chain_by, climb}
use Rattle.records.specs.View.{term_words, cell_words}
use Rattle.records.specs.Make.{own}
use Rattle.normalize.specs.Normalize.{atoms_by, flatten}
use Rattle.sides.specs.Wordeq.{same, fixed, letters_of, letters, same_heads, same_tails, rest}
use Rattle.forced.specs.Forced.{Span, spans, short, Fit, one_class, sides_fit, residual_fit, forced_length}

-- the characters are "A7-A71". x, y and z, and 7 in the class of x; "A" twice, "A7", "A7-" and ""; 10 is x ++ "A7"; "-", "A7-A71" and "A7-A7"
abbrev pub x : ℕ
x = 1

abbrev pub y : ℕ
y = 2

abbrev pub z : ℕ
z = 3

abbrev pub a : ℕ
a = 4

abbrev pub ab : ℕ
ab = 5

abbrev pub abc : ℕ
abc = 6

abbrev pub x' : ℕ
x' = 7

abbrev pub a' : ℕ
a' = 8

abbrev pub none : ℕ
none = 9

abbrev pub xab : ℕ
xab = 10

abbrev pub dash : ℕ
dash = 11

abbrev pub code : ℕ
code = 12

abbrev pub even : ℕ
even = 13

-- a term in the class of p, by a definitional merge
abbrev pub under : ℕ → Term → Term
under p t = record { kind = t.kind; first = t.first; second = t.second; class_parent = p; forest_parent = p; label_kind = 4; label_value = 0; stamp = 0 }

abbrev pub labels : Store
labels = record {
  terms = own x 2 0 1 ∷ own y 2 1 1 ∷ own z 2 2 1 ∷ own a 1 0 1 ∷ own ab 1 0 2 ∷ own abc 1 0 3 ∷ under x (own x' 2 0 2) ∷ own a' 1 0 1 ∷ own none 1 0 0 ∷ own xab 3 1 0 ∷ own dash 1 2 1 ∷ own code 1 0 6 ∷ own even 1 0 5 ∷ [];
  cells = record { value = x; other = 0; next = 2 } ∷ record { value = ab; other = 0; next = 0 } ∷ [];
  chars = 65 ∷ 55 ∷ 45 ∷ 65 ∷ 55 ∷ 49 ∷ [];
  reasons = [];
  keys = [];
  names = 0;
  room = record { terms = 32; cells = 64; chars = 64; reasons = 8; keys = 8; terms_long = term_words 32; cells_long = cell_words 64; zero_term = (no_term, 0); zero_cell = no_cell };
}

-- two lists, and what is to be answered: k, c, l, m and r; k, c, l and the shortage; or the number of a refusal
pub data Case : Type 0 where
  fit : List ℕ → List ℕ → ℕ → ℕ → ℕ → ℕ → ℕ → Case
  lack : List ℕ → List ℕ → ℕ → ℕ → ℕ → ℕ → Case
  refused : List ℕ → List ℕ → ℕ → Case

abbrev pub is_span : Span → ℕ → ℕ → Bool
is_span (spans m r) i j = eqb m i && eqb r j
is_span (short d) i j = false

abbrev pub is_short : Span → ℕ → Bool
is_short (spans m r) i = false
is_short (short d) i = eqb d i

abbrev pub is_counted : Fit → ℕ → ℕ → ℕ → Bool
is_counted f k c l = eqb f.k k && eqb f.c c && eqb f.l l

abbrev pub answers : Out Fit → (Fit → Bool) → Bool
answers (ok s f) p = p f
answers (stop n) p = false

abbrev pub stops : Out Fit → ℕ → Bool
stops (ok s f) n = false
stops (stop m) n = eqb m n

-- the same whichever list is the left one
unfoldable pub holds : Case → Bool
holds (fit l r k c n m j) =
    answers (forced_length l r labels) (λ f. is_counted f k c n && is_span f.span m j) && answers (forced_length r l labels) (λ f. is_counted f k c n && is_span f.span m j)
holds (lack l r k c n d) =
    answers (forced_length l r labels) (λ f. is_counted f k c n && is_short f.span d) && answers (forced_length r l labels) (λ f. is_counted f k c n && is_short f.span d)
holds (refused l r n) = stops (forced_length l r labels) n && stops (forced_length r l labels) n

unfoldable pub cases : List Case
cases =
    -- the manual's labels
    fit (code ∷ []) (x ∷ dash ∷ x ∷ []) 2 1 6 2 1
    ∷ fit (even ∷ []) (x ∷ dash ∷ x ∷ []) 2 1 5 2 0
    ∷ lack (ab ∷ []) (x ∷ abc ∷ x ∷ []) 2 3 2 1
    -- steps 4 and 2 or 3 answer some of these; that does not matter here
    ∷ fit (x ∷ []) (ab ∷ []) 1 0 2 2 0
    ∷ fit [] (x ∷ x ∷ []) 2 0 0 0 0
    ∷ fit [] (x ∷ []) 1 0 0 0 0
    ∷ lack (a ∷ []) (x ∷ ab ∷ x ∷ []) 2 2 1 1
    ∷ lack [] (x ∷ abc ∷ []) 1 3 0 3
    -- a remainder; l = c
    ∷ fit (abc ∷ []) (x ∷ x ∷ []) 2 0 3 1 1
    ∷ fit (ab ∷ abc ∷ []) (x ∷ a ∷ x ∷ x ∷ []) 3 1 5 1 1
    ∷ fit (abc ∷ []) (x ∷ ab ∷ x ∷ a ∷ x ∷ []) 3 3 3 0 0
    ∷ fit (none ∷ []) (x ∷ none ∷ x ∷ []) 2 0 0 0 0
    -- one class under two numbers; two classes
    ∷ fit (abc ∷ []) (x ∷ x' ∷ []) 2 0 3 1 1
    ∷ refused (abc ∷ []) (x ∷ y ∷ []) 11
    ∷ refused (abc ∷ []) (x ∷ a ∷ x ∷ y ∷ []) 11
    -- stripped first: by number, by characters, by class, more than one of each, at the heads and then at the tails
    ∷ fit (y ∷ abc ∷ []) (y ∷ z ∷ z ∷ []) 2 0 3 1 1
    ∷ fit (a ∷ abc ∷ []) (a' ∷ z ∷ z ∷ []) 2 0 3 1 1
    ∷ fit (x ∷ abc ∷ []) (x' ∷ z ∷ z ∷ []) 2 0 3 1 1
    ∷ fit (x ∷ x ∷ x' ∷ abc ∷ x ∷ x' ∷ y ∷ []) (x' ∷ x' ∷ x ∷ z ∷ z ∷ x' ∷ x ∷ y ∷ []) 2 0 3 1 1
    ∷ fit (ab ∷ a ∷ []) (x ∷ x ∷ a' ∷ []) 2 0 2 1 0
    ∷ lack (a ∷ abc ∷ []) (a ∷ x ∷ ab ∷ ab ∷ []) 1 4 3 1
    -- 'after stripping': the first variable is gone, so one class is left
    ∷ fit (y ∷ abc ∷ []) (y ∷ x ∷ []) 1 0 3 3 0
    -- flattened first
    ∷ fit (xab ∷ []) (abc ∷ []) 1 2 3 1 0
    ∷ lack (xab ∷ xab ∷ []) (abc ∷ []) 2 4 3 1
    ∷ fit (xab ∷ x ∷ []) (abc ∷ ab ∷ []) 2 2 5 1 1
    ∷ refused (table (λ i. xab) 513) (a ∷ []) 6
    -- nothing left, both constant, neither constant
    ∷ refused [] [] 11 ∷ refused (x ∷ []) (x' ∷ []) 11 ∷ refused (a ∷ []) (ab ∷ []) 11 ∷ refused [] (a ∷ []) 11
    ∷ refused (x ∷ []) (y ∷ []) 11 ∷ refused (x ∷ a ∷ []) (z ∷ ab ∷ []) 11
    ∷ []

pub cases_hold : T (all holds cases)
unfolding cases holds one_class sides_fit residual_fit forced_length all keep concat_map table same_word firsts term_in cell_in within text_in chain_by climb atoms_by flatten same fixed letters_of letters same_heads same_tails rest
cases_hold = tt
