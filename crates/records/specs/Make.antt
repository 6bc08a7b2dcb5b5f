-- Adding records: a reason, a key, and a term, which is the lowest-numbered equal record, else one appended.
use Rattle.std.specs.Prelude.{◌≡◌, Bool, true, false, not, ◌&&◌, List, [], ◌∷◌, ◌++◌, ℕ, zero, suc, ◌+◌, ◌-◌, ◌/◌, ◌%◌, min, max, length, eqb, ltb, leb, if◌then◌else◌}
use Rattle.std.proofs.Math.Option.{Option, none, some}
use Rattle.records.specs.Lists.{all, any, same_word, first_below, one_more}
use Rattle.records.specs.Store.{Term, Cell, Store, ok, stop, Work, ◌>>=◌, ◌>>◌, give, refuse, store, put, term, count, is_string, is_constant, is_concat, is_length, is_equation, text, parts}
use Rattle.records.specs.Rules.{is_char, named, is_list, is_equatable}

abbrev pub with_reasons : Store → List (ℕ × ℕ) → Store
with_reasons s rs = record { terms = s.terms; cells = s.cells; chars = s.chars; reasons = rs; keys = s.keys; names = s.names; room = s.room }

abbrev pub with_keys : Store → List (ℕ × ℕ) → Store
with_keys s ks = record { terms = s.terms; cells = s.cells; chars = s.chars; reasons = s.reasons; keys = ks; names = s.names; room = s.room }

abbrev pub with_names : Store → ℕ → Store
with_names s n = record { terms = s.terms; cells = s.cells; chars = s.chars; reasons = s.reasons; keys = s.keys; names = n; room = s.room }

abbrev pub with_chars : Store → List ℕ → Store
with_chars s cs = record { terms = s.terms; cells = s.cells; chars = cs; reasons = s.reasons; keys = s.keys; names = s.names; room = s.room }

abbrev pub with_cells : Store → List Cell → Store
with_cells s cs = record { terms = s.terms; cells = cs; chars = s.chars; reasons = s.reasons; keys = s.keys; names = s.names; room = s.room }

abbrev pub with_terms : Store → List Term → Store
with_terms s ts = record { terms = ts; cells = s.cells; chars = s.chars; reasons = s.reasons; keys = s.keys; names = s.names; room = s.room }

-- a term with another class parent
abbrev pub with_class : Term → ℕ → Term
with_class x p = record {
  kind = x.kind;
  first = x.first;
  second = x.second;
  class_parent = p;
  forest_parent = x.forest_parent;
  label_kind = x.label_kind;
  label_value = x.label_value;
  stamp = x.stamp;
}

-- a term with another edge to its parent in the forest: the parent, the label's kind and value, the stamp
abbrev pub with_edge : Term → ℕ → ℕ → ℕ → ℕ → Term
with_edge x p k v s = record {
  kind = x.kind;
  first = x.first;
  second = x.second;
  class_parent = x.class_parent;
  forest_parent = p;
  label_kind = k;
  label_value = v;
  stamp = s;
}

-- REASONS AND KEYS

unfoldable pub same_pair : ℕ × ℕ → ℕ × ℕ → Bool
same_pair p q = eqb p.0 q.0 && eqb p.1 q.1

-- a reason is one of a list: its kind and its number are
unfoldable pub is_listed : ℕ × ℕ → List (ℕ × ℕ) → Bool
is_listed r l = any (same_pair r) l

-- 'an explanation appends a reason only if the list lacks it, and the first stays in its position'; refusal 7: 'the next reason finds
-- its slice (or 4,096) full'
unfoldable pub add_reason : ℕ → ℕ → Work (Unit {0})
add_reason k v = do
  s ← store
  if is_listed (k, v) s.reasons then give tt
      else if ltb (length s.reasons) s.room.reasons then put (with_reasons s (one_more s.reasons (k, v)))
      else refuse 7

-- no reason of the second list is in the first, or in the second twice
unfoldable pub each_new : List (ℕ × ℕ) → List (ℕ × ℕ) → Bool
each_new l [] = true
each_new l (r ∷ m) = not (is_listed r l) && each_new (one_more l r) m

-- the reasons at exit: those at entry, and then reasons that the list lacked, each once
pub record EachOnce (l l' : List (ℕ × ℕ)) : Type 0 where
  pub more : List (ℕ × ℕ)
  pub is : l' ≡ l ++ more
  pub new : each_new l more ≡ true

-- an unordered pair, 'lower number first'
abbrev pub ordered : ℕ → ℕ → ℕ × ℕ
ordered a b = (min a b, max a b)

unfoldable pub is_key : Store → ℕ → ℕ → Bool
is_key s a b = any (same_pair (ordered a b)) s.keys

-- refusal 8: 'a new term, cell, character or key finds its slice or limit full'
unfoldable pub add_key : ℕ → ℕ → Work (Unit {0})
add_key a b = do
  s ← store
  if ltb (length s.keys) s.room.keys then put (with_keys s (one_more s.keys (ordered a b))) else refuse 8

-- TERMS: 'making a term gives the lowest-numbered equal record, else appends one that is its own class, its characters or cells
-- at the end of theirs, unsimplified'

-- characters at the end of theirs; answers their place
unfoldable pub add_text : List ℕ → Work ℕ
add_text w = do
  s ← store
  if leb (length s.chars + length w) s.room.chars then put (with_chars s (s.chars ++ w)) else refuse 8
  give (length s.chars)

-- the cells of a chain of these values whose first cell is number c
unfoldable pub chain_from : ℕ → List ℕ → List Cell
chain_from c [] = []
chain_from c (a ∷ []) = record { value = a; other = 0; next = 0 } ∷ []
chain_from c (a ∷ b ∷ l) = record { value = a; other = 0; next = suc c } ∷ chain_from (suc c) (b ∷ l)

-- cells at the end of theirs; answers the first
unfoldable pub add_chain : List ℕ → Work ℕ
add_chain l = do
  s ← store
  let c = suc (length s.cells)
  if leb (length s.cells + length l) s.room.cells then put (with_cells s (s.cells ++ chain_from c l)) else refuse 8
  give c

-- a term that is its own class
abbrev pub own : ℕ → ℕ → ℕ → ℕ → Term
own n k a b = record { kind = k; first = a; second = b; class_parent = n; forest_parent = n; label_kind = 0; label_value = 0; stamp = 0 }

unfoldable pub add_term : ℕ → ℕ → ℕ → Work ℕ
add_term k a b = do
  s ← store
  let n = suc (count s)
  if ltb (count s) s.room.terms then put (with_terms s (s.terms ++ (own n k a b ∷ []))) else refuse 8
  give n

-- the number of the record found; 0, which names none, where there is none
abbrev pub number_of : Option ℕ → ℕ
number_of none = 0
number_of (some i) = suc i

abbrev pub is_some : Option ℕ → Bool
is_some none = false
is_some (some i) = true

-- the lowest-numbered term that is equal
unfoldable pub lookup : (Store → ℕ → Bool) → Store → Option ℕ
lookup equal s = first_below (λ i. equal s (suc i)) (count s)

abbrev pub or_make : Work ℕ → Option ℕ → Work ℕ
or_make make none = make
or_make make (some i) = give (suc i)

unfoldable pub lowest : (Store → ℕ → Bool) → Work ℕ → Work ℕ
lowest equal make = do
  s ← store
  or_make make (lookup equal s)

-- equal records: same kind, same characters or same part numbers in order
unfoldable pub constant_of : List ℕ → Store → ℕ → Bool
constant_of w s t = is_constant s t && same_word (text s t) w

unfoldable pub concat_of : List ℕ → Store → ℕ → Bool
concat_of l s t = is_concat s t && same_word (parts s t) l

unfoldable pub length_of : ℕ → Store → ℕ → Bool
length_of a s t = is_length s t && eqb (term s t).first a

unfoldable pub equation_of : ℕ → ℕ → Store → ℕ → Bool
equation_of a b s t = is_equation s t && eqb (term s t).first a && eqb (term s t).second b

unfoldable pub make_constant : List ℕ → Work ℕ
make_constant w = lowest (constant_of w) (do
  p ← add_text w
  add_term 1 p (length w))

unfoldable pub make_variable : List ℕ → Work ℕ
make_variable w = lowest (named w) (do
  p ← add_text w
  add_term 2 p (length w))

unfoldable pub make_concat : List ℕ → Work ℕ
make_concat l = lowest (concat_of l) (do
  c ← add_chain l
  add_term 3 c 0)

unfoldable pub make_length : ℕ → Work ℕ
make_length a = lowest (length_of a) (add_term 4 a 0)

unfoldable pub make_equation : ℕ → ℕ → Work ℕ
make_equation a b = lowest (equation_of a b) (add_term 5 a b)

-- REFUSAL 5 of the making calls: 'term absent or of the wrong kind; a list above 1,024; .. in a making call fewer than two parts, an
-- empty name or a character outside the rule'

abbrev pub constant_arguments : List ℕ → Store → Bool
constant_arguments w s = all is_char w

abbrev pub variable_arguments : List ℕ → Store → Bool
variable_arguments w s = leb 1 (length w) && all is_char w

abbrev pub concat_arguments : List ℕ → Store → Bool
concat_arguments l s = leb 2 (length l) && is_list s l

abbrev pub length_arguments : ℕ → Store → Bool
length_arguments t s = is_string s t

abbrev pub equation_arguments : ℕ → ℕ → Store → Bool
equation_arguments a b s = is_equatable s a b

-- NAMES: 'z names are `!strk` with the counter in decimal'

abbrev pub strk : List ℕ
strk = 33 ∷ 115 ∷ 116 ∷ 114 ∷ 107 ∷ []

-- in decimal, at most n digits
unfoldable pub decimal_by : ℕ → ℕ → List ℕ
decimal_by zero x = []
decimal_by (suc n) x = elim (ltb x 10) [ true ↦ (48 + x) ∷ [] | false ↦ decimal_by n (x / 10) ++ ((48 + x % 10) ∷ []) ]

-- a counter has at most ten digits
unfoldable pub name_of : ℕ → List ℕ
name_of x = strk ++ decimal_by 10 x

-- '`lookup_symbol` means a variable of that name exists'
unfoldable pub is_taken : Store → ℕ → Bool
is_taken s x = is_some (lookup (named (name_of x)) s)

-- 'a name that exists is passed over, the counter rising by one; taking a name advances the counter and hands the name back';
-- refusal 9: 'the name counter must rise above 4,294,967,295'. n is how far the counter can still rise
unfoldable pub take_name_by : ℕ → Work (List ℕ)
take_name_by zero s = stop 9
take_name_by (suc n) s =
    elim (is_taken s s.names) [ true ↦ take_name_by n (with_names s (suc s.names)) | false ↦ ok (with_names s (suc s.names)) (name_of s.names) ]

abbrev pub name_limit : ℕ
name_limit = 4294967295

unfoldable pub take_name : Work (List ℕ)
take_name s = take_name_by (name_limit - s.names) s
