-- The store: what is counted of the lent slices, as lists of records; and work on it, which can stop.
use Rattle.std.specs.Prelude.{Bool, true, false, not, ◌&&◌, List, [], ◌∷◌, ◌++◌, ℕ, zero, suc, length, take, drop, get_or, eqb, ltb, leb}
use Rattle.std.proofs.Math.Option.{Option, none, some}
use Rattle.records.specs.Lists.{is_in, first_of, firsts, up_to}

-- 'Terms, eight words: kind, first, second, class parent, forest parent, label kind, label value, stamp.'
pub record Term : Type 0 where
  pub kind : ℕ
  pub first : ℕ
  pub second : ℕ
  pub class_parent : ℕ
  pub forest_parent : ℕ
  pub label_kind : ℕ
  pub label_value : ℕ
  pub stamp : ℕ

-- 'Cells, three words: value, second value, next.'
pub record Cell : Type 0 where
  pub value : ℕ
  pub other : ℕ
  pub next : ℕ

-- what a slice has beside its counted records: how many records it and its limit hold, record 0 of terms and of cells left out; and, of
-- terms and cells, the words of the slice and record 0 (of terms with its ninth word), which 'is never read': no definition names these, and
-- a store that keeps its room keeps them
pub record Room : Type 0 where
  pub terms : ℕ
  pub cells : ℕ
  pub chars : ℕ
  pub reasons : ℕ
  pub keys : ℕ
  pub terms_long : ℕ
  pub cells_long : ℕ
  pub zero_term : Term × ℕ
  pub zero_cell : Cell

-- the records up to the counts, terms and cells from record 1 on; the name counter; the room
pub record Store : Type 0 where
  pub terms : List Term
  pub cells : List Cell
  pub chars : List ℕ
  pub reasons : List (ℕ × ℕ)
  pub keys : List (ℕ × ℕ)
  pub names : ℕ
  pub room : Room

-- WORK: from a store to a store and a value, or a stop with the number of its refusal

pub data Out (A : Type 0) : Type 0 where
  ok : Store → A → Out A
  stop : ℕ → Out A

abbrev pub Work : Type 0 → Type 0
Work A = Store → Out A

module _ {A B : Type 0} where
  abbrev pub and_then : (A → Work B) → Out A → Out B
  and_then f (ok s a) = f a s
  and_then f (stop n) = stop n

  infixl 5 ◌>>=◌
  abbrev pub ◌>>=◌ : Work A → (A → Work B) → Work B
  m >>= f = λ s. and_then f (m s)

  infixl 5 ◌>>◌
  abbrev pub ◌>>◌ : Work A → Work B → Work B
  m >> n = λ s. and_then (λ a. n) (m s)

module _ {A : Type 0} where
  abbrev pub give : A → Work A
  give a = λ s. ok s a

  abbrev pub refuse : ℕ → Work A
  refuse n = λ s. stop n

-- the store as it is, and another in its place
abbrev pub store : Work Store
store = λ s. ok s s

abbrev pub put : Store → Work (Unit {0})
put s = λ s₀. ok s tt

-- READING

-- a number that names no term reads as a record of kind 0
abbrev pub no_term : Term
no_term = record { kind = 0; first = 0; second = 0; class_parent = 0; forest_parent = 0; label_kind = 0; label_value = 0; stamp = 0 }

abbrev pub no_cell : Cell
no_cell = record { value = 0; other = 0; next = 0 }

-- the record of a number; numbers count from 1
unfoldable pub term_in : List Term → ℕ → Term
term_in ts t = get_or (no_term ∷ ts) t no_term

unfoldable pub cell_in : List Cell → ℕ → Cell
cell_in cs c = get_or (no_cell ∷ cs) c no_cell

abbrev pub term : Store → ℕ → Term
term s t = term_in s.terms t

abbrev pub cell : Store → ℕ → Cell
cell s c = cell_in s.cells c

abbrev pub count : Store → ℕ
count s = length s.terms

abbrev pub kind : Store → ℕ → ℕ
kind s t = (term s t).kind

-- a number from 1 to n
unfoldable pub within : ℕ → ℕ → Bool
within n t = ltb 0 t && leb t n

abbrev pub is_term : Store → ℕ → Bool
is_term s t = within (count s) t

-- 'Kinds: 1 constant and 2 variable (..); 3 concatenation (..); 4 length (..); 5 equation (..)'
abbrev pub is_constant : Store → ℕ → Bool
is_constant s t = eqb (kind s t) 1

abbrev pub is_variable : Store → ℕ → Bool
is_variable s t = eqb (kind s t) 2

abbrev pub is_concat : Store → ℕ → Bool
is_concat s t = eqb (kind s t) 3

abbrev pub is_length : Store → ℕ → Bool
is_length s t = eqb (kind s t) 4

abbrev pub is_equation : Store → ℕ → Bool
is_equation s t = eqb (kind s t) 5

-- 'Kinds 1 to 3 are string terms.'
abbrev pub is_string : Store → ℕ → Bool
is_string s t = within 3 (kind s t)

-- the characters of a constant, or of a variable's name: 'first = place of its characters or name counted from 0, second = length'
unfoldable pub text_in : List ℕ → Term → List ℕ
text_in cs t = take t.second (drop t.first cs)

abbrev pub text : Store → ℕ → List ℕ
text s t = text_in s.chars (term s t)

-- 'Cells form chains by next; 0 ends a chain': the two values of each cell from c on. A chain has at most as many cells
-- as there are; where next ascends, this is (value, other) ∷ the chain of next (proofs/Chains.antt, `chain-is`)
unfoldable pub chain_by : ℕ → List Cell → ℕ → List (ℕ × ℕ)
chain_by zero cs c = []
chain_by (suc n) cs c = elim (within (length cs) c) [ true ↦ ((cell_in cs c).value, (cell_in cs c).other) ∷ chain_by n cs (cell_in cs c).next | false ↦ [] ]

abbrev pub chain_in : List Cell → ℕ → List (ℕ × ℕ)
chain_in cs c = chain_by (length cs) cs c

abbrev pub chain : Store → ℕ → List (ℕ × ℕ)
chain s c = chain_in s.cells c

-- a concatenation's parts
abbrev pub parts : Store → ℕ → List ℕ
parts s t = firsts (chain s (term s t).first)

-- CLASSES

-- n steps up
unfoldable pub climb : (ℕ → ℕ) → ℕ → ℕ → ℕ
climb up zero t = t
climb up (suc n) t = climb up n (up t)

abbrev pub class_up : List Term → ℕ → ℕ
class_up ts t = (term_in ts t).class_parent

abbrev pub forest_up : List Term → ℕ → ℕ
forest_up ts t = (term_in ts t).forest_parent

-- 'following class parents ends at a self-parent': where it ends. As many steps as there are terms are enough
abbrev pub root_in : List Term → ℕ → ℕ
root_in ts t = climb (class_up ts) (length ts) t

abbrev pub root : Store → ℕ → ℕ
root s t = root_in s.terms t

-- 'and so does following forest parents'
abbrev pub top_in : List Term → ℕ → ℕ
top_in ts t = climb (forest_up ts) (length ts) t

abbrev pub top : Store → ℕ → ℕ
top s t = top_in s.terms t

abbrev pub same_class : Store → ℕ → ℕ → Bool
same_class s a b = eqb (root s a) (root s b)

abbrev pub same_tree : Store → ℕ → ℕ → Bool
same_tree s a b = eqb (top s a) (top s b)

-- t and what stands above it in the forest, up to the root: as many steps as there are terms, so one term more
unfoldable pub above_by : ℕ → List Term → ℕ → List ℕ
above_by zero ts t = []
above_by (suc n) ts t = t ∷ elim (eqb (forest_up ts t) t) [ true ↦ [] | false ↦ above_by n ts (forest_up ts t) ]

abbrev pub above_in : List Term → ℕ → List ℕ
above_in ts t = above_by (suc (length ts)) ts t

-- a term, or 0, which names none
abbrev pub or_none : Option ℕ → ℕ
or_none none = 0
or_none (some t) = t

-- 'the nearest shared forest ancestor': the first of a and what is above it that b has too
unfoldable pub nearest_in : List Term → ℕ → ℕ → ℕ
nearest_in ts a b = or_none (first_of (λ x. is_in x (above_in ts b)) (above_in ts a))

-- the forest path: the edges, each by its child, from a up to the nearest shared ancestor, then from b up to it
unfoldable pub path_in : List Term → ℕ → ℕ → List ℕ
path_in ts a b = up_to (nearest_in ts a b) (above_in ts a) ++ up_to (nearest_in ts a b) (above_in ts b)

abbrev pub path : Store → ℕ → ℕ → List ℕ
path s a b = path_in s.terms a b

-- an edge is a child that is not its own forest parent
abbrev pub is_edge : Store → ℕ → Bool
is_edge s t = not (eqb (term s t).forest_parent t)
