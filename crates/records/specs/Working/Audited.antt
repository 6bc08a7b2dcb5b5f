-- A store that passes the audit, as facts. The audit answers 0 exactly where they hold (proofs/Passed.antt).
use Rattle.std.specs.Prelude.{◌≡◌, true, false, List, ◌⊎◌, ℕ, ◌+◌, ◌*◌, ◌≤◌, ◌<◌, length}
use Rattle.records.specs.declared.State.{State}
use Rattle.records.specs.Lists.{all, firsts, seconds, Every}
use Rattle.records.specs.Store.{Store, Cell, forest_up, top_in, term, cell_in, count, kind, is_term, is_string, within, text, chain, parts, root, top, same_class, same_tree, path, is_edge}
use Rattle.records.specs.View.{Lent, store_of, chained, terms_view, term_words, cell_words, term_limit, cell_limit, char_limit, reason_limit, key_limit}
use Rattle.records.specs.Index.{Indexed}
use Rattle.records.specs.Rules.{is_char, is_number, reason_rule, key_rule, is_equatable}

-- a cell of the concatenation t
pub record Part (s : Store) (t : ℕ) (p : ℕ × ℕ) : Type 0 where
  pub string : is_string s p.0 ≡ true
  pub lower : p.0 < t
  pub plain : p.1 ≡ 0

-- the next of cell c
pub data Next (cs : List Cell) (c : ℕ) : Type 0 where
  last : (cell_in cs c).next ≡ 0 → Next cs c
  later : c < (cell_in cs c).next → (cell_in cs c).next ≤ length cs → Next cs c

-- each cell's next is above its own number
abbrev pub Ascends : List Cell → Type 0
Ascends cs = (c : ℕ) → within (length cs) c ≡ true → Next cs c

-- the label of an edge
pub data Label (s : Store) (t : ℕ) : Type 0 where
  asserted : (term s t).label_kind ≡ 1 → is_number (term s t).label_value ≡ true → Label s t
  interface : (term s t).label_kind ≡ 2 → is_number (term s t).label_value ≡ true → Label s t
  congruence : (term s t).label_kind ≡ 3 → Label s t
  definitional : (term s t).label_kind ≡ 4 → (term s t).label_value ≡ 0 → Label s t

pub record Unlabelled (s : Store) (t : ℕ) : Type 0 where
  pub kind_is : (term s t).label_kind ≡ 0
  pub value_is : (term s t).label_value ≡ 0
  pub stamp_is : (term s t).stamp ≡ 0

-- the forest path of a pair has only stamps below m
pub record Falls (s : Store) (m : ℕ) (p : ℕ × ℕ) : Type 0 where
  pub tree : top s p.0 ≡ top s p.1
  pub stamps : Every (λ e. (term s e).stamp < m) (path s p.0 p.1)

-- the arguments of t and of u, in order
pub record Pairs (s : Store) (l : List (ℕ × ℕ)) (t u : ℕ) : Type 0 where
  pub one : firsts l ≡ parts s t
  pub other : seconds l ≡ parts s u

-- the congruence edge from t
pub record Congruent (s : Store) (t : ℕ) : Type 0 where
  pub child : kind s t ≡ 3
  pub parent : kind s (term s t).forest_parent ≡ 3
  pub pairs : Pairs s (chain s (term s t).label_value) t (term s t).forest_parent ⊎ Pairs s (chain s (term s t).label_value) (term s t).forest_parent t
  pub falls : Every (Falls s (term s t).stamp) (chain s (term s t).label_value)

-- what refusal 2 asks
pub record Recorded (s : Store) : Type 0 where
  pub kinds : (t : ℕ) → is_term s t ≡ true → within 5 (kind s t) ≡ true
  pub constants : (t : ℕ) → kind s t ≡ 1 → (term s t).first + (term s t).second ≤ length s.chars
  pub variables : (t : ℕ) → kind s t ≡ 2 → (term s t).first + (term s t).second ≤ length s.chars
  pub long_names : (t : ℕ) → kind s t ≡ 2 → 1 ≤ (term s t).second
  pub unique_names : (t u : ℕ) → kind s t ≡ 2 → kind s u ≡ 2 → text s t ≡ text s u → t ≡ u
  pub two_parts : (t : ℕ) → kind s t ≡ 3 → 2 ≤ length (chain s (term s t).first)
  pub parts_good : (t : ℕ) → kind s t ≡ 3 → Every (Part s t) (chain s (term s t).first)
  pub concat_second : (t : ℕ) → kind s t ≡ 3 → (term s t).second ≡ 0
  pub length_first : (t : ℕ) → kind s t ≡ 4 → is_string s (term s t).first ≡ true
  pub length_lower : (t : ℕ) → kind s t ≡ 4 → (term s t).first < t
  pub length_second : (t : ℕ) → kind s t ≡ 4 → (term s t).second ≡ 0
  pub equation_sides : (t : ℕ) → kind s t ≡ 5 → is_equatable s (term s t).first (term s t).second ≡ true
  pub equation_first : (t : ℕ) → kind s t ≡ 5 → (term s t).first < t
  pub equation_second : (t : ℕ) → kind s t ≡ 5 → (term s t).second < t
  pub nexts : Ascends s.cells
  pub characters : all is_char s.chars ≡ true
  pub reasons : all reason_rule s.reasons ≡ true
  pub keys : all (key_rule s) s.keys ≡ true

-- a step up from a number from 1 to n leads to one again
pub record Closed (up : ℕ → ℕ) (n : ℕ) : Type 0 where
  pub stays : (t : ℕ) → within n t ≡ true → within n (up t) ≡ true

-- each answer of a step from x, one of the numbers from 1 to n, is up x, one of them again
pub record Steps (answers : ℕ → ℕ → Type 0) (up : ℕ → ℕ) (n : ℕ) : Type 0 where
  pub closed : Closed up n
  pub is : (x y : ℕ) → within n x ≡ true → answers x y → y ≡ up x

-- r is the root of t's class and q the root of its tree, in a store of n terms whose parents are terms
pub record Rooted (s : Store) (n t r q : ℕ) : Type 0 where
  pub here : within n t ≡ true
  pub roots : Closed (λ x. (term s x).class_parent) n
  pub tops : Closed (λ x. (term s x).forest_parent) n
  pub root_is : r ≡ root s t
  pub top_is : q ≡ top s t

-- words of n terms, whose forest parents are terms and lead to a root
pub record Pathed (l : List ℕ) (n : ℕ) : Type 0 where
  pub limited : n ≤ term_limit
  pub room : term_words n ≤ length l
  pub tops : Closed (forest_up (terms_view l n)) n
  pub ends : (t : ℕ) → within n t ≡ true → forest_up (terms_view l n) (top_in (terms_view l n) t) ≡ top_in (terms_view l n) t

-- what refusal 3 asks
pub record Classed (s : Store) : Type 0 where
  pub class_parents : (t : ℕ) → is_term s t ≡ true → is_term s (term s t).class_parent ≡ true
  pub forest_parents : (t : ℕ) → is_term s t ≡ true → is_term s (term s t).forest_parent ≡ true
  pub class_ends : (t : ℕ) → is_term s t ≡ true → (term s (root s t)).class_parent ≡ root s t
  pub forest_ends : (t : ℕ) → is_term s t ≡ true → (term s (top s t)).forest_parent ≡ top s t
  pub alike : (t u : ℕ) → is_term s t ≡ true → is_term s u ≡ true → same_class s t u ≡ same_tree s t u
  pub alone : (t u : ℕ) → is_term s t ≡ true → is_term s u ≡ true → is_string s t ≡ false → root s t ≡ root s u → t ≡ u
  pub labels : (t : ℕ) → is_term s t ≡ true → is_edge s t ≡ true → Label s t
  pub roots : (t : ℕ) → is_term s t ≡ true → is_edge s t ≡ false → Unlabelled s t

-- two of n terms
pub record TermPair (n : ℕ) (p : ℕ × ℕ) : Type 0 where
  pub one : within n p.0 ≡ true
  pub other : within n p.1 ≡ true

-- what the audit of congruence edges may rely on: paths lead to a root, and the parts of concatenations are terms
pub record Congruable (l e : List ℕ) (c : State) : Type 0 where
  pub pathed : Pathed l c.terms
  pub parted : (t : ℕ) → kind (chained l e c) t ≡ 3 → Every (λ x. within c.terms x ≡ true) (parts (chained l e c) t)

-- what refusal 4 asks
abbrev pub Congruences : Store → Type 0
Congruences s = (t : ℕ) → is_edge s t ≡ true → (term s t).label_kind ≡ 3 → Congruent s t

-- what refusal 1 leaves to say of the store: each count is within its room
pub record Roomy (s : Store) : Type 0 where
  pub terms : count s ≤ s.room.terms
  pub cells : length s.cells ≤ s.room.cells
  pub chars : length s.chars ≤ s.room.chars
  pub reasons : length s.reasons ≤ s.room.reasons
  pub keys : length s.keys ≤ s.room.keys

pub record Audited (s : Store) : Type 0 where
  pub roomy : Roomy s
  pub recorded : Recorded s
  pub classed : Classed s
  pub congruences : Congruences s

-- what refusal 1 asks of the lent slices
pub record Sized (m : Lent) (c : State) : Type 0 where
  pub term_limited : c.terms ≤ term_limit
  pub term_room : term_words c.terms ≤ length m.terms
  pub cell_limited : c.cells ≤ cell_limit
  pub cell_room : cell_words c.cells ≤ length m.cells
  pub char_limited : c.chars ≤ char_limit
  pub char_room : c.chars ≤ length m.chars
  pub reason_limited : c.reasons ≤ reason_limit
  pub reason_room : 2 * c.reasons ≤ length m.reasons
  pub key_limited : c.keys ≤ key_limit
  pub key_room : 2 * c.keys ≤ length m.keys

-- lent slices that pass the audit: what a working function requires
pub record Ready (m : Lent) (c : State) : Type 0 where
  pub sized : Sized m c
  pub audited : Audited (store_of m c)
  pub indexed : Indexed m.terms (store_of m c)

-- what the audit's answer says: 0 where all the facts hold, else the first place whose facts do not
pub data Verdict (m : Lent) (c : State) : ℕ → Type 0 where
  ready : Ready m c → Verdict m c 0
  short : (Sized m c → ⊥) → Verdict m c 1
  unrecorded : Sized m c → (Recorded (store_of m c) → ⊥) → Verdict m c 2
  unclassed : Sized m c → Recorded (store_of m c) → (Classed (store_of m c) → ⊥) → Verdict m c 3
  incongruent : Sized m c → Recorded (store_of m c) → Classed (store_of m c) → (Congruences (store_of m c) → ⊥) → Verdict m c 4
  unindexed : Sized m c → Audited (store_of m c) → (Indexed m.terms (store_of m c) → ⊥) → Verdict m c 12
