-- Document 01, 'Engine': find and explain.
use Rattle.std.specs.Prelude.{Bool, true, ◌&&◌, ◌||◌, List, [], ◌∷◌, ℕ, zero, suc, max, length, eqb, ltb, if◌then◌else◌}
use Rattle.records.specs.Lists.{any}
use Rattle.records.specs.Store.{Term, Store, Out, ok, stop, Work, ◌>>=◌, ◌>>◌, give, refuse, store, term_in, term, is_string, chain, root, same_class, path}
use Rattle.records.specs.Make.{add_reason, ordered, same_pair}

-- find: the class root
unfoldable pub find : ℕ → Work ℕ
find t = λ s. ok s (root s t)

-- 'Both take string terms'
abbrev pub find_arguments : ℕ → Store → Bool
find_arguments t s = is_string s t

-- refusal 5: 'explain over two classes'
abbrev pub explain_arguments : ℕ → ℕ → Store → Bool
explain_arguments a b s = is_string s a && is_string s b && same_class s a b

-- the pairs seen in this call, each in one order
abbrev pub Seen : Type 0
Seen = List (ℕ × ℕ)

-- 'A pair seen earlier in the same call, in either order, is skipped'
unfoldable pub was_seen : ℕ × ℕ → Seen → Bool
was_seen p = any (same_pair (ordered p.0 p.1))

-- each in turn, what is seen handed on
unfoldable pub each : {A : Type 0} → (A → Seen → Work Seen) → List A → Seen → Work Seen
each f [] seen = give seen
each f (x ∷ l) seen = f x seen >>= each f l

-- 'Every label kind has its own outcome': 1 asserted and 2 interface give their reason, 3 congruence explains its pairs in chain order,
-- 'Definitional edges give nothing'; any other is refused
unfoldable pub edge : (ℕ × ℕ → Seen → Work Seen) → ℕ → Seen → Work Seen
edge walk t seen = do
  s ← store
  if eqb (term s t).label_kind 1 then (add_reason 1 (term s t).label_value >> give seen)
      else if eqb (term s t).label_kind 2 then (add_reason 2 (term s t).label_value >> give seen)
      else if eqb (term s t).label_kind 3 then each walk (chain s (term s t).label_value) seen
      else if eqb (term s t).label_kind 4 then give seen
      else refuse 3

-- 'the stamp falling': one more than the highest stamp on the path, 0 where it is empty
unfoldable pub highest : List Term → List ℕ → ℕ
highest ts [] = 0
highest ts (e ∷ l) = max (suc (term_in ts e).stamp) (highest ts l)

abbrev pub height : Store → ℕ × ℕ → ℕ
height s p = highest s.terms (path s p.0 p.1)

-- '`explain` walks a to the nearest shared forest ancestor, then b to it, giving each edge's reasons in that order. Walking a pair and
-- expanding an edge call each other, the stamp falling': h is no lower than the pair's height (proofs/Walk.antt has the equation without it)
unfoldable pub walk : ℕ → ℕ × ℕ → Seen → Work Seen
walk zero p seen = give seen
walk (suc h) p seen = do
  s ← store
  if eqb p.0 p.1 || was_seen p seen then give seen
      else each (edge (walk h)) (path s p.0 p.1) (ordered p.0 p.1 ∷ seen)

-- with the pair's own height
unfoldable pub walked : ℕ × ℕ → Seen → Work Seen
walked p seen = do
  s ← store
  walk (height s p) p seen

unfoldable pub explain : ℕ → ℕ → Work (Unit {0})
explain a b = do
  walked (a, b) []
  give tt

-- AN EXPLANATION OF ITS OWN

-- a store whose list of reasons is empty and has room for one
abbrev pub emptied : Store → Store
emptied s = record {
  terms = s.terms;
  cells = s.cells;
  chars = s.chars;
  reasons = [];
  keys = s.keys;
  names = s.names;
  room = record {
    terms = s.room.terms;
    cells = s.room.cells;
    chars = s.room.chars;
    reasons = 1;
    keys = s.room.keys;
    zero_term = s.room.zero_term;
    terms_long = s.room.terms_long;
    cells_long = s.room.cells_long;
    zero_cell = s.room.zero_cell;
  };
}

-- a reason is listed, or the next finds no room
abbrev pub gives_reason : Out (Unit {0}) → Bool
gives_reason (ok s u) = ltb 0 (length s.reasons)
gives_reason (stop n) = true

-- 'a non-empty explanation of its own', whatever the list has already
unfoldable pub is_reasoned : Store → ℕ → ℕ → Bool
is_reasoned s a b = gives_reason (explain a b (emptied s))
