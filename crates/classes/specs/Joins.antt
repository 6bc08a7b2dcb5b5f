-- Document 02, Note 1: joining two classes of terms, and undoing the last join.
use Rattle.std.specs.Prelude.{◌≡◌, Bool, true, false, not, ◌&&◌, List, [], ◌∷◌, ℕ, ◌-◌, length, set, eqb, if◌then◌else◌}
use Rattle.std.proofs.Math.Option.{Option, none, some}
use Rattle.records.specs.Store.{Term, term_in, within, class_up, forest_up, root_in, top_in, above_in}
use Rattle.records.specs.Make.{with_class, with_edge}

-- an edge as it stands on its child: the parent, the label, the stamp
pub record Edge : Type 0 where
  pub parent : ℕ
  pub label_kind : ℕ
  pub label_value : ℕ
  pub stamp : ℕ

abbrev pub edge : ℕ → ℕ → ℕ → ℕ → Edge
edge p k v m = record { parent = p; label_kind = k; label_value = v; stamp = m }

-- a root is its own parent, and 'labels of roots .. are 0'
abbrev pub no_edge : ℕ → Edge
no_edge t = edge t 0 0 0

abbrev pub edge_of : Term → Edge
edge_of x = edge x.forest_parent x.label_kind x.label_value x.stamp

-- the same edge from its other end
abbrev pub turned : ℕ → Term → Edge
turned t x = edge t x.label_kind x.label_value x.stamp

-- a term that bears the edge
abbrev pub bearing : Term → Edge → Term
bearing x e = with_edge x e.parent e.label_kind e.label_value e.stamp

unfoldable pub put_edge : List Term → ℕ → Edge → List Term
put_edge ts t e = set ts (t - 1) (bearing (term_in ts t) e)

unfoldable pub put_class : List Term → ℕ → ℕ → List Term
put_class ts t p = set ts (t - 1) (with_class (term_in ts t) p)

-- 'every other edge keeps its ends, label and stamp, though it may be turned round': the edge from t to a root stands on that
-- root, whose parent is now t, and t is a root. A root has no edge to turn
unfoldable pub turn : ℕ → List Term → List Term
turn t ts = elim (eqb (forest_up ts t) t) [ true ↦ ts | false ↦ put_edge (put_edge ts (forest_up ts t) (turned t (term_in ts t))) t (no_edge t) ]

-- one after the other, the last first
unfoldable pub turns : List ℕ → List Term → List Term
turns [] ts = ts
turns (t ∷ l) ts = turn t (turns l ts)

-- t becomes the root of its tree: each edge on the way from t to the root is turned round, from the root down
abbrev pub reroot_in : List Term → ℕ → List Term
reroot_in ts t = turns (above_in ts t) ts

-- 'Any other join adds one forest edge, whose two ends are the terms given and whose label is the reason given, its stamp 0'
abbrev pub link_in : List Term → ℕ → ℕ → ℕ → ℕ → List Term
link_in ts a b k v = put_edge (reroot_in ts a) a (edge b k v 0)

-- the root of a's class under the root of b's, and the edge
unfoldable pub join_in : List Term → ℕ → ℕ → ℕ → ℕ → List Term
join_in ts a b k v = link_in (put_class ts (root_in ts a) (root_in ts b)) a b k v

-- what is kept of a join: the child of its edge, the root that the child's tree had, the root that the child's class had
pub record Trace : Type 0 where
  pub child : ℕ
  pub old_root : ℕ
  pub under : ℕ

abbrev pub trace : ℕ → ℕ → ℕ → Trace
trace c r u = record { child = c; old_root = r; under = u }

abbrev pub trace_of : List Term → ℕ → Trace
trace_of ts a = trace a (top_in ts a) (root_in ts a)

-- three numbers that can be the trace of a join: terms, an edge, and a class parent other than itself
unfoldable pub is_trace : List Term → Trace → Bool
is_trace ts x =
    within (length ts) x.child && within (length ts) x.old_root && within (length ts) x.under
    && not (eqb (forest_up ts x.child) x.child)
    && not (eqb (class_up ts x.under) x.under)

-- the edge is cut, its child's tree gets its old root, and the class root is its own parent
abbrev pub cut_in : List Term → Trace → List Term
cut_in ts x = put_class (reroot_in (put_edge ts x.child (no_edge x.child)) x.old_root) x.under x.under

-- none where the numbers are no trace of a join
unfoldable pub undo_in : List Term → Trace → Option (List Term)
undo_in ts x = if is_trace ts x then some (cut_in ts x) else none

-- WHAT A JOIN DOES TO EDGES

-- the edge of t stands in us too, with its ends, label and stamp: on t, or turned round, on its parent
pub data Stands (ts us : List Term) (t : ℕ) : Type 0 where
  here : edge_of (term_in us t) ≡ edge_of (term_in ts t) → Stands ts us t
  over : edge_of (term_in us (forest_up ts t)) ≡ turned t (term_in ts t) → Stands ts us t

-- 'Any other join adds one forest edge ..; every other edge keeps its ends, label and stamp, though it may be turned round'
pub record Linked (ts us : List Term) (a b k v : ℕ) : Type 0 where
  pub new : edge_of (term_in us a) ≡ edge b k v 0
  pub kept : (t : ℕ) → within (length ts) t ≡ true → (forest_up ts t ≡ t → ⊥) → Stands ts us t
  pub only : (t : ℕ) → within (length ts) t ≡ true → (forest_up us t ≡ t → ⊥) → (t ≡ a → ⊥) → Stands us ts t
