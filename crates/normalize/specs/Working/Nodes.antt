-- Working definitions: representatives in a table by class root, 0 where a class has none.
use Rattle.std.specs.Prelude.{◌≡◌, Bool, true, ◌&&◌, ◌||◌, List, [], ◌∷◌, ℕ, ◌≤◌, length, get_or, set, eqb, ltb, if◌then◌else◌}
use Rattle.records.specs.Lists.{first_of}
use Rattle.records.specs.Store.{Term, term_in, root_in, class_up, within}
use Rattle.records.specs.View.{term_limit}
use Rattle.records.specs.Working.Audited.{Closed}
use Rattle.records.specs.Working.ClimbEnds.{Ends}
use Rattle.normalize.specs.Normalize.{or_first}

abbrev pub is_constant_in : List Term → ℕ → Bool
is_constant_in ts t = eqb (term_in ts t).kind 1

-- the first constant of the class of root r among the candidates, else its first member there, else 0
unfoldable pub chosen : List Term → List ℕ → ℕ → ℕ
chosen ts l r = or_first (first_of (λ t. eqb (root_in ts t) r && is_constant_in ts t) l) (first_of (λ t. eqb (root_in ts t) r) l) 0

-- the table of these candidates
pub record NodeOf (ts : List Term) (l node : List ℕ) : Type 0 where
  pub size : length node ≡ 513
  pub entries : (r : ℕ) → r ≤ term_limit → get_or node r 0 ≡ chosen ts l r

-- constants before others
unfoldable pub rank : List Term → ℕ → ℕ
rank ts t = if is_constant_in ts t then 1 else 0

-- one candidate more: it takes its class's place where that is free, or where it ranks above what stands there
unfoldable pub with_node : List Term → ℕ → List ℕ → List ℕ
with_node ts t node =
    if eqb (get_or node (root_in ts t) 0) 0 || ltb (rank ts (get_or node (root_in ts t) 0)) (rank ts t) then set node (root_in ts t) t else node

unfoldable pub with_nodes : List Term → List ℕ → List ℕ → List ℕ
with_nodes ts [] node = node
with_nodes ts (t ∷ l) node = with_nodes ts l (with_node ts t node)

-- what the table has for a term, or the term itself
unfoldable pub node_at : List Term → List ℕ → ℕ → ℕ
node_at ts node t = if eqb (get_or node (root_in ts t) 0) 0 then t else get_or node (root_in ts t) 0

-- following class parents leads from a term to a term, and ends
pub record Rooting (ts : List Term) (n : ℕ) : Type 0 where
  pub stays : Closed (class_up ts) n
  pub ends : (t : ℕ) → within n t ≡ true → class_up ts (root_in ts t) ≡ root_in ts t

-- one candidate more, and its root kept
pub record Keeps (ts : List Term) (n t : ℕ) (node node' roots : List ℕ) : Type 0 where
  pub adds : node' ≡ with_node ts t node
  pub kept : Ends (class_up ts) n roots
