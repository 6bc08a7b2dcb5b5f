-- The table of the candidates' representatives stands for later stores too.
use mathlib.Core.Path.{◌≡◌, ap}
use mathlib.Core.Bool.{true}
use mathlib.Core.List.{List}
use Prim.Native.Nat.{ℕ, ◌≤◌}
use native.Mathlib.Omega.{arith}
use Rattle.records.specs.Store.{Term, Store, count, term_in, root_in, is_string}
use Rattle.records.specs.View.{term_limit}
use Rattle.records.proofs.Lists.{all_every, every_all, every_map, within_low, within-high}
use Rattle.records.proofs.Grown.{string-term, string-here, Strings, strings-later}
use Rattle.records.proofs.Climbs.{root-term}
use Rattle.records.proofs.LaterStores.{Later}
use Rattle.normalize.specs.Normalize.{representative}
use Rattle.normalize.specs.Working.Nodes.{NodeOf, node_at}
use Rattle.normalize.specs.Working.Pushes.{Candidates}
use Rattle.normalize.proofs.Represents.{nodes-later, node_is}

module _ {s s' : Store} {cs table : List ℕ} (k : Candidates s cs table) (l : Later s s') where
  first-strings : Strings s cs
  first-strings = all_every (is_string s) cs k.strings

  pub later-strings : Strings s' cs
  later-strings = strings-later l.grown first-strings

  later-nodes : NodeOf s'.terms cs table
  later-nodes = nodes-later s.terms s'.terms cs table k.nodes (every_map same first-strings)
    where
      same : (t : ℕ) → is_string s t ≡ true → (root_in s'.terms t ≡ root_in s.terms t) × ((term_in s'.terms t).kind ≡ (term_in s.terms t).kind)
      same t e = (l.grown.roots t (string-term s t e), ap (λ (x : Term). x.kind) (l.grown.old t (string-here s t e)))

  pub candidates_later : Candidates s' cs table
  candidates_later = record { strings = every_all later-strings; nodes = later-nodes }

  -- the table's answer for an atom is its representative
  pub later_rep : (a : ℕ) → is_string s' a ≡ true → count s' ≤ term_limit → node_at s'.terms table a ≡ representative s' cs a
  later_rep a e h =
      node_is s' cs table a later-nodes (every_map (λ t i. within_low (count s') t (string-term s' t i)) later-strings)
      (let r = within-high (count s') _ (root-term s' l.audited.classed a (string-term s' a e)) in omega arith)
