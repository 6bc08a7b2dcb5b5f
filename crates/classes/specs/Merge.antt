-- Document 01, 'Program `labelstep`': '`M child parent n` joins two classes under asserted reason n'.
use Rattle.std.specs.Prelude.{◌≡◌, Bool, not, ◌&&◌, List, ℕ, ◌-◌, set, eqb, Result, Ok, Err}
use Rattle.records.specs.declared.State.{State}
use Rattle.records.specs.declared.refusal.Refusal.{Refusal}
use Rattle.records.specs.Refusal.{number}
use Rattle.records.specs.Store.{Term, Store, Out, ok, stop, Work, term_in, is_string, same_class}
use Rattle.records.specs.View.{Lent, store_of, term_at}
use Rattle.records.specs.Index.{SameIndex}
use Rattle.records.specs.Rules.{is_number, audit}
use Rattle.records.specs.Make.{with_terms}
use Rattle.records.specs.Calls.{call}

-- the root of its class and of its tree: in the program's stores the two are one
unfoldable pub is_root_in : List Term → ℕ → Bool
is_root_in ts t = eqb (term_in ts t).class_parent t && eqb (term_in ts t).forest_parent t

-- 'string terms, child a root, parent in another class'; an asserted reason's number
unfoldable pub can_merge : ℕ → ℕ → ℕ → Store → Bool
can_merge child parent n s = is_string s child && is_string s parent && is_number n && is_root_in s.terms child && not (same_class s child parent)

-- 'both parents set': the child's record, under the parent
abbrev pub under : Term → ℕ → ℕ → ℕ → Term
under t parent n stamp = record {
  kind = t.kind;
  first = t.first;
  second = t.second;
  class_parent = parent;
  forest_parent = parent;
  label_kind = 1;
  label_value = n;
  stamp = stamp;
}

abbrev pub merge_in : List Term → ℕ → ℕ → ℕ → ℕ → List Term
merge_in ts child parent n stamp = set ts (child - 1) (under (term_in ts child) parent n stamp)

unfoldable pub merge_classes : ℕ → ℕ → ℕ → ℕ → Work (Unit {0})
merge_classes child parent n stamp s = ok (with_terms s (merge_in s.terms child parent n stamp)) tt

-- the answer of merging
abbrev pub merged : Result (Unit {0}) Refusal → Lent → State → Out (Unit {0})
merged (Ok u) m c = ok (store_of m c) tt
merged (Err k) m c = stop (number k)

-- merging is the call's outcome, a refusal changes nothing, no record but the child's changes, heads and ninth words stay, and what is merged
-- passes the audit again
pub record PublicMerge (m m' : Lent) (c : State) (child parent n stamp : ℕ) (r : Result (Unit {0}) Refusal) : Type 0 where
  pub says : merged r m' c ≡ call (can_merge child parent n) (merge_classes child parent n stamp) m c
  pub idle : (k : Refusal) → r ≡ Err k → m' ≡ m
  pub others : (t : ℕ) → (t ≡ child → ⊥) → term_at m'.terms t ≡ term_at m.terms t
  pub index : (n : ℕ) → SameIndex m.terms m'.terms n
  pub kept : r ≡ Ok tt → audit m' c ≡ 0
