-- Joining two string terms of different classes keeps a store audited, and the classes after it are the ones that it makes.
use mathlib.Core.Path.{◌≡◌}
use mathlib.Core.Bool.{true}
use Prim.Native.Nat.{ℕ}
use lib.ListN.{length}
use Rattle.records.specs.Store.{Store, count, is_term, is_string, root}
use Rattle.records.specs.Rules.{is_number, is_reason_kind}
use Rattle.records.specs.Make.{with_terms}
use Rattle.records.specs.Working.Audited.{Audited}
use Rattle.records.proofs.Climbs.{root-root, root-term}
use Rattle.records.proofs.Grown.{string-term}
use Rattle.classes.specs.Joins.{join_in, Linked}
use Rattle.classes.proofs.Alike.{Like}
use Rattle.classes.proofs.Dividing.{Joint}
use Rattle.classes.proofs.Attaching.{Attachable, like, division, divided, edge_new, edges_kept, edges_only, attached_audited}

-- what is asked of a join: two string terms of different classes, and a reason
pub record Joinable (s : Store) (a b k v : ℕ) : Type 0 where
  pub one : is_string s a ≡ true
  pub other : is_string s b ≡ true
  pub kinds : is_reason_kind k ≡ true
  pub number : is_number v ≡ true
  pub apart : root s a ≡ root s b → ⊥

-- a's class root is put under b's
attachable : (s : Store) (a b k v : ℕ) → Audited s → Joinable s a b k v → Attachable s a b (root s b) k v
attachable s a b k v au j =
    let w = string-term s b j.other in
    record { one = j.one; other = j.other; apart = j.apart; kinds = j.kinds; number = j.number; here = root-term s au.classed b w; beside = root-root s au.classed b w }

-- 'the table passes the audit'
pub join_kept : (s : Store) (a b k v : ℕ) → Audited s → Joinable s a b k v → Audited (with_terms s (join_in s.terms a b k v))
unfolding join_in
join_kept s a b k v au j = attached_audited s au a b (root s b) k v 0 (attachable s a b k v au j)

-- 'adds one forest edge ..; every other edge keeps its ends, label and stamp'
pub join-linked : (s : Store) (a b k v : ℕ) → Audited s → Joinable s a b k v → Linked s.terms (join_in s.terms a b k v) a b k v
unfolding join_in
join-linked s a b k v au j =
    let h = attachable s a b k v au j in
    record {
      new = edge_new s au a b (root s b) k v 0 h;
      kept = edges_kept s au a b (root s b) k v 0 h;
      only = edges_only s au a b (root s b) k v 0 h;
    }

-- kind, first and second stay
pub join-like : (s : Store) (a b k v : ℕ) → Audited s → Joinable s a b k v → Like s.terms (join_in s.terms a b k v)
unfolding join_in
join-like s a b k v au j = like s au a b (root s b) k v 0 (attachable s a b k v au j)

pub join-long : (s : Store) (a b k v : ℕ) → Audited s → Joinable s a b k v → length (join_in s.terms a b k v) ≡ count s
join-long s a b k v au j = (join-like s a b k v au j).long

-- 'the division into classes is what the joins left standing generate', for one join more
module _ (s : Store) (a b k v : ℕ) (au : Audited s) (j : Joinable s a b k v) (t u : ℕ) (wt : is_term s t ≡ true) (wu : is_term s u ≡ true) where
  pub join_division : root (with_terms s (join_in s.terms a b k v)) t ≡ root (with_terms s (join_in s.terms a b k v)) u → Joint (root s) a b t u
  unfolding join_in
  join_division = division s au a b (root s b) k v 0 (attachable s a b k v au j) t u wt wu

  pub join-divided : Joint (root s) a b t u → root (with_terms s (join_in s.terms a b k v)) t ≡ root (with_terms s (join_in s.terms a b k v)) u
  unfolding join_in
  join-divided = divided s au a b (root s b) k v 0 (attachable s a b k v au j) t u wt wu
