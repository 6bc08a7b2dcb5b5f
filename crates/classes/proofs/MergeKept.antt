-- What is merged passes the audit: a root put under a term of another class is attached to it.
use mathlib.Core.Path.{◌≡◌, refl, ap, subst, ◌∙◌}
use mathlib.Core.Bool.{true, not, ◌&&◌}
use mathlib.Core.List.{List}
use Prim.Native.Nat.{ℕ, ◌-◌}
use lib.ListN.{length, set}
use lib.Seq.{set-set}
use lib.Dec.{eqb}
use borrow.Author.Tests.{eqb-true, eqb-false, not-true}
use Rattle.records.specs.Store.{Term, Store, term, within, is_string, forest_up, root_in, root, same_class}
use Rattle.records.specs.Rules.{is_number}
use Rattle.records.specs.Make.{with_terms}
use Rattle.records.specs.Working.Audited.{Audited}
use Rattle.records.proofs.Lists.{both_left, both_right}
use Rattle.records.proofs.Climbs.{root-self, above_root}
use Rattle.records.proofs.Grown.{string-term}
use Rattle.classes.specs.Merge.{is_root_in, can_merge, merge_in}
use Rattle.classes.specs.Joins.{edge, bearing, put_edge, put_class, turns, reroot_in}
use Rattle.classes.proofs.Tables.{class-here, class-words, turn-root, class-long}
use Rattle.classes.proofs.Alike.{Like, like-then, like-edge, like-class}
use Rattle.classes.proofs.Attaching.{attach_in, attached_audited}

-- what the test of merging says
pub record Mergeable (s : Store) (child parent n : ℕ) : Type 0 where
  pub child_string : is_string s child ≡ true
  parent_string : is_string s parent ≡ true
  number : is_number n ≡ true
  class_self : (term s child).class_parent ≡ child
  forest_self : (term s child).forest_parent ≡ child
  apart : root s child ≡ root s parent → ⊥

pub mergeable : (s : Store) (child parent n : ℕ) → can_merge child parent n s ≡ true → Mergeable s child parent n
unfolding can_merge is_root_in
mergeable s child parent n can =
    let e₄ = both_left (is_string s child && is_string s parent && is_number n && (eqb (term s child).class_parent child && eqb (term s child).forest_parent child)) (not (same_class s child parent)) can in
    let e₃ = both_left (is_string s child && is_string s parent && is_number n) _ e₄ in
    let e₂ = both_left (is_string s child && is_string s parent) _ e₃ in
    let r = both_right (is_string s child && is_string s parent && is_number n) _ e₄ in
    record {
      child_string = both_left _ _ e₂;
      parent_string = both_right (is_string s child) _ e₂;
      number = both_right (is_string s child && is_string s parent) _ e₃;
      class_self = eqb-true _ _ (both_left _ _ r);
      forest_self = eqb-true _ _ (both_right (eqb (term s child).class_parent child) _ r);
      apart = eqb-false _ _ (not-true _ (both_right (is_string s child && is_string s parent && is_number n && (eqb (term s child).class_parent child && eqb (term s child).forest_parent child)) _ can));
    }

-- a root of its tree stays one when it is re-rooted there
reroot_root : (ts : List Term) (t : ℕ) → forest_up ts t ≡ t → reroot_in ts t ≡ ts
unfolding turns
reroot_root ts t e = ap (λ (l : List ℕ). turns l ts) (above_root ts t e) ∙ turn-root ts t e

-- the record is written at once
put_both : (ts : List Term) (t p n m : ℕ) → within (length ts) t ≡ true → put_edge (put_class ts t p) t (edge p 1 n m) ≡ merge_in ts t p n m
unfolding put_edge put_class
put_both ts t p n m w =
    ap (λ (x : Term). set (put_class ts t p) (t - 1) (bearing x (edge p 1 n m))) (class-here ts t p w) ∙ set-set ts (t - 1) _ _

merge_attaches : (ts : List Term) (t p n m : ℕ) → within (length ts) t ≡ true → root_in ts t ≡ t → forest_up ts t ≡ t → attach_in ts t p (edge p 1 n m) ≡ merge_in ts t p n m
merge_attaches ts t p n m w r e =
    ap (λ (x : ℕ). put_edge (reroot_in (put_class ts x p) t) t (edge p 1 n m)) r
    ∙ ap (λ (us : List Term). put_edge us t (edge p 1 n m)) (reroot_root (put_class ts t p) t (class-words ts t p w (λ x. x.forest_parent) (λ x. refl) t ∙ e))
    ∙ put_both ts t p n m w

-- kind, first and second stay
pub merge-like : (ts : List Term) (t p n m : ℕ) → within (length ts) t ≡ true → Like ts (merge_in ts t p n m)
merge-like ts t p n m w =
    subst (Like ts) (put_both ts t p n m w)
    (like-then (like-class ts t p w) (like-edge (put_class ts t p) t (edge p 1 n m) (ap (λ (k : ℕ). within k t) (class-long ts t p) ∙ w)))

pub merge-kept : (s : Store) (child parent n stamp : ℕ) → Audited s → can_merge child parent n s ≡ true → Audited (with_terms s (merge_in s.terms child parent n stamp))
merge-kept s child parent n stamp a can =
    let j = mergeable s child parent n can in
    subst (λ (ts : List Term). Audited (with_terms s ts))
    (merge_attaches s.terms child parent n stamp (string-term s child j.child_string) (root-self s.terms child j.class_self) j.forest_self)
    (attached_audited s a child parent parent 1 n stamp
    (record { one = j.child_string; other = j.parent_string; apart = j.apart; kinds = refl; number = j.number; here = string-term s parent j.parent_string; beside = refl }))
