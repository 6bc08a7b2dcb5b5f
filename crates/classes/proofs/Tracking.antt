-- The audit of store and marks: what it says, and that what each call gives passes it again.
use mathlib.Core.Path.{◌≡◌, sym, subst}
use mathlib.Core.Bool.{true, false, ◌&&◌}
use mathlib.Core.List.{List}
use mathlib.Core.Option.{some}
use Prim.Native.Nat.{ℕ, suc, ◌<◌}
use native.Mathlib.Omega.{arith}
use lib.ListN.{length}
use lib.Dec.{ltb}
use borrow.Author.Tests.{eqb-true, eqb-false, ltb-true}
use Rattle.records.specs.Lists.{one_more}
use Rattle.records.specs.Store.{Term, Store, within, is_string, same_class, root}
use Rattle.records.specs.Rules.{is_reason_kind}
use Rattle.records.specs.Make.{with_terms}
use Rattle.records.specs.Working.Audited.{Audited}
use Rattle.records.proofs.Lists.{both_left, both_right, decide}
use Rattle.records.proofs.Passed.{records_of, classes-of, congruent_of}
use Rattle.classes.specs.Joins.{trace_of, join_in}
use Rattle.classes.specs.Marks.{Trail, mark_limit, table_at, marks_rule, audit_trail}
use Rattle.classes.specs.Calls.{Outcome, gives, refuses, join_arguments, recorded, join_terms, set_mark, joins_at, before, go_back}
use Rattle.classes.proofs.JoinKept.{Joinable, join_kept}
use Rattle.classes.proofs.Marking.{rule_join, rule_mark, Back, rule_back}

pub record Tracked (s : Store) (x : Trail) : Type 0 where
  pub audited : Audited s
  pub marked : marks_rule s x ≡ true

pub of-tracked : (s : Store) (x : Trail) → Tracked s x → audit_trail s x ≡ 0
unfolding audit_trail
of-tracked s x h = rw (records_of s h.audited.recorded, classes-of s h.audited.classed, h.marked, congruent_of s h.audited.congruences)

-- WHAT EACH CALL GIVES

-- joining: a wrong argument, terms of one class, or a join
pub data Joining (a b k v : ℕ) (s : Store) (x : Trail) : Outcome → Type 0 where
  wrong : Joining a b k v s x (refuses 5)
  together : root s a ≡ root s b → Joining a b k v s x (gives s x 0)
  joins : Joinable s a b k v → Joining a b k v s x (gives (with_terms s (join_in s.terms a b k v)) (recorded (trace_of s.terms a) x) 1)

pub joinable-of : (a b k v : ℕ) (s : Store) → join_arguments a b k v s ≡ true → same_class s a b ≡ false → Joinable s a b k v
joinable-of a b k v s e d =
    let p = both_left (is_string s a && is_string s b && is_reason_kind k) _ e in
    let q = both_left (is_string s a && is_string s b) _ p in
    record {
      one = both_left _ _ q;
      other = both_right (is_string s a) _ q;
      kinds = both_right (is_string s a && is_string s b) _ p;
      number = both_right (is_string s a && is_string s b && is_reason_kind k) _ e;
      apart = eqb-false _ _ d;
    }

pub joining : (a b k v : ℕ) (s : Store) (x : Trail) → Joining a b k v s x (join_terms a b k v s x)
unfolding join_terms
joining a b k v s x = decide (join_arguments a b k v s)
    (λ e. decide (same_class s a b) (λ q. rw (e, q) (together (eqb-true _ _ q))) (λ q. rw (e, q) (joins (joinable-of a b k v s e q))))
    (λ e. rw e wrong)

-- setting a mark: the 65th, or one more
pub data Marking (s : Store) (x : Trail) : Outcome → Type 0 where
  full : Marking s x (refuses 10)
  marks : length x.marks < mark_limit → Marking s x (gives s (record { marks = one_more x.marks (length x.joins); joins = x.joins }) (suc (length x.marks)))

pub marking : (s : Store) (x : Trail) → Marking s x (set_mark s x)
unfolding set_mark
marking s x = decide (ltb (length x.marks) mark_limit) (λ e. rw e (marks (ltb-true _ _ e))) (λ e. rw e full)

-- going back, where store and marks pass the audit: a mark that does not stand, or the table of one that does
pub data Going (i : ℕ) (s : Store) (x : Trail) : Outcome → Type 0 where
  absent : Going i s x (refuses 10)
  goes : within (length x.marks) i ≡ true → (g : Back s x i) → Going i s x (gives (with_terms s g.table) (before i x) i)

pub back-goes : (i : ℕ) (s : Store) (x : Trail) (us : List Term) → within (length x.marks) i ≡ true → table_at (joins_at i x) x s.terms ≡ some us → go_back i s x ≡ gives (with_terms s us) (before i x) i
unfolding go_back
back-goes i s x us w e = rw (w, e)

pub going : (i : ℕ) (s : Store) (x : Trail) → Tracked s x → Going i s x (go_back i s x)
unfolding go_back
going i s x h = decide (within (length x.marks) i)
    (λ w. let g = rule_back s x h.marked i w h.audited in subst (Going i s x) (sym (back-goes i s x g.table w g.is)) (goes w g))
    (λ w. rw w absent)

-- WHAT EACH CALL KEEPS

-- of the store and the trail that a call gives
pub record Keeps (o : Outcome) : Type 0 where
  pub tracked : (s : Store) (x : Trail) (n : ℕ) → o ≡ gives s x n → Tracked s x

kept : {s : Store} {x : Trail} {n : ℕ} → Tracked s x → Keeps (gives s x n)
kept {s} {x} {n} h = record { tracked = λ s' x' m e. let p : s ≡ s' = cc in let q : x ≡ x' = cc in subst (λ (y : Trail). Tracked s' y) q (subst (λ (y : Store). Tracked y x) p h) }

not-kept : {k : ℕ} → Keeps (refuses k)
not-kept = record { tracked = λ s x n e. let z : ◌≡◌ {A = ℕ} 0 1 = cc in absurd (omega arith) }

module _ (s : Store) (x : Trail) (h : Tracked s x) where
  pub join-tracked : (a b k v : ℕ) → Keeps (join_terms a b k v s x)
  join-tracked a b k v = go (joining a b k v s x)
    where
      go : {o : Outcome} → Joining a b k v s x o → Keeps o
      go wrong = not-kept
      go (together e) = kept h
      go (joins j) = kept (record { audited = join_kept s a b k v h.audited j; marked = rule_join s x a b k v h.audited j h.marked })

  pub mark_tracked : Keeps (set_mark s x)
  mark_tracked = go (marking s x)
    where
      go : {o : Outcome} → Marking s x o → Keeps o
      go full = not-kept
      go (marks l) = kept (record { audited = h.audited; marked = rule_mark s x h.audited h.marked })

  pub back-tracked : (i : ℕ) → Keeps (go_back i s x)
  back-tracked i = go (going i s x h)
    where
      go : {o : Outcome} → Going i s x o → Keeps o
      go absent = not-kept
      go (goes w g) = kept (record { audited = g.audited; marked = g.marks })
