-- Each way through the public calls: refused, or given as the working form gives it, with store and marks audited again.
use mathlib.Core.Path.{◌≡◌, refl, sym, ap, subst, ◌∙◌}
use mathlib.Core.Bool.{Bool, false}
use mathlib.Core.List.{List}
use Prim.Native.Nat.{ℕ, zero, suc, ◌≤◌}
use native.Mathlib.Omega.{arith}
use lib.ListN.{length, get_or}
use borrow.Author.Tests.{le-ltb}
use Rattle.records.specs.declared.State.{State}
use Rattle.records.specs.Store.{Store, within}
use Rattle.records.specs.View.{Lent, store_of}
use Rattle.records.proofs.Lists.{table-length}
use Rattle.classes.specs.declared.Standing.{Standing}
use Rattle.std.specs.Prelude.{Result, Ok, Err}
use Rattle.records.specs.declared.refusal.Refusal.{Refusal}
use Rattle.records.specs.declared.refusal.Refusal.TheVariants.{Argument, Mark}
use Rattle.records.specs.Refusal.{number}
use Rattle.records.proofs.Public.{numbered}
use Rattle.classes.specs.Marks.{Trail, mark_limit, trail_of, audit_marks}
use Rattle.classes.specs.Calls.{Outcome, refuses, join_arguments, join_terms, set_mark, go_back, unless, tracked, Leaves, Tracks, PublicJoin}
use Rattle.classes.specs.Working.Doing.{WorkingMarks, WorkingJoin}
use Rattle.classes.proofs.ReadyMarks.{marks_pass}

not-given : {A : Type 0} {k : Refusal} {n : ℕ} {e : Standing} → ◌≡◌ {A = Result (ℕ × Standing) Refusal} (Err k) (Ok (n, e)) → A
not-given q = let z : ◌≡◌ {A = ℕ} 0 1 = cc in absurd (omega arith)

given-same : {x y : ℕ × Standing} → ◌≡◌ {A = Result (ℕ × Standing) Refusal} (Ok x) (Ok y) → x ≡ y
given-same q = cc

-- REFUSED

module _ (work : Store → Trail → Outcome) (m : Lent) (l : List ℕ) (c : State) (d : Standing) (k : Refusal) where
  refused : refuses (number k) ≡ tracked work m l c d → Tracks work m m l l c d (Err k)
  refused e = record { says = e; idle = λ j q. (refl, refl); leaves = λ n f q. not-given q; audited = λ n f q. not-given q }

  pub call-audit : number k ≡ audit_marks m l c d → Tracks work m m l l c d (Err k)
  unfolding tracked
  call-audit e = refused (go (number k) (numbered k) ∙ ap (λ (j : ℕ). unless j (work (store_of m c) (trail_of l d))) e)
    where
      go : (j : ℕ) → (j ≡ 0 → ⊥) → refuses j ≡ unless j (work (store_of m c) (trail_of l d))
      go zero q = absurd (q refl)
      go (suc j) q = refl

  pub call-refused : audit_marks m l c d ≡ 0 → work (store_of m c) (trail_of l d) ≡ refuses (number k) → Tracks work m m l l c d (Err k)
  unfolding tracked
  call-refused e w = refused (sym (ap (λ (j : ℕ). unless j (work (store_of m c) (trail_of l d))) e ∙ w))

-- GIVEN

module _ (work : Store → Trail → Outcome) {m m' : Lent} {l l' : List ℕ} {c : State} {d : Standing} (z : audit_marks m l c d ≡ 0) {n : ℕ} {f : Standing} where
  pub call-given : WorkingMarks work m m' l l' c d n f → Tracks work m m' l l' c d (Ok (n, f))
  unfolding tracked
  call-given w = record {
    says = sym (ap (λ (j : ℕ). unless j (work (store_of m c) (trail_of l d))) z ∙ w.says);
    idle = λ k q. not-given (sym q);
    leaves = λ k g q. let i = ap (λ (p : ℕ × Standing). p.1) (given-same q) in subst (Leaves m m' l l' c) i w.leaves;
    audited = λ k g q. let i = ap (λ (p : ℕ × Standing). p.1) (given-same q) in subst (λ (x : Standing). audit_marks m' l' c x ≡ 0) i (marks_pass w.ready);
  }

-- JOINING

pub join_unready : (m : Lent) (l : List ℕ) (c : State) (d : Standing) (a b k v : ℕ) (j : Refusal) → number j ≡ audit_marks m l c d → PublicJoin a b k v m m l l c d (Err j)
join_unready m l c d a b k v j e = record { tracks = call-audit (join_terms a b k v) m l c d j e; same = λ f g. not-given g; linked = λ f g. not-given g }

module _ (m : Lent) (l : List ℕ) (c : State) (d : Standing) (a b k v : ℕ) (z : audit_marks m l c d ≡ 0) where
  pub join-wrong : (x : Bool) → x ≡ join_arguments a b k v (store_of m c) → x ≡ false → PublicJoin a b k v m m l l c d (Err Argument)
  unfolding join_terms
  join-wrong x q y = record {
    tracks = call-refused (join_terms a b k v) m l c d Argument z (rw (sym q ∙ y));
    same = λ f g. not-given g;
    linked = λ f g. not-given g;
  }

  pub join-gives : {m' : Lent} {l' : List ℕ} {n : ℕ} {f : Standing} → WorkingJoin a b k v m m' l l' c d n f → PublicJoin a b k v m m' l l' c d (Ok (n, f))
  join-gives {n = n} w = record {
    tracks = call-given (join_terms a b k v) z w.works;
    same = λ g q. w.same (ap (λ (p : ℕ × Standing). p.0) (given-same q));
    linked = λ g q. w.linked (ap (λ (p : ℕ × Standing). p.0) (given-same q));
  }

-- SETTING A MARK, GOING BACK

module _ (m : Lent) (l : List ℕ) (c : State) (d : Standing) (z : audit_marks m l c d ≡ 0) where
  stand : length (trail_of l d).marks ≡ d.marks
  stand = table-length (λ i. get_or l i 0) d.marks

  pub mark_full : mark_limit ≤ d.marks → Tracks set_mark m m l l c d (Err Mark)
  unfolding set_mark
  mark_full g = call-refused set_mark m l c d Mark z (rw (le-ltb (length (trail_of l d).marks) mark_limit (let q = stand in omega arith)))

  pub back-absent : (i : ℕ) (b : Bool) → b ≡ within d.marks i → b ≡ false → Tracks (go_back i) m m l l c d (Err Mark)
  unfolding go_back
  back-absent i b q y = call-refused (go_back i) m l c d Mark z (rw (ap (λ (n : ℕ). within n i) stand ∙ sym q ∙ y))
