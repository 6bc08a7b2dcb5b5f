-- Joins undone one after the other, whatever the traces: a forest of the same terms is left, edges and class parents apart.
use mathlib.Core.Path.{◌≡◌, refl, ap, subst}
use mathlib.Core.List.{List, [], ◌∷◌, ◌++◌}
use mathlib.Core.Option.{Option, none, some}
use Prim.Native.Nat.{ℕ}
use native.Mathlib.Omega.{arith}
use Rattle.records.specs.Lists.{one_more}
use Rattle.records.specs.Store.{Term}
use Rattle.classes.specs.Joins.{Trace, undo_in}
use Rattle.classes.specs.Marks.{undo_all}
use Rattle.classes.specs.Working.Carries.{Forest}
use Rattle.classes.proofs.Alike.{Like, like-none, like-then}
use Rattle.classes.proofs.Cutting.{undo_cuts, cut-kept, cut-like}

-- THE LAST FIRST

pub undo-append : (l m : List Trace) (ts us : List Term) → undo_all m ts ≡ some us → undo_all (l ++ m) ts ≡ undo_all l us
unfolding undo_all
undo-append [] m ts us e = e
undo-append (x ∷ l) m ts us e = ap (λ (o : Option (List Term)). elim o [ none ↦ none | some vs ↦ undo_in vs x ]) (undo-append l m ts us e)

pub undo-stops : (l m : List Trace) (ts : List Term) → undo_all m ts ≡ none → undo_all (l ++ m) ts ≡ none
unfolding undo_all
undo-stops [] m ts e = e
undo-stops (x ∷ l) m ts e = ap (λ (o : Option (List Term)). elim o [ none ↦ none | some vs ↦ undo_in vs x ]) (undo-stops l m ts e)

pub undo-last : (l : List Trace) (y : Trace) (ts us : List Term) → undo_in ts y ≡ some us → undo_all (one_more l y) ts ≡ undo_all l us
unfolding undo_all
undo-last l y ts us e = undo-append l (y ∷ []) ts us e

-- WHAT IS LEFT

-- what each undoing keeps, all of them keep
pub undo-each : {ts : List Term} (P : List Trace → List Term → Type 0) → P [] ts → ((x : Trace) (l : List Trace) (us vs : List Term) → P l us → undo_in us x ≡ some vs → P (x ∷ l) vs)
    → (l : List Trace) (us : List Term) → undo_all l ts ≡ some us → P l us
unfolding undo_all
undo-each {ts} P z f [] us e = let q : ts ≡ us = cc in subst (P []) q z
undo-each {ts} P z f (x ∷ l) us e = go (undo_all l ts) (undo-each P z f l) e
  where
    go : (o : Option (List Term)) → ((vs : List Term) → o ≡ some vs → P l vs) → ◌≡◌ {A = Option (List Term)} (elim o [ none ↦ none | some vs ↦ undo_in vs x ]) (some us) → P (x ∷ l) us
    go none h q = let n : ◌≡◌ {A = ℕ} 0 1 = cc in absurd (omega arith)
    go (some vs) h q = f x l vs us (h vs refl) q

-- a forest of the same terms
pub record Stays (ts us : List Term) : Type 0 where
  pub like : Like ts us
  pub forest : Forest us

pub undone-stays : (l : List Trace) (ts us : List Term) → Forest ts → undo_all l ts ≡ some us → Stays ts us
undone-stays l ts us f e = undo-each (λ l. Stays ts) (record { like = like-none ts; forest = f }) (λ x l us vs k h. one x us vs k h) l us e
  where
    one : (x : Trace) (us vs : List Term) → Stays ts us → undo_in us x ≡ some vs → Stays ts vs
    one x us vs k h =
        let u = undo_cuts us vs x h in
        let t = u.traced in
        subst (Stays ts) u.is (record {
          like = like-then k.like (cut-like us x k.forest t.child t.old_root t.under);
          forest = cut-kept us x k.forest t.child t.old_root t.under;
        })
