-- What the call for every empty part gives, keeps and refuses.
use Rattle.std.specs.Prelude.{if◌then◌else◌}
use mathlib.Core.Path.{◌≡◌, refl, sym, ap, subst, ◌∙◌}
use mathlib.Core.Bool.{Bool, true, false}
use mathlib.Core.List.{List, [], ◌∷◌}
use Prim.Native.Nat.{ℕ, ◌≤◌}
use native.Mathlib.Omega.{arith}
use lib.ListN.{length}
use Rattle.records.specs.Lists.{all}
use Rattle.records.specs.Store.{Store, Out, ok, stop, and_then, ◌>>=◌, give}
use Rattle.records.specs.Rules.{list_limit}
use Rattle.records.specs.Make.{make_constant}
use Rattle.records.specs.Working.Audited.{Audited}
use Rattle.records.proofs.Outcomes.{Refused, refused-by}
use Rattle.records.proofs.Works.{via, branch}
use Rattle.records.proofs.Kept.{constant-kept, constant-stops}
use Rattle.records.proofs.LaterStores.{Later, later-none, later_made}
use Rattle.normalize.specs.Normalize.{flatten}
use Rattle.normalize.proofs.Atoms.{flatten-flat, flatten-stops}
use Rattle.empties.specs.Empties.{empty_against, unmet, Parts, parts_of, emptied, sides, empty_parts}
use Rattle.empties.proofs.Unmet.{unmet-few}

-- a later store, and no more than 1,024 variables listed
record Gives (s s' : Store) (x : Parts) : Type 0 where
  later : Audited s → Later s s'
  few : length x.listed ≤ list_limit

emptied-gives : (p : List ℕ) (s s' : Store) (x : Parts) → length p ≤ list_limit → emptied p s ≡ ok s' x → Gives s s' x
unfolding emptied all
emptied-gives p s s' x h e =
    via (λ y s₂. ok s₂ (parts_of y (unmet s₂ (y ∷ []) p))) (make_constant [] s) e (λ s₁ y c d.
    let i : s₁ ≡ s' = cc in
    let j : parts_of y (unmet s₁ (y ∷ []) p) ≡ x = cc in
    let k = unmet-few s₁ (y ∷ []) p in
    let n = ap (λ (z : Parts). length z.listed) j in
    record { later = λ a. subst (Later s) i (later_made (constant-kept [] s s₁ y a refl c).made); few = omega arith })

sides-gives : (l r : List ℕ) (s s' : Store) (x : Parts) → length l ≤ list_limit → length r ≤ list_limit → sides l r s ≡ ok s' x → Gives s s' x
unfolding sides
sides-gives l r s s' x n m e =
    branch (empty_against s l r) _ _ {s = s} (λ b d. emptied-gives r s s' x m d)
    (λ b d. branch (empty_against s r l) _ _ {s = s} (λ b₁ d₁. emptied-gives l s s' x n d₁)
    (λ b₁ d₁.
    let i : s ≡ s' = cc in
    let j : parts_of 0 [] ≡ x = cc in
    let k = ap (λ (z : Parts). length z.listed) j in
    record { later = λ a. subst (Later s) i (later-none a); few = omega arith }) d) e

parts-give : (l r : List ℕ) (s s' : Store) (x : Parts) → empty_parts l r s ≡ ok s' x → Gives s s' x
unfolding empty_parts
parts-give l r s s' x e =
    via (λ l₁. flatten r >>= (λ r₁. sides l₁ r₁)) (flatten l s) e (λ s₁ l₁ c d.
    via (λ r₁. sides l₁ r₁) (flatten r s₁) d (λ s₂ r₁ c₂ d₂.
    let f = flatten-flat l s s₁ l₁ c in
    let g = flatten-flat r s₁ s₂ r₁ c₂ in
    let h = sides-gives l₁ r₁ s₂ s' x f.long g.long d₂ in
    let p = g.same_store ∙ f.same_store in
    record { later = λ a. subst (λ (y : Store). Later y s') p (h.later (subst Audited (sym p) a)); few = h.few }))

pub parts-later : (l r : List ℕ) (s s' : Store) (x : Parts) → Audited s → empty_parts l r s ≡ ok s' x → Later s s'
parts-later l r s s' x a e = (parts-give l r s s' x e).later a

pub parts-few : (l r : List ℕ) (s s' : Store) (x : Parts) → empty_parts l r s ≡ ok s' x → length x.listed ≤ list_limit
parts-few l r s s' x e = (parts-give l r s s' x e).few

-- it is refused with 6 or 8

pub parts-stops : (l r : List ℕ) (s : Store) (k : ℕ) → empty_parts l r s ≡ stop k → Refused 9 k
unfolding empty_parts sides emptied
parts-stops l r s k e = from (flatten l s) refl e
  where
    sided : (l₁ r₁ : List ℕ) (s₂ : Store) → sides l₁ r₁ s₂ ≡ stop k → Refused 9 k
    sided l₁ r₁ s₂ d = go (empty_against s₂ l₁ r₁) (empty_against s₂ r₁ l₁) d
      where
        made-stop : (p : List ℕ) (o : Out ℕ) → make_constant [] s₂ ≡ o → and_then (λ x s₃. ok s₃ (parts_of x (unmet s₃ (x ∷ []) p))) o ≡ stop k → Refused 9 k
        made-stop p (ok s₃ y) c f = let z : ◌≡◌ {A = ℕ} 0 1 = cc in absurd (omega arith)
        made-stop p (stop j) c f = let z : j ≡ k = cc in refused-by 8 (omega arith) (omega arith) (sym z ∙ constant-stops [] s₂ j c)

        go : (a b : Bool) → (if a then emptied r₁ else if b then emptied l₁ else give (parts_of 0 [])) s₂ ≡ stop k → Refused 9 k
        go true b f = made-stop r₁ (make_constant [] s₂) refl f
        go false true f = made-stop l₁ (make_constant [] s₂) refl f
        go false false f = let z : ◌≡◌ {A = ℕ} 0 1 = cc in absurd (omega arith)

    right : (l₁ : List ℕ) (s₁ : Store) (o : Out (List ℕ)) → flatten r s₁ ≡ o → and_then (λ r₁. sides l₁ r₁) o ≡ stop k → Refused 9 k
    right l₁ s₁ (ok s₂ r₁) c d = sided l₁ r₁ s₂ d
    right l₁ s₁ (stop j) c d = let z : j ≡ k = cc in refused-by 6 (omega arith) (omega arith) (sym z ∙ (flatten-stops r s₁ j c).0)

    from : (o : Out (List ℕ)) → flatten l s ≡ o → and_then (λ l₁. flatten r >>= (λ r₁. sides l₁ r₁)) o ≡ stop k → Refused 9 k
    from (ok s₁ l₁) c d = right l₁ s₁ (flatten r s₁) refl d
    from (stop j) c d = let z : j ≡ k = cc in refused-by 6 (omega arith) (omega arith) (sym z ∙ (flatten-stops l s j c).0)
