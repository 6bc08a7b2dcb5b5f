-- Step 2 with departure A: a side that holds the lone atom's word and a character more.
use mathlib.Core.Path.{◌≡◌, refl, sym, ap, subst, ◌∙◌}
use mathlib.Core.Bool.{Bool, true, false, ◌&&◌}
use mathlib.Core.List.{List, [], ◌∷◌, ◌++◌, append_assoc, append-nil}
use mathlib.Core.Option.{Option, none, some}
use Prim.Native.Nat.{ℕ, ◌<◌}
use native.Mathlib.Omega.{arith}
use lib.ListN.{length}
use borrow.Author.Tests.{eqb-true, ltb-true}
use Rattle.records.specs.Lists.{any, concat_map, Every, and}
use Rattle.records.specs.Store.{Store, is_constant, text, same_class}
use Rattle.records.specs.Meaning.{Words, Reading}
use Rattle.records.proofs.Lists.{both_left, both_right}
use Rattle.records.proofs.Outcomes.{ends_if, ends-then}
use Rattle.records.specs.Working.Audited.{Audited}
use Rattle.records.proofs.Grown.{Strings}
use Rattle.sides.specs.Wordeq.{is_full, occurrence, occurs_at, occurs}
use Rattle.sides.proofs.Words.{inside_longer, some_long}
use Rattle.sides.proofs.StepOutcomes.{Ends}
use Rattle.sides.proofs.Cited.{Cited, explain-ends, Full, full-ok, full_if, full-then, explain-full}
use Rattle.sides.proofs.Good.{Good, Step, step-pass, step-conflict}

-- y stands in l between past and rest, is of x's class, and a non-empty constant stands elsewhere
record Found (s : Store) (x : ℕ) (l : List ℕ) (y : ℕ) : Type 0 where
  past : List ℕ
  rest : List ℕ
  is : l ≡ past ++ y ∷ rest
  class : same_class s y x ≡ true
  other : any (is_full s) (past ++ rest) ≡ true

found : (s : Store) (x : ℕ) (past l : List ℕ) (y : ℕ) → occurrence s x past l ≡ some y → Found s x (past ++ l) y
unfolding occurrence
found s x past [] y e = let z : ◌≡◌ {A = ℕ} 0 1 = cc in absurd (omega arith)
found s x past (a ∷ l) y e = go (found s x (past ++ (a ∷ [])) l y) (same_class s a x && any (is_full s) (past ++ l)) refl e
  where
    go : (occurrence s x (past ++ (a ∷ [])) l ≡ some y → Found s x ((past ++ (a ∷ [])) ++ l) y)
        → (b : Bool) → same_class s a x && any (is_full s) (past ++ l) ≡ b
        → (elim b as (λ z. Option ℕ) [ true ↦ some a | false ↦ occurrence s x (past ++ (a ∷ [])) l ]) ≡ some y → Found s x (past ++ a ∷ l) y
    go ih true q e =
        let p : a ≡ y = cc in
        rw (← p) (record { past = past; rest = l; is = refl; class = both_left _ _ q; other = both_right (same_class s a x) _ q })
    go ih false q e = rw append_assoc at (ih e)

-- a non-empty constant has a character
full-long : (s : Store) (w : Words) → Reading s w → (a : ℕ) → is_full s a ≡ true → 0 < length (w a)
unfolding is_full
full-long s w rd a f =
    rw (rd.constants a (eqb-true _ _ (both_left (is_constant s a) _ f))) (ltb-true 0 (length (text s a)) (both_right (is_constant s a) _ f))

-- a list with y and a character elsewhere is longer than y
longer : (s : Store) (w : Words) (x : ℕ) (l : List ℕ) (y : ℕ) → Reading s w → Found s x l y → length (w y) < length (concat_map w l)
longer s w x l y rd f = rw f.is (inside_longer w f.past f.rest y (some_long w (is_full s) (f.past ++ f.rest) (full-long s w rd) f.other))

-- what holds of each holds of the one found
at-found : {P : ℕ → Type 0} (past rest : List ℕ) (y : ℕ) → Every P (past ++ y ∷ rest) → P y
at-found [] rest y (and p k) = p
at-found (x ∷ past) rest y (and p k) = at-found past rest y k

pub occurs-step : {added : Bool} (l r : List ℕ) → Step added l r (occurs l r)
unfolding occurs concat_map
occurs-step [] r s d hl hr = step-pass d
occurs-step (a ∷ b ∷ l) r s d hl hr = step-pass d
occurs-step {added} (a ∷ []) r s d (and p hl) hr = ends_if (is_constant s a) _ _ (λ c. step-pass d) (λ c. by (occurrence s a [] r) refl)
  where
    never : (y : ℕ) → Found s a r y → (w : Words) → Reading s w → w y ≡ w a → concat_map w (a ∷ []) ≡ concat_map w r → ⊥
    never y f w rd e z =
        let k = longer s w a r y rd f in
        let n : length (concat_map w r) ≡ length (w y) = ap length (sym z) ∙ ap length (append-nil (w a)) ∙ ap length (sym e) in
        omega arith

    against : (y : ℕ) → Found s a r y → {s₁ : Store} → Cited (λ w. w y ≡ w a) s s₁ → Cited (λ w. concat_map w (a ∷ []) ≡ concat_map w r → ⊥) s s₁
    against y f m = record { added = m.added; audited = m.audited; grown = m.grown; holds = λ w rd h. never y f w rd (m.holds w rd h) }

    by : (y : Option ℕ) → occurrence s a [] r ≡ y → Ends (Good added (a ∷ []) r s) (occurs_at a y s)
    by none q = step-pass d
    by (some y) q =
        let f = found s a [] r y q in
        ends-then _ _ (explain-ends y a s d (at-found f.past f.rest y (subst (Strings s) f.is hr)) p f.class) (λ s₁ u m. step-conflict (against y f m))

pub occurs-full : (l r : List ℕ) (s : Store) → Audited s → Strings s l → Strings s r → Full (occurs l r s)
unfolding occurs
occurs-full [] r s d hl hr = full-ok
occurs-full (a ∷ b ∷ l) r s d hl hr = full-ok
occurs-full (a ∷ []) r s d (and p hl) hr = full_if (is_constant s a) _ _ (λ c. full-ok) (λ c. by (occurrence s a [] r) refl)
  where
    by : (y : Option ℕ) → occurrence s a [] r ≡ y → Full (occurs_at a y s)
    by none q = full-ok
    by (some y) q =
        let f = found s a [] r y q in
        full-then _ _ (explain-full y a s d (at-found f.past f.rest y (subst (Strings s) f.is hr)) p f.class) (λ s₁ u e. full-ok)
