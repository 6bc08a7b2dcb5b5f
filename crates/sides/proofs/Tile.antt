-- Step 5: no word for the one variable class fits.
use Rattle.std.specs.Prelude.{if◌then◌else◌}
use mathlib.Core.Path.{◌≡◌, refl, sym, ap, subst, ◌∙◌}
use mathlib.Core.Bool.{Bool, true, false, not, ◌&&◌}
use mathlib.Core.List.{List, [], ◌∷◌, ◌++◌, append_assoc}
use Prim.Native.Nat.{ℕ, suc, ◌+◌, ◌*◌}
use native.Mathlib.Omega.{arith}
use lib.ListN.{length}
use lib.Dec.{eqb}
use borrow.Author.Tests.{eqb-true, eq-eqb, not-true}
use Rattle.records.specs.Lists.{all, keep, concat_map, same_word, Every, none_left, and}
use Rattle.records.specs.Store.{Store, is_constant, is_string, text, root, same_class}
use Rattle.records.specs.Meaning.{Words, Reading}
use Rattle.records.specs.Working.Audited.{Audited}
use Rattle.records.proofs.Lists.{both_left, both_right, both_true, clash, all_every, word-refl}
use Rattle.records.proofs.Grown.{grown-string, Strings, strings-later}
use Rattle.records.proofs.Outcomes.{ends-give, ends-map, ends_if, ends-then}
use Rattle.sides.specs.Wordeq.{same, fixed, letters_of, letters, filled, lead, first_span, fits, explain_all, variables, tile_by, tile}
use Rattle.sides.proofs.Words.{fill_is, fill-all, fill-length, span-is, span-forced}
use Rattle.sides.proofs.StepOutcomes.{Ends}
use Rattle.sides.proofs.Cited.{Cited, cited-none, cited-then, explain-ends, Full, full-ok, full_if, full-then, explain-full}
use Rattle.sides.proofs.Good.{Good, Step, step-pass, step-conflict}
use Rattle.sides.proofs.Strip.{same_class_lem}

-- WORDS OF A SIDE

pub fixed_word : (s : Store) (w : Words) (l : List ℕ) → Reading s w → fixed s l ≡ true → concat_map w l ≡ letters s l
unfolding fixed letters letters_of
fixed_word s w l rd f = fill-all (is_constant s) (text s) w [] (λ a e. rd.constants a (eqb-true _ _ e)) l f

-- what holds of those kept holds of each that passes the test
pub every_kept : {A : Type 0} (p : A → Bool) (P : A → Type 0) (l : List A) → Every P (keep p l) → Every (λ a. p a ≡ true → P a) l
unfolding keep
every_kept p P [] k = none_left
every_kept p P (x ∷ l) k = go (every_kept p P l) (p x) refl k
  where
    go : (Every P (keep p l) → Every (λ a. p a ≡ true → P a) l) → (b : Bool) → p x ≡ b → Every P (if b then (x ∷ keep p l) else keep p l) → Every (λ a. p a ≡ true → P a) (x ∷ l)
    go ih true e (and q k') = and (λ z. q) (ih k')
    go ih false e k' = and (λ z. clash z e) (ih k')

pub kept_every : {A : Type 0} (p : A → Bool) {P : A → Type 0} {l : List A} → Every P l → Every P (keep p l)
unfolding keep
kept_every p none_left = none_left
kept_every p {P} (and {a} {l} q k) = go (p a) (kept_every p k)
  where
    go : (b : Bool) → Every P (keep p l) → Every P (if b then (a ∷ keep p l) else keep p l)
    go true h = and q h
    go false h = h

pub kept-pass : {A : Type 0} (p : A → Bool) (l : List A) → Every (λ a. p a ≡ true) (keep p l)
unfolding keep
kept-pass p [] = none_left
kept-pass p (x ∷ l) = go (kept-pass p l) (p x) refl
  where
    go : Every (λ a. p a ≡ true) (keep p l) → (b : Bool) → p x ≡ b → Every (λ a. p a ≡ true) (if b then (x ∷ keep p l) else keep p l)
    go ih true e = and e ih
    go ih false e = ih

-- where the first variable stands
filled-lead : (s : Store) (u r : List ℕ) (v : ℕ) (vs : List ℕ) → variables s r ≡ v ∷ vs → (rest : List ℕ) × (filled s u r ≡ lead s r ++ (u ++ rest))
unfolding concat_map filled lead keep
filled-lead s u [] v vs e = let z : ◌≡◌ {A = ℕ} 0 1 = cc in absurd (omega arith)
filled-lead s u (a ∷ r) v vs e = go (filled-lead s u r v vs) (is_constant s a) e
  where
    go : (variables s r ≡ v ∷ vs → (rest : List ℕ) × (filled s u r ≡ lead s r ++ (u ++ rest))) → (b : Bool) → (if not b then (a ∷ variables s r) else variables s r) ≡ v ∷ vs
        → (rest : List ℕ) × ((if b then text s a else u) ++ filled s u r ≡ (elim b as (λ x. List ℕ) [ true ↦ text s a ++ lead s r | false ↦ [] ]) ++ (u ++ rest))
    go ih true e = ((ih e).0, ap (λ (x : List ℕ). text s a ++ x) (ih e).1 ∙ sym (append_assoc (text s a) (lead s r) (u ++ (ih e).0)))
    go ih false e = (filled s u r, refl)

filled-length : (s : Store) (u r : List ℕ) (v : ℕ) (vs : List ℕ) → variables s r ≡ v ∷ vs → length (filled s u r) ≡ suc (length vs) * length u + length (letters s r)
unfolding filled letters letters_of
filled-length s u r v vs e = fill-length (is_constant s) (text s) u r ∙ ap (λ (x : List ℕ). length x * length u + length (letters s r)) e

-- a side that is the word fits it
filled-fits : (s : Store) (u r : List ℕ) (v : ℕ) (vs : List ℕ) → variables s r ≡ v ∷ vs → fits s (filled s u r) r (suc (length vs)) ≡ true
unfolding fits first_span
filled-fits s u r v vs e =
    let c = length (letters s r) in
    let word = filled s u r in
    let p = filled-length s u r v vs e in
    let f = filled-lead s u r v vs e in
    let g : first_span s word r (suc (length vs)) ≡ u = span-is (lead s r) u f.0 word (length vs) c f.1 p in
    both_true _ _ (eq-eqb _ (length word) (span-forced (length word) (suc (length vs)) (length u) c (omega arith) p))
    (ap (λ (x : List ℕ). same_word (filled s x r) word) g ∙ word-refl word)

-- EXPLAINED

explain_all-ends : (l : List ℕ) (v : ℕ) (s : Store) → Audited s → is_string s v ≡ true → Strings s l → Every (λ u. same_class s u v ≡ true) l → Ends (λ s' x. Cited (λ w. Every (λ u. w u ≡ w v) l) s s') (explain_all l v s)
unfolding explain_all
explain_all-ends [] v s d p h k = ends-give (cited-none s d (λ w rd. none_left))
explain_all-ends (u ∷ l) v s d p (and q h) (and c k) =
    ends-then _ _ (explain-ends u v s d q p c) (λ s₁ x m.
    ends-map (λ s' y n. cited-then (λ w e f. and e f) m n)
    (explain_all-ends l v s₁ m.audited (grown-string m.grown v p) (strings-later m.grown h) (rw m.added.is k)))

explain_all-full : (l : List ℕ) (v : ℕ) (s : Store) → Audited s → is_string s v ≡ true → Strings s l → Every (λ u. same_class s u v ≡ true) l → Full (explain_all l v s)
unfolding explain_all
explain_all-full [] v s d p h k = full-ok
explain_all-full (u ∷ l) v s d p (and q h) (and c k) =
    full-then _ _ (explain-full u v s d q p c) (λ s₁ x e.
    let m = (explain-ends u v s d q p c).given s₁ x e in
    explain_all-full l v s₁ m.audited (grown-string m.grown v p) (strings-later m.grown h) (rw m.added.is k))

-- two that are the same and no constants are of one class
one_class_lem : (s : Store) (a b : ℕ) → not (is_constant s a) ≡ true → same s a b ≡ true → same_class s a b ≡ true
one_class_lem s a b n e = go (eqb a b) refl (is_constant s a) refl n
  where
    go : (x : Bool) → eqb a b ≡ x → (y : Bool) → is_constant s a ≡ y → not y ≡ true → same_class s a b ≡ true
    go true p y q n = eq-eqb _ _ (ap (root s) (eqb-true a b p))
    go false p true q n = clash n refl
    go false p false q n = same_class_lem s a b e (rw (p, q))

classes : (s : Store) (v : ℕ) (us : List ℕ) → Every (λ a. not (is_constant s a) ≡ true) us → Every (λ u. same s u v ≡ true) us → Every (λ u. same_class s u v ≡ true) us
classes s v [] k m = none_left
classes s v (u ∷ us) (and n k) (and m h) = and (one_class_lem s u v n m) (classes s v us k h)

every_tail : {P : ℕ → Type 0} {v : ℕ} {vs : List ℕ} → Every P (v ∷ vs) → P v × Every P vs
every_tail (and q k) = (q, k)

-- the variables of a side of string terms, all the same as the first
tail_strings : (s : Store) (r : List ℕ) (v : ℕ) (vs : List ℕ) → Strings s r → variables s r ≡ v ∷ vs → (is_string s v ≡ true) × Strings s vs
tail_strings s r v vs h p = every_tail (subst (Strings s) p (kept_every (λ a. not (is_constant s a)) h))

tail_class : (s : Store) (r : List ℕ) (v : ℕ) (vs : List ℕ) → variables s r ≡ v ∷ vs → all (λ u. same s u v) vs ≡ true → Every (λ u. same_class s u v ≡ true) vs
tail_class s r v vs p b =
    let vars = every_tail (subst (Every (λ a. not (is_constant s a) ≡ true)) p (kept-pass (λ a. not (is_constant s a)) r)) in
    classes s v vs vars.1 (all_every _ vs b)

-- THE STEP

pub no_fit : (l r : List ℕ) (s : Store) (v : ℕ) (vs : List ℕ) → variables s r ≡ v ∷ vs → fixed s l ≡ true → fits s (letters s l) r (suc (length vs)) ≡ false
    → (w : Words) → Reading s w → Every (λ u. w u ≡ w v) vs → concat_map w l ≡ concat_map w r → ⊥
unfolding filled
no_fit l r s v vs p f n w rd k e =
    let kept : Every (λ a. w a ≡ w v) (variables s r) = subst (Every (λ a. w a ≡ w v)) (sym p) (and refl k) in
    let q = filled-word (every_kept _ (λ a. w a ≡ w v) r kept) in
    let z : letters s l ≡ filled s (w v) r = sym (fixed_word s w l rd f) ∙ e ∙ q in
    clash (filled-fits s (w v) r v vs p) (rw z at n)
  where
    filled-word : Every (λ a. not (is_constant s a) ≡ true → w a ≡ w v) r → concat_map w r ≡ filled s (w v) r
    filled-word h = fill_is (is_constant s) (text s) w (w v) (λ a e. rd.constants a (eqb-true _ _ e)) h

pub tile-step : {added : Bool} (l r : List ℕ) → Step added l r (tile l r)
unfolding tile tile_by
tile-step {added} l r s d hl hr = ends_if (fixed s l) _ _ (λ f. by f (variables s r) refl) (λ f. step-pass d)
  where
    against : (v : ℕ) (vs : List ℕ) → variables s r ≡ v ∷ vs → fixed s l ≡ true → fits s (letters s l) r (suc (length vs)) ≡ false
        → {s₁ : Store} → Cited (λ w. Every (λ u. w u ≡ w v) vs) s s₁ → Cited (λ w. concat_map w l ≡ concat_map w r → ⊥) s s₁
    against v vs p f n m = record { added = m.added; audited = m.audited; grown = m.grown; holds = λ w rd h. no_fit l r s v vs p f n w rd (m.holds w rd h) }

    by : fixed s l ≡ true → (vs : List ℕ) → variables s r ≡ vs → Ends (Good added l r s) (tile_by s l r vs s)
    by f [] p = step-pass d
    by f (v ∷ vs) p =
        ends_if (all (λ u. same s u v) vs && not (fits s (letters s l) r (suc (length vs)))) _ _
        (λ b.
        let strs = tail_strings s r v vs hr p in
        ends-then _ _ (explain_all-ends vs v s d strs.0 strs.1 (tail_class s r v vs p (both_left _ _ b)))
        (λ s₁ x m. step-conflict (against v vs p f (not-true _ (both_right (all (λ u. same s u v) vs) _ b)) m)))
        (λ b. step-pass d)

pub tile-full : (l r : List ℕ) (s : Store) → Audited s → Strings s r → Full (tile l r s)
unfolding tile tile_by
tile-full l r s d hr = full_if (fixed s l) _ _ (λ f. by (variables s r) refl) (λ f. full-ok)
  where
    by : (vs : List ℕ) → variables s r ≡ vs → Full (tile_by s l r vs s)
    by [] p = full-ok
    by (v ∷ vs) p =
        full_if (all (λ u. same s u v) vs && not (fits s (letters s l) r (suc (length vs)))) _ _
        (λ b.
        let strs = tail_strings s r v vs hr p in
        full-then _ _ (explain_all-full vs v s d strs.0 strs.1 (tail_class s r v vs p (both_left _ _ b))) (λ s₁ x e. full-ok))
        (λ b. full-ok)
