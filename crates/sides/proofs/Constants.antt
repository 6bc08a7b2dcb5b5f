-- Steps 3, 4 and 6: what constants rule out, and what a lone or an empty side gives.
use Rattle.std.specs.Prelude.{if◌then◌else◌}
use mathlib.Core.Path.{◌≡◌, refl, sym, ap, ◌∙◌}
use mathlib.Core.Bool.{Bool, true, false, not, ◌&&◌, ◌||◌}
use mathlib.Core.List.{List, [], ◌∷◌, ◌++◌, append-nil}
use mathlib.Core.Logic.{⊎_elim}
use mathlib.Core.Option.{Option, none, some}
use Prim.Native.Nat.{ℕ, ◌≤◌}
use native.Mathlib.Omega.{arith}
use lib.ListN.{length}
use borrow.Author.Tests.{eqb-true, ltb-true, not-true}
use Rattle.records.specs.Lists.{all, first_of, concat_map, is_in}
use Rattle.records.specs.Store.{Store, kind, is_constant, is_variable, text}
use Rattle.records.specs.Rules.{is_char}
use Rattle.records.specs.Make.{make_constant}
use Rattle.records.specs.Meaning.{Words, Reading}
use Rattle.records.specs.Working.Audited.{Audited}
use Rattle.records.proofs.Lists.{both_left, both_right, either, clash, all_every, all-concat_map, word_same}
use Rattle.records.proofs.Paths.{first-has}
use Rattle.records.proofs.Readings.{text-characters}
use Rattle.records.proofs.Kept.{ConstantMade, constant-kept, constant-stops}
use Rattle.records.proofs.MadeWords.{constant-word}
use Rattle.records.proofs.Outcomes.{ends-give, ends_by, ends_if, ends-then}
use Rattle.sides.specs.Wordeq.{conflict, answer, same, fixed, letters_of, letters, unequal, short, absent, constants, is_plain, alias, empties_at, empties, assigns, differ, clashes}
use Rattle.sides.specs.Repeated.{NoWord}
use Rattle.sides.proofs.Words.{fill-within, fill_in, any_in, differ-apart, empty_each}
use Rattle.sides.proofs.StepOutcomes.{Ends}
use Rattle.sides.proofs.Cited.{cited-none}
use Rattle.sides.proofs.Good.{Good, passes, Step, step-pass, step-conflict, step-propagate}
use Rattle.records.proofs.LaterStores.{later-none, later_made}
use Rattle.sides.proofs.Tile.{fixed_word}

-- 3

letters-within : (s : Store) (w : Words) (l : List ℕ) → Reading s w → length (letters s l) ≤ length (concat_map w l)
unfolding letters letters_of
letters-within s w l rd = fill-within (is_constant s) (text s) w (λ a e. rd.constants a (eqb-true _ _ e)) l

letters_in : (s : Store) (w : Words) (l : List ℕ) (c : ℕ) → Reading s w → is_in c (letters s l) ≡ true → is_in c (concat_map w l) ≡ true
unfolding letters letters_of
letters_in s w l c rd e = fill_in (is_constant s) (text s) w (λ a e. rd.constants a (eqb-true _ _ e)) l c e

short-never : (s : Store) (l r : List ℕ) → short s l r ≡ true → NoWord s l r
unfolding short
short-never s l r e w rd z =
    let p = fixed_word s w l rd (both_left _ _ e) in
    let q = ltb-true (length (letters s l)) (length (letters s r)) (both_right (fixed s l) _ e) in
    let k = letters-within s w r rd in
    let n : length (letters s l) ≡ length (concat_map w r) = ap length (sym p ∙ z) in
    omega arith

absent-never : (s : Store) (l r : List ℕ) → absent s l r ≡ true → NoWord s l r
unfolding absent
absent-never s l r e w rd z =
    let p = fixed_word s w l rd (both_left _ _ e) in
    let k = any_in _ (letters s r) (both_right (fixed s l) _ e) in
    clash {a = is_in k.0 (letters s l)} (ap (is_in k.0) (sym p ∙ z) ∙ letters_in s w r k.0 rd k.2) (not-true _ k.1)

unequal-never : (s : Store) (l r : List ℕ) → unequal s l r ≡ true → NoWord s l r
unfolding unequal
unequal-never s l r e w rd z =
    let h = both_left (fixed s l && fixed s r) _ e in
    let p = fixed_word s w l rd (both_left _ _ h) in
    let q = fixed_word s w r rd (both_right (fixed s l) _ h) in
    clash (word_same (letters s l) (letters s r) (sym p ∙ z ∙ q)) (not-true _ (both_right (fixed s l && fixed s r) _ e))

never-step : {added : Bool} {l r : List ℕ} {s : Store} → Audited s → NoWord s l r → Ends (Good added l r s) (answer conflict s)
never-step {s = s} d n = step-conflict (cited-none s d n)

pub never-turned : (s : Store) (l r : List ℕ) → NoWord s r l → NoWord s l r
never-turned s l r n w rd z = n w rd (sym z)

-- each test of step 3 shuts every word out
pub constants-never : (s : Store) (l r : List ℕ) → unequal s l r || short s l r || short s r l || absent s l r || absent s r l ≡ true → NoWord s l r
constants-never s l r b =
    ⊎_elim (λ b₁. ⊎_elim (λ b₂. ⊎_elim (λ b₃. ⊎_elim (unequal-never s l r) (short-never s l r) (either _ _ b₃)) (λ h. never-turned s l r (short-never s r l h)) (either _ _ b₂))
    (absent-never s l r) (either _ _ b₁)) (λ h. never-turned s l r (absent-never s r l h)) (either _ _ b)

pub constants-step : {added : Bool} (l r : List ℕ) → Step added l r (constants l r)
unfolding constants
constants-step l r s d hl hr = ends_if _ _ _ (λ b. never-step d (constants-never s l r b)) (λ b. step-pass d)

-- 4

plain-variable : (s : Store) (v : ℕ) → is_plain s v ≡ true → kind s v ≡ 2
unfolding is_plain
plain-variable s v e = eqb-true _ _ (both_left (is_variable s v) _ e)

pub alias-step : {added : Bool} (l r : List ℕ) → Step added l r (alias l r)
unfolding alias concat_map
alias-step (a ∷ []) (b ∷ []) s d hl hr =
    ends_if (is_plain s a && is_plain s b) _ _ (λ c. step-propagate a b false (later-none d) (plain-variable s a (both_left (is_plain s a) _ c)) (λ w rd h z. sym (append-nil (w a)) ∙ z ∙ append-nil (w b))) (λ c. step-pass d)
alias-step (a ∷ []) [] s d hl hr = step-pass d
alias-step (a ∷ []) (b ∷ c ∷ r) s d hl hr = step-pass d
alias-step [] r s d hl hr = step-pass d
alias-step (a ∷ c ∷ l) r s d hl hr = step-pass d

pub constant-ends : (c : List ℕ) (s : Store) → Audited s → all is_char c ≡ true → Ends (ConstantMade c s) (make_constant c s)
constant-ends c s d good = ends_by 8 (omega arith) (omega arith) (λ s' t e. constant-kept c s s' t d good e) (constant-stops c s)

pub empties-step : {added : Bool} (l r : List ℕ) → Step added l r (empties l r)
unfolding empties all concat_map
empties-step [] [] s d hl hr = step-pass d
empties-step [] (a ∷ []) s d hl hr = step-pass d
empties-step (x ∷ l) r s d hl hr = step-pass d
empties-step {added} [] (a ∷ b ∷ r) s d hl hr =
    ends_if (all (is_variable s) (a ∷ b ∷ r)) _ _ (λ c. ends-then _ _ (constant-ends [] s d refl) (λ s₁ t m. by c s₁ t m (first_of (λ v. not (same s₁ v t)) (a ∷ b ∷ r)) refl)) (λ c. step-pass d)
  where
    by : all (is_variable s) (a ∷ b ∷ r) ≡ true → (s₁ : Store) (t : ℕ) → ConstantMade [] s s₁ t → (y : Option ℕ) → first_of (λ v. not (same s₁ v t)) (a ∷ b ∷ r) ≡ y → Ends (Good added [] (a ∷ b ∷ r) s) (empties_at t y s₁)
    by c s₁ t m none q = ends-give (passes (later_made m.made) (m.made.variables (λ e. omega arith)) m.made.reasons (λ p q. absurd (omega arith)))
    by c s₁ t m (some v) q =
        step-propagate v t true (later_made m.made) (eqb-true _ _ (first-has _ (a ∷ b ∷ r) v (all_every (is_variable s) (a ∷ b ∷ r) c) q).0)
        (λ w rd h z. (first-has _ (a ∷ b ∷ r) v (empty_each w (a ∷ b ∷ r) (sym z)) q).0 ∙ sym (constant-word m rd))

-- constants' characters are characters
pub letters-characters : (s : Store) (l : List ℕ) → Audited s → all is_char (letters s l) ≡ true
unfolding letters letters_of all
letters-characters s l d = all-concat_map is_char (letters_of s) l (λ a. go a (is_constant s a))
  where
    go : (a : ℕ) (b : Bool) → all is_char (if b then text s a else []) ≡ true
    go a true = text-characters s d.recorded a
    go a false = refl

pub assigns-step : {added : Bool} (l r : List ℕ) → Step added l r (assigns l r)
unfolding assigns concat_map
assigns-step [] r s d hl hr = step-pass d
assigns-step (a ∷ b ∷ l) r s d hl hr = step-pass d
assigns-step (a ∷ []) r s d hl hr =
    ends_if (is_variable s a && fixed s r) _ _
    (λ c. ends-then _ _ (constant-ends (letters s r) s d (letters-characters s r d)) (λ s₁ t m.
    step-propagate a t false (later_made m.made) (eqb-true _ _ (both_left (is_variable s a) _ c))
    (λ w rd h z. sym (append-nil (w a)) ∙ z ∙ fixed_word s w r (m.made.grown.down w rd) (both_right (is_variable s a) _ c) ∙ sym (constant-word m rd))))
    (λ c. step-pass d)

-- 6

-- heads that differ shut every word out
pub clashes-never : (s : Store) (a b : ℕ) (l r : List ℕ) → is_constant s a && is_constant s b && differ (text s a) (text s b) ≡ true → NoWord s (a ∷ l) (b ∷ r)
unfolding concat_map
clashes-never s a b l r c w rd z =
    let h = both_left (is_constant s a && is_constant s b) _ c in
    differ-apart (text s a) (text s b) (concat_map w l) (concat_map w r) (both_right (is_constant s a && is_constant s b) _ c)
    (ap (λ (y : List ℕ). y ++ concat_map w l) (sym (rd.constants a (eqb-true _ _ (both_left _ _ h))))
    ∙ z ∙ ap (λ (y : List ℕ). y ++ concat_map w r) (rd.constants b (eqb-true _ _ (both_right (is_constant s a) _ h))))

pub clashes-step : {added : Bool} (l r : List ℕ) → Step added l r (clashes l r)
unfolding clashes
clashes-step [] r s d hl hr = step-pass d
clashes-step (a ∷ l) [] s d hl hr = step-pass d
clashes-step (a ∷ l) (b ∷ r) s d hl hr =
    ends_if (is_constant s a && is_constant s b && differ (text s a) (text s b)) _ _ (λ c. never-step d (clashes-never s a b l r c)) (λ c. step-pass d)
