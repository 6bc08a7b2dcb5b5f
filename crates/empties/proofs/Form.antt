-- The ordinary call on two lists of which one is empty and the other is two or more variables: "" is made, and the first variable that is
-- not the same as it is propagated to it.
use mathlib.Core.Path.{◌≡◌, refl, sym, ap, ◌∙◌}
use mathlib.Core.Bool.{Bool, true, false, not, ◌&&◌, ◌||◌}
use mathlib.Core.List.{List, [], ◌∷◌, ◌++◌, append-nil, reverse, reverse-reverse}
use mathlib.Core.Logic.{⊎_elim}
use mathlib.Core.Option.{Option, none, some}
use Prim.Native.Nat.{ℕ, suc, ◌+◌, ◌*◌, ◌-◌, ◌/◌, ◌≤◌}
use native.Mathlib.Nat.{div-le_self}
use native.Mathlib.Omega.{arith}
use lib.ListN.{length, take}
use lib.Seq.{take-nil, drop-nil}
use lib.IntN.{ℤ}
use lib.Dec.{eqb, leb}
use borrow.Author.Tests.{eqb-true, eq-eqb, ne_eqb, leb-true, le-leb}
use Rattle.records.specs.Lists.{all, any, keep, concat_map, same_word, first_of, Every, none_left, and}
use Rattle.records.specs.Store.{Store, Out, ok, stop, Work, and_then, ◌>>=◌, give, is_constant, is_variable, is_concat, kind}
use Rattle.records.specs.Make.{with_reasons, make_constant}
use Rattle.records.proofs.Lists.{both_left, both_right, both_true, left_false, right-false, either, all_every}
use Rattle.normalize.specs.Normalize.{flatten}
use Rattle.sides.specs.Wordeq.{Answer, done, propagate, Tried, settled, ◌or_else◌, same, fixed, letters_of, letters, same_heads, same_tails, explain_matches, matches, needs_reason, rest, strip, occurs, unequal, short, absent, constants, alias, empties_at, empties, assigns, filled, lead, first_span, fits, variables, tile_by, tile, clashes, splits, after, or_done, steps, softened, closed, resolve}
use Rattle.empties.specs.Empties.{empty_against, emptied, sides}

-- WHAT IT ANSWERS

abbrev pub first_not : Store → ℕ → List ℕ → Option ℕ
first_not s e p = first_of (λ v. not (same s v e)) p

abbrev pub tries : ℕ → Option ℕ → Option Answer
tries e none = none
tries e (some v) = some (propagate v e true)

abbrev pub says : ℕ → Option ℕ → Answer
says e none = done
says e (some v) = propagate v e true

-- STEPS IN SEQUENCE

module _ (n : Tried) {o : Out (Option Answer)} where
  else_next : {s : Store} {z : Out (Option Answer)} → o ≡ ok s none → n s ≡ z → and_then (settled n) o ≡ z
  else_next e f = ap (and_then (settled n)) e ∙ f

  else_answer : {s : Store} {x : Answer} → o ≡ ok s (some x) → and_then (settled n) o ≡ ok s (some x)
  else_answer e = ap (and_then (settled n)) e

  else_stop : {k : ℕ} → o ≡ stop k → and_then (settled n) o ≡ stop k
  else_stop e = ap (and_then (settled n)) e

-- A SIDE OF VARIABLES

module _ (s : Store) where
  not-constant : (v : ℕ) → is_variable s v ≡ true → is_constant s v ≡ false
  not-constant v e = let k = eqb-true (kind s v) 2 e in rw k

  fixed-none : fixed s [] ≡ true
  unfolding fixed all
  fixed-none = refl

  letters_none : letters s [] ≡ []
  unfolding letters concat_map
  letters_none = refl

  variables-letters : (l : List ℕ) → Every (λ v. is_variable s v ≡ true) l → letters s l ≡ []
  unfolding letters letters_of concat_map
  variables-letters [] none_left = refl
  variables-letters (v ∷ l) (and h k) = rw (not-constant v h) (variables-letters l k)

  variables-filled : (l : List ℕ) → Every (λ v. is_variable s v ≡ true) l → filled s [] l ≡ []
  unfolding filled concat_map
  variables-filled [] none_left = refl
  variables-filled (v ∷ l) (and h k) = rw (not-constant v h) (variables-filled l k)

  variables-all : (l : List ℕ) → Every (λ v. is_variable s v ≡ true) l → variables s l ≡ l
  unfolding keep
  variables-all [] none_left = refl
  variables-all (v ∷ l) (and h k) = rw (not-constant v h) (ap (λ (m : List ℕ). v ∷ m) (variables-all l k))

  -- the first of it is no constant
  variable_side : (v : ℕ) (l : List ℕ) → is_variable s v ≡ true → fixed s (v ∷ l) ≡ false
  unfolding fixed all
  variable_side v l h = rw (not-constant v h)

  heads-none : (l : List ℕ) → same_heads s l [] ≡ []
  unfolding same_heads
  heads-none [] = refl
  heads-none (a ∷ l) = refl

-- nothing over k, however often
no_span : (k : ℕ) → k * ((0 - 0) / k) + 0 ≡ 0
no_span k = let d = div-le_self 0 k in let z : 0 / k ≡ 0 = omega arith in go (0 / k) z
  where
    go : (x : ℕ) → x ≡ 0 → k * x + 0 ≡ 0
    go x e = rw e (omega arith)

module _ (s : Store) (a b : ℕ) (q : List ℕ) (h : all (is_variable s) (a ∷ b ∷ q) ≡ true) where
  abbrev p : List ℕ
  p = a ∷ b ∷ q

  each : Every (λ v. is_variable s v ≡ true) p
  each = all_every (is_variable s) p h

  first : is_variable s a ≡ true
  unfolding all
  first = both_left (is_variable s a) _ h

  loose : fixed s p ≡ false
  loose = variable_side s a (b ∷ q) first

  wordless : letters s p ≡ []
  wordless = variables-letters s p each

  -- STEP 1

  strip-left : strip [] p s ≡ ok s ([], p)
  unfolding strip same_heads same_tails rest explain_matches
  strip-left = ap (λ (x : List ℕ). ok s ([], x)) (reverse-reverse p)

  strip-right : strip p [] s ≡ ok s (p, [])
  unfolding strip same_heads same_tails rest explain_matches
  strip-right = rw (heads-none s (reverse p)) (ap (λ (x : List ℕ). ok s (x, [])) (reverse-reverse p))

  -- STEPS 2 AND 3

  constants-left : constants [] p s ≡ ok s none
  unfolding constants unequal short absent any
  constants-left = rw (fixed-none s, letters_none s, loose, wordless)

  constants-right : constants p [] s ≡ ok s none
  unfolding constants unequal short absent any
  constants-right = rw (fixed-none s, letters_none s, loose, wordless)

  -- STEP 4

  empties-is : empties [] p s ≡ and_then (λ e s₁. empties_at e (first_not s₁ e p) s₁) (make_constant [] s)
  unfolding empties
  empties-is = rw h

  empties-stop : {k : ℕ} → make_constant [] s ≡ stop k → empties [] p s ≡ stop k
  empties-stop e = empties-is ∙ ap (and_then (λ e s₁. empties_at e (first_not s₁ e p) s₁)) e

  empties-done : {s₁ : Store} {e : ℕ} → make_constant [] s ≡ ok s₁ e → empties [] p s ≡ ok s₁ (tries e (first_not s₁ e p))
  empties-done {s₁} {e} c = empties-is ∙ ap (and_then (λ e s₁. empties_at e (first_not s₁ e p) s₁)) c ∙ at (first_not s₁ e p)
    where
      at : (o : Option ℕ) → empties_at e o s₁ ≡ ok s₁ (tries e o)
      at none = refl
      at (some v) = refl

  -- STEP 5

  span_none : (k : ℕ) → first_span s [] p k ≡ []
  unfolding first_span
  span_none k = let n = (length {A = ℕ} [] - length (letters s p)) / k in ap (take n) (drop-nil (length (lead s p))) ∙ take-nil n

  fits_all : (k : ℕ) → fits s [] p k ≡ true
  unfolding fits same_word
  fits_all k = rw (span_none k, variables-filled s p each, wordless, eq-eqb _ _ (no_span k))

  tile_by_lem : tile_by s [] p p s ≡ ok s none
  unfolding tile_by
  tile_by_lem = rw (letters_none s, fits_all (suc (length (b ∷ q))), right-false (all (λ u. same s u a) (b ∷ q)) false refl)

  tile_left : tile [] p s ≡ ok s none
  unfolding tile
  tile_left = rw (fixed-none s) (ap (λ (vs : List ℕ). tile_by s [] p vs s) (variables-all s p each) ∙ tile_by_lem)

  tile_right : tile p [] s ≡ ok s none
  unfolding tile
  tile_right = rw loose

  -- STEPS 2 TO 8, WHATEVER THE OTHERS SAY

  occurs-none : (r : List ℕ) → occurs [] r s ≡ ok s none
  unfolding occurs
  occurs-none r = refl

  occurs-many : (r : List ℕ) → occurs p r s ≡ ok s none
  unfolding occurs
  occurs-many r = refl

  alias-none : (r : List ℕ) → alias [] r s ≡ ok s none
  unfolding alias
  alias-none r = refl

  alias-many : (r : List ℕ) → alias p r s ≡ ok s none
  unfolding alias
  alias-many r = refl

  empties-many : (r : List ℕ) → empties p r s ≡ ok s none
  unfolding empties
  empties-many r = refl

  assigns-none : (r : List ℕ) → assigns [] r s ≡ ok s none
  unfolding assigns
  assigns-none r = refl

  assigns-many : (r : List ℕ) → assigns p r s ≡ ok s none
  unfolding assigns
  assigns-many r = refl

  clashes-none : (r : List ℕ) → clashes [] r s ≡ ok s none
  unfolding clashes
  clashes-none r = refl

  clashes-many : clashes p [] s ≡ ok s none
  unfolding clashes
  clashes-many = refl

  splits-none : (g : ℤ) (added : Bool) (r : List ℕ) → splits g added [] r s ≡ ok s none
  unfolding splits
  splits-none g added r = refl

  splits-many : (g : ℤ) (added : Bool) → splits g added p [] s ≡ ok s none
  unfolding splits
  splits-many g added = refl

-- STEPS 2 TO 8

module _ (s : Store) (a b : ℕ) (q : List ℕ) (h : all (is_variable s) (a ∷ b ∷ q) ≡ true) (g : ℤ) (added : Bool) where
  abbrev p₁ : List ℕ
  p₁ = a ∷ b ∷ q

  -- an answer, or a stop, of the first five or six is that of all

  module _ {x : Answer} {s₁ : Store} where
    answer-left : {o : Out (Option Answer)} → o ≡ ok s₁ (some x)
        → and_then (settled (splits g added [] p₁)) (and_then (settled (clashes [] p₁)) (and_then (settled (tile p₁ [])) (and_then (settled (tile [] p₁)) (and_then (settled (assigns p₁ [])) (and_then (settled (assigns [] p₁)) (and_then (settled (empties p₁ [])) o))))))
        ≡ ok s₁ (some x)
    answer-left e = else_answer (splits g added [] p₁) (else_answer (clashes [] p₁) (else_answer (tile p₁ []) (else_answer (tile [] p₁) (else_answer (assigns p₁ []) (else_answer (assigns [] p₁) (else_answer (empties p₁ []) e))))))

    answer-right : {o : Out (Option Answer)} → o ≡ ok s₁ (some x)
        → and_then (settled (splits g added p₁ [])) (and_then (settled (clashes p₁ [])) (and_then (settled (tile [] p₁)) (and_then (settled (tile p₁ [])) (and_then (settled (assigns [] p₁)) (and_then (settled (assigns p₁ [])) o)))))
        ≡ ok s₁ (some x)
    answer-right e = else_answer (splits g added p₁ []) (else_answer (clashes p₁ []) (else_answer (tile [] p₁) (else_answer (tile p₁ []) (else_answer (assigns [] p₁) (else_answer (assigns p₁ []) e)))))

  -- up to the making of ""
  to-left : {z : Out (Option Answer)} → empties [] p₁ s ≡ z → (occurs [] p₁ or_else occurs p₁ [] or_else constants [] p₁ or_else alias [] p₁ or_else empties [] p₁) s ≡ z
  to-left e = else_next (empties [] p₁) (else_next (alias [] p₁) (else_next (constants [] p₁) (else_next (occurs p₁ []) (occurs-none s a b q h p₁) (occurs-many s a b q h [])) (constants-left s a b q h)) (alias-none s a b q h p₁)) e

  to-right : {z : Out (Option Answer)} → empties [] p₁ s ≡ z → (occurs p₁ [] or_else occurs [] p₁ or_else constants p₁ [] or_else alias p₁ [] or_else empties p₁ [] or_else empties [] p₁) s ≡ z
  to-right e = else_next (empties [] p₁) (else_next (empties p₁ []) (else_next (alias p₁ []) (else_next (constants p₁ []) (else_next (occurs [] p₁) (occurs-many s a b q h []) (occurs-none s a b q h p₁)) (constants-right s a b q h)) (alias-many s a b q h [])) (empties-many s a b q h [])) e

  module _ {k : ℕ} (c : make_constant [] s ≡ stop k) where
    after_left-stops : after g added [] p₁ s ≡ stop k
    unfolding after
    after_left-stops = else_stop (splits g added [] p₁) (else_stop (clashes [] p₁) (else_stop (tile p₁ []) (else_stop (tile [] p₁) (else_stop (assigns p₁ []) (else_stop (assigns [] p₁) (else_stop (empties p₁ []) (to-left (empties-stop s a b q h c))))))))

    after-right_stops : after g added p₁ [] s ≡ stop k
    unfolding after
    after-right_stops = else_stop (splits g added p₁ []) (else_stop (clashes p₁ []) (else_stop (tile [] p₁) (else_stop (tile p₁ []) (else_stop (assigns [] p₁) (else_stop (assigns p₁ []) (to-right (empties-stop s a b q h c)))))))

  module _ {s₁ : Store} {e : ℕ} (c : make_constant [] s ≡ ok s₁ e) (h₁ : all (is_variable s₁) (a ∷ b ∷ q) ≡ true) where
    after_left_lem : (o : Option ℕ) → first_not s₁ e p₁ ≡ o → after g added [] p₁ s ≡ ok s₁ (tries e o)
    unfolding after
    after_left_lem none f =
        else_next (splits g added [] p₁) (else_next (clashes [] p₁) (else_next (tile p₁ []) (else_next (tile [] p₁) (else_next (assigns p₁ []) (else_next (assigns [] p₁) (else_next (empties p₁ [])
        (to-left (empties-done s a b q h c ∙ ap (λ (o : Option ℕ). ok s₁ (tries e o)) f))
        (empties-many s₁ a b q h₁ [])) (assigns-none s₁ a b q h₁ p₁)) (assigns-many s₁ a b q h₁ [])) (tile_left s₁ a b q h₁)) (tile_right s₁ a b q h₁)) (clashes-none s₁ a b q h₁ p₁)) (splits-none s₁ a b q h₁ g added p₁)
    after_left_lem (some v) f = answer-left (to-left (empties-done s a b q h c ∙ ap (λ (o : Option ℕ). ok s₁ (tries e o)) f))

    after-right : (o : Option ℕ) → first_not s₁ e p₁ ≡ o → after g added p₁ [] s ≡ ok s₁ (tries e o)
    unfolding after
    after-right none f =
        else_next (splits g added p₁ []) (else_next (clashes p₁ []) (else_next (tile [] p₁) (else_next (tile p₁ []) (else_next (assigns [] p₁) (else_next (assigns p₁ [])
        (to-right (empties-done s a b q h c ∙ ap (λ (o : Option ℕ). ok s₁ (tries e o)) f))
        (assigns-many s₁ a b q h₁ [])) (assigns-none s₁ a b q h₁ p₁)) (tile_right s₁ a b q h₁)) (tile_left s₁ a b q h₁)) (clashes-many s₁ a b q h₁)) (splits-many s₁ a b q h₁ g added)
    after-right (some v) f = answer-right (to-right (empties-done s a b q h c ∙ ap (λ (o : Option ℕ). ok s₁ (tries e o)) f))

-- ALL STEPS

tries-done : (s : Store) (e : ℕ) (o : Option ℕ) → or_done (tries e o) s ≡ ok s (says e o)
tries-done s e none = refl
tries-done s e (some v) = refl

module _ (s : Store) (a b : ℕ) (q : List ℕ) (h : all (is_variable s) (a ∷ b ∷ q) ≡ true) (g : ℤ) where
  abbrev p₂ : List ℕ
  p₂ = a ∷ b ∷ q

  abbrev asked : List ℕ → List ℕ → Bool
  asked l r = any (needs_reason s) (matches s l r)

  steps-left-is : steps g [] p₂ s ≡ and_then or_done (after g (asked [] p₂) [] p₂ s)
  unfolding steps
  steps-left-is = rw (strip-left s a b q h)

  steps-right-is : steps g p₂ [] s ≡ and_then or_done (after g (asked p₂ []) p₂ [] s)
  unfolding steps
  steps-right-is = rw (strip-right s a b q h)

  pub steps-left_stops : {k : ℕ} → make_constant [] s ≡ stop k → steps g [] p₂ s ≡ stop k
  steps-left_stops c = steps-left-is ∙ ap (and_then or_done) (after_left-stops s a b q h g (asked [] p₂) c)

  pub steps-right_stops : {k : ℕ} → make_constant [] s ≡ stop k → steps g p₂ [] s ≡ stop k
  steps-right_stops c = steps-right-is ∙ ap (and_then or_done) (after-right_stops s a b q h g (asked p₂ []) c)

  module _ {s₁ : Store} {e : ℕ} (c : make_constant [] s ≡ ok s₁ e) (h₁ : all (is_variable s₁) (a ∷ b ∷ q) ≡ true) where
    pub steps-left : steps g [] p₂ s ≡ ok s₁ (says e (first_not s₁ e p₂))
    steps-left = steps-left-is ∙ ap (and_then or_done) (after_left_lem s a b q h g (asked [] p₂) c h₁ (first_not s₁ e p₂) refl) ∙ tries-done s₁ e (first_not s₁ e p₂)

    pub steps-right : steps g p₂ [] s ≡ ok s₁ (says e (first_not s₁ e p₂))
    steps-right = steps-right-is ∙ ap (and_then or_done) (after-right s a b q h g (asked p₂ []) c h₁ (first_not s₁ e p₂) refl) ∙ tries-done s₁ e (first_not s₁ e p₂)

-- WHICHEVER LIST IS EMPTY

-- l and r, of which one is empty and the other the parts p
pub data Formed (s : Store) : List ℕ → List ℕ → List ℕ → Type 0 where
  left : (a b : ℕ) (q : List ℕ) → all (is_variable s) (a ∷ b ∷ q) ≡ true → Formed s [] (a ∷ b ∷ q) (a ∷ b ∷ q)
  right : (a b : ℕ) (q : List ℕ) → all (is_variable s) (a ∷ b ∷ q) ≡ true → Formed s (a ∷ b ∷ q) [] (a ∷ b ∷ q)

against_parts : (s : Store) (l r : List ℕ) → empty_against s l r ≡ true → (length l ≡ 0) × (2 ≤ length r) × (all (is_variable s) r ≡ true)
against_parts s l r h = (eqb-true _ _ (both_left _ _ (both_left _ _ h)), leb-true _ _ (both_right (eqb (length l) 0) _ (both_left _ _ h)), both_right (eqb (length l) 0 && leb 2 (length r)) _ h)

against_true : (s : Store) (a b : ℕ) (q : List ℕ) → all (is_variable s) (a ∷ b ∷ q) ≡ true → empty_against s [] (a ∷ b ∷ q) ≡ true
against_true s a b q h = both_true _ _ (both_true _ _ (eq-eqb (length {A = ℕ} []) 0 refl) (le-leb 2 (length (a ∷ b ∷ q)) (omega arith))) h

against_false : (s : Store) (a : ℕ) (q r : List ℕ) → empty_against s (a ∷ q) r ≡ false
against_false s a q r = left_false _ _ (left_false _ _ (ne_eqb (length (a ∷ q)) 0 (λ e. absurd (omega arith))))

formed-left : (s : Store) (l r : List ℕ) → length l ≡ 0 → 2 ≤ length r → all (is_variable s) r ≡ true → Formed s l r r
formed-left s (x ∷ l) r e n h = absurd (omega arith)
formed-left s [] [] e n h = absurd (omega arith)
formed-left s [] (a ∷ []) e n h = absurd (omega arith)
formed-left s [] (a ∷ b ∷ q) e n h = left a b q h

formed-right : (s : Store) (l r : List ℕ) → length r ≡ 0 → 2 ≤ length l → all (is_variable s) l ≡ true → Formed s l r l
formed-right s l (x ∷ r) e n h = absurd (omega arith)
formed-right s [] [] e n h = absurd (omega arith)
formed-right s (a ∷ []) [] e n h = absurd (omega arith)
formed-right s (a ∷ b ∷ q) [] e n h = right a b q h

-- lists of the form, and their parts
pub record Form (s : Store) (l r : List ℕ) : Type 0 where
  pub parts : List ℕ
  pub formed : Formed s l r parts

pub form_of : (s : Store) (l r : List ℕ) → empty_against s l r || empty_against s r l ≡ true → Form s l r
form_of s l r e =
    ⊎_elim (λ h. let p = against_parts s l r h in record { parts = r; formed = formed-left s l r p.0 p.1 p.2 })
    (λ h. let p = against_parts s r l h in record { parts = l; formed = formed-right s l r p.0 p.1 p.2 }) (either _ _ e)

module _ {s : Store} where
  pub formed-variables : {l r p : List ℕ} → Formed s l r p → all (is_variable s) p ≡ true
  formed-variables (left a b q h) = h
  formed-variables (right a b q h) = h

  pub formed-length : {l r p : List ℕ} → Formed s l r p → length p ≡ length (l ++ r)
  formed-length (left a b q h) = refl
  formed-length (right a b q h) = ap length (sym (append-nil (a ∷ b ∷ q)))

  pub formed_in : {s₁ : Store} {l r p : List ℕ} → Formed s l r p → all (is_variable s₁) p ≡ true → Formed s₁ l r p
  formed_in (left a b q h) h₁ = left a b q h₁
  formed_in (right a b q h) h₁ = right a b q h₁

  pub formed-sides : {l r p : List ℕ} → Formed s l r p → sides l r s ≡ emptied p s
  unfolding sides
  formed-sides (left a b q h) = rw (against_true s a b q h)
  formed-sides (right a b q h) = rw (against_false s a (b ∷ q) [], against_true s a b q h)

  pub formed-stops : {l r p : List ℕ} (g : ℤ) {k : ℕ} → Formed s l r p → make_constant [] s ≡ stop k → steps g l r s ≡ stop k
  formed-stops g (left a b q h) c = steps-left_stops s a b q h g c
  formed-stops g (right a b q h) c = steps-right_stops s a b q h g c

  pub formed-says : {l r p : List ℕ} (g : ℤ) {s₁ : Store} {e : ℕ} → Formed s l r p → make_constant [] s ≡ ok s₁ e → all (is_variable s₁) p ≡ true → steps g l r s ≡ ok s₁ (says e (first_not s₁ e p))
  formed-says g (left a b q h) c h₁ = steps-left s a b q h g c h₁
  formed-says g (right a b q h) c h₁ = steps-right s a b q h g c h₁

-- CLOSED AND SOFTENED

pub says-soft : (e : ℕ) (o : Option ℕ) → softened (says e o) ≡ says e o
says-soft e none = refl
says-soft e (some v) = refl

pub says-closed : (s s₁ : Store) (e : ℕ) (o : Option ℕ) → s₁.reasons ≡ s.reasons → closed s.reasons (says e o) s₁ ≡ ok s₁ (says e o)
says-closed s s₁ e none i = ap (λ (rs : List (ℕ × ℕ)). ok (with_reasons s₁ rs) done) (sym i)
says-closed s s₁ e (some v) i = refl

-- THE WHOLE CALL, on flattened lists or not

module _ (l r : List ℕ) (g : ℤ) (s : Store) where
  abbrev flatly : Work Answer
  flatly = flatten l >>= (λ l₁. flatten r >>= (λ r₁. steps g l₁ r₁ >>= (λ y. give (softened y))))

  pub resolve-flat : any (is_concat s) (l ++ r) ≡ true → resolve l r g s ≡ and_then (closed s.reasons) (flatly s)
  unfolding resolve
  resolve-flat e = rw e

  pub resolve-plain : any (is_concat s) (l ++ r) ≡ false → resolve l r g s ≡ and_then (closed s.reasons) (steps g l r s)
  unfolding resolve
  resolve-plain e = rw e
