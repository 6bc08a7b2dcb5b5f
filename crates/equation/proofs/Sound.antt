-- Demand 3 of the step over one equation, from the deep forms of its two sides and wordeq over them.
use mathlib.Core.Path.{◌≡◌, sym, ◌∙◌}
use mathlib.Core.Bool.{true, ◌&&◌}
use mathlib.Core.List.{List}
use mathlib.Core.Logic.{⊎_elim}
use mathlib.Core.Option.{Option, none, some}
use Prim.Native.Nat.{ℕ}
use native.Mathlib.Omega.{arith}
use lib.IntN.{ℤ}
use borrow.Author.Tests.{eqb-true}
use Rattle.records.specs.Lists.{concat_map}
use Rattle.records.specs.Store.{Store, ok, stop, ◌>>=◌, term, kind, is_string, is_length, is_equation, within}
use Rattle.records.specs.Rules.{is_equatable, is_list}
use Rattle.records.specs.Make.{with_reasons, EachOnce}
use Rattle.records.specs.Meaning.{Words, Reading, Holds}
use Rattle.records.specs.Working.Audited.{Audited}
use Rattle.records.proofs.Lists.{both_left, both_right, either, within-high}
use Rattle.records.proofs.Grown.{string-here, grown-string, holds-before, Strings, strings-later}
use Rattle.engine.proofs.Sound.{holds_earlier}
use Rattle.normalize.specs.Normalize.{deep_form}
use Rattle.records.proofs.ListLaws.{list_every}
use Rattle.normalize.proofs.Deep.{DeepFormed, Deepened, deep_ends}
use Rattle.sides.specs.Wordeq.{Answer, done, saturated, conflict, propagate, split, resolve}
use Rattle.sides.specs.Meaning.{Worth}
use Rattle.records.proofs.Outcomes.{ends-give, ends_wider, ends-then}
use Rattle.sides.proofs.StepOutcomes.{RefusedAtWork, Ends}
use Rattle.sides.proofs.Good.{worth-back}
use Rattle.records.proofs.LaterStores.{Later, later_then, later-cut}
use Rattle.sides.proofs.Resolve.{ends-known, Counts, Resolved, resolve-ends}
use Rattle.equation.specs.Equation.{Stepped, unexpanded, answered, returned, or_unexpanded, step, step_arguments, GrowsAfterForms, StepSound}

-- THE SIDES

-- the other side of an equation of strings
pub second-string : (s : Store) → Audited s → (e : ℕ) → is_equation s e ≡ true → is_string s (term s e).first ≡ true → is_string s (term s e).second ≡ true
unfolding is_equatable within
second-string s d e q i =
    ⊎_elim (λ k. both_right (is_string s (term s e).first) _ k)
    (λ k. let n = eqb-true (kind s (term s e).first) 4 (both_left (is_length s (term s e).first) _ k) in let h = within-high 3 (kind s (term s e).first) i in absurd (omega arith))
    (either (is_string s (term s e).first && is_string s (term s e).second) _ (d.recorded.equation_sides e (eqb-true _ _ q)))

form-ends : (known : List ℕ) (t : ℕ) (s : Store) → Audited s → Strings s known → is_string s t ≡ true → Ends (Deepened s t) (deep_form known t s)
form-ends known t s d h i = ends_wider (omega arith) (deep_ends known t s d h i)

-- under a list that has the reasons of both forms, equal words of the terms are equal words of the lists
forms_equal : {s s₁ s₂ : Store} {a b : ℕ} {l r : List ℕ} {rs : List (ℕ × ℕ)} → DeepFormed s s₁ a l → DeepFormed s₁ s₂ b r → EachOnce s₂.reasons rs → (w : Words) → Reading s₂ w → Holds s₂ rs w → w a ≡ w b → concat_map w l ≡ concat_map w r
forms_equal {s₁ = s₁} {s₂ = s₂} p q o w rd h e =
    let k = holds-before q.later.grown s₂.reasons (holds_earlier o h) in
    let j = holds-before p.later.grown s₁.reasons (holds_earlier q.later.reasons k) in
    sym (p.word w (q.later.grown.down w rd) j) ∙ e ∙ q.word w rd k

-- THE STEP

-- a Split's number is wordeq's
abbrev pub StepGrows : List ℕ → ℕ → Store → Store → Stepped → Type 0
StepGrows known e s s' unexpanded = Unit {0}
StepGrows known e s s' (answered done) = Unit {0}
StepGrows known e s s' (answered saturated) = Unit {0}
StepGrows known e s s' (answered conflict) = Unit {0}
StepGrows known e s s' (answered (propagate v y f)) = Unit {0}
StepGrows known e s s' (answered (split atoms g n)) = GrowsAfterForms known e s s' n

-- what is shown of the step: the store after, demand 3, and the number of a Split
pub record StepGood (known : List ℕ) (s : Store) (e : ℕ) (s' : Store) (x : Stepped) : Type 0 where
  pub later : Later s s'
  pub sound : StepSound s s' e x
  pub grows : StepGrows known e s s' x

module _ (known : List ℕ) (e : ℕ) (g : ℤ) (s : Store) (audited : Audited s) (good : step_arguments known e g s ≡ true) where
  abbrev a : ℕ
  a = (term s e).first

  abbrev b : ℕ
  b = (term s e).second

  list : is_list s known && is_equation s e && is_string s a ≡ true
  list = both_left (is_list s known && is_equation s e && is_string s a) _ good

  strings : Strings s known
  strings = list_every s known (both_left (is_list s known) _ (both_left (is_list s known && is_equation s e) _ list))

  left : is_string s a ≡ true
  left = both_right (is_list s known && is_equation s e) _ list

  right : is_string s b ≡ true
  right = second-string s audited e (both_right (is_list s known) _ (both_left (is_list s known && is_equation s e) _ list)) left

  unexpanded-good : (s₁ : Store) → Later s s₁ → StepGood known s e (with_reasons s₁ s.reasons) unexpanded
  unexpanded-good s₁ k = record { later = later-cut audited k; sound = tt; grows = tt }

  returned-ends : (x : Answer) (s₁ : Store) → Later s s₁ → Worth s s₁ (λ w. w a) (λ w. w b) x → StepGrows known e s s₁ (answered x) → Ends (StepGood known s e) (returned s.reasons x s₁)
  returned-ends done s₁ k h j = ends-give (record { later = later-cut audited k; sound = tt; grows = tt })
  returned-ends saturated s₁ k h j = ends-give (record { later = k; sound = tt; grows = tt })
  returned-ends conflict s₁ k h j = ends-give (record { later = k; sound = h; grows = tt })
  returned-ends (propagate v y f) s₁ k h j = ends-give (record { later = k; sound = h; grows = tt })
  returned-ends (split atoms z n) s₁ k h j = ends-give (record { later = k; sound = h; grows = j })

  -- the growth within wordeq, from the forms on
  grows_from : {s₁ s₂ : Store} {l r : List ℕ} → deep_form known a s ≡ ok s₁ (some l) → deep_form known b s₁ ≡ ok s₂ (some r) → (s₃ : Store) (x : Answer) → Counts s₂ s₃ x → StepGrows known e s s₃ (answered x)
  grows_from i j s₃ done k = tt
  grows_from i j s₃ saturated k = tt
  grows_from i j s₃ conflict k = tt
  grows_from i j s₃ (propagate v y f) k = tt
  grows_from {s₁} {s₂} {l} {r} i j s₃ (split atoms z n) k = record { left = l; right = r; after_left = s₁; after_both = s₂; left_form = i; right_form = j; grows = k.1 }

  resolved-ends : {s₁ s₂ : Store} {l r : List ℕ} → DeepFormed s s₁ a l → deep_form known a s ≡ ok s₁ (some l) → DeepFormed s₁ s₂ b r → deep_form known b s₁ ≡ ok s₂ (some r)
      → (s₃ : Store) (x : Answer) → Resolved l r s₂ s₃ x → Ends (StepGood known s e) (returned s.reasons x s₃)
  resolved-ends {l = l} {r = r} p i q j s₃ x y =
      let k = later_then p.later q.later in
      returned-ends x s₃ (later_then k y.later)
      (worth-back x (λ w. w a) (λ w. w b) (λ w. concat_map w l) (λ w. concat_map w r) k.grown (λ t i. p.variables t (q.variables t i)) y.later.grown (λ w w₁ f. f a (string-here s a left)) (λ w w₁ f. f b (string-here s b right))
      (forms_equal p q y.later.reasons) y.sound) (grows_from i j s₃ x y.counts)

  right-ends : {s₁ : Store} {l : List ℕ} → DeepFormed s s₁ a l → deep_form known a s ≡ ok s₁ (some l) → (s₂ : Store) (o : Option (List ℕ)) → Deepened s₁ b s₂ o × (deep_form known b s₁ ≡ ok s₂ o)
      → Ends (StepGood known s e) (or_unexpanded s.reasons (λ r. resolve l r g >>= returned s.reasons) o s₂)
  right-ends p i s₂ none y = ends-give (unexpanded-good s₂ (later_then p.later y.0))
  right-ends {l = l} p i s₂ (some r) y =
      ends-then (returned s.reasons) (resolve l r g s₂) (resolve-ends l r g s₂ y.0.later.audited (strings-later y.0.later.grown p.strings) y.0.strings) (resolved-ends p i y.0 y.1)

  left-ends : (s₁ : Store) (o : Option (List ℕ)) → Deepened s a s₁ o × (deep_form known a s ≡ ok s₁ o)
      → Ends (StepGood known s e) (or_unexpanded s.reasons (λ l. deep_form known b >>= or_unexpanded s.reasons (λ r. resolve l r g >>= returned s.reasons)) o s₁)
  left-ends s₁ none y = ends-give (unexpanded-good s₁ y.0)
  left-ends s₁ (some l) y =
      let g = y.0.later.grown in
      ends-then _ (deep_form known b s₁) (ends-known (form-ends known b s₁ y.0.later.audited (strings-later g strings) (grown-string g b right))) (right-ends y.0 y.1)

  ends : Ends (StepGood known s e) (step known e g s)
  unfolding step
  ends = ends-then _ (deep_form known a s) (ends-known (form-ends known a s audited strings left)) left-ends

  pub step_gives : (s' : Store) (x : Stepped) → step known e g s ≡ ok s' x → StepGood known s e s' x
  step_gives s' x q = ends.given s' x q

  -- demand 3
  pub step-sound : (s' : Store) (x : Stepped) → step known e g s ≡ ok s' x → StepSound s s' e x
  step-sound s' x q = (step_gives s' x q).sound

  pub step_kept : (s' : Store) (x : Stepped) → step known e g s ≡ ok s' x → Audited s'
  step_kept s' x q = (step_gives s' x q).later.audited

  -- it stops only with 6 to 9
  pub step-stops : (n : ℕ) → step known e g s ≡ stop n → RefusedAtWork n
  step-stops n q = ends.stopped n q
