-- What is shown of each step, and of steps in sequence.
use mathlib.Core.Path.{◌≡◌, refl, sym, ap, ◌∙◌}
use mathlib.Core.Bool.{Bool, false}
use mathlib.Core.List.{List}
use mathlib.Core.Option.{Option, none, some}
use Prim.Native.Nat.{ℕ, ◌+◌, ◌≤◌, ◌<◌}
use lib.ListN.{length}
use Rattle.records.specs.Lists.{concat_map}
use Rattle.records.specs.Store.{Store, count, kind}
use Rattle.records.specs.Meaning.{Words}
use Rattle.records.specs.Working.Audited.{Audited}
use Rattle.records.proofs.Lists.{concat_map-same, every_map}
use Rattle.records.proofs.Grown.{Grown, OldVariables, grown-kind, present, string-here, Strings, strings-later}
use Rattle.records.proofs.LaterStores.{Later, later-none, later_then, later_added}
use Rattle.records.proofs.Outcomes.{ends-give, ends-map, ends-then}
use Rattle.sides.specs.Wordeq.{Answer, done, saturated, conflict, propagate, split, Tried, answer, pass, settled, ◌or_else◌}
use Rattle.sides.specs.Meaning.{Worth, Sound}
use Rattle.sides.proofs.StepOutcomes.{Ends}
use Rattle.sides.proofs.Cited.{Under, Cited}

pub later-cited : {P : Words → Type 0} {s s' : Store} → Cited P s s' → Later s s'
later-cited c = later_added c.added c.audited

-- WORTH FROM AN EARLIER STORE

-- words that depend on the terms of s alone
abbrev pub Local : Store → (Words → List ℕ) → Type 0
Local s L = (w w₁ : Words) → ((t : ℕ) → t ≤ count s → w₁ t ≡ w t) → L w₁ ≡ L w

pub concat_map_local : (s : Store) {l : List ℕ} → Strings s l → Local s (λ w. concat_map w l)
concat_map_local s k w w₁ f = concat_map-same w₁ w (every_map (λ t h. f t (string-here s t h)) k)

pub worth-back : (x : Answer) {s s₁ s' : Store} (L R L₁ R₁ : Words → List ℕ) → Grown s s₁ → OldVariables s s₁ → Grown s₁ s' → Local s L → Local s R
    → Under s₁ s'.reasons (λ w. L w ≡ R w → L₁ w ≡ R₁ w) → Worth s₁ s' L₁ R₁ x → Worth s s' L R x
worth-back done L R L₁ R₁ g o g' hl hr u h = tt
worth-back saturated L R L₁ R₁ g o g' hl hr u h = tt
worth-back conflict {s} {s₁} {s'} L R L₁ R₁ g o g' hl hr u h = λ w rd k e.
    let x = g.extend w rd in
    let v = x.held s'.reasons k in
    h x.words x.reading v (u x.words x.reading v (hl w x.words x.agree ∙ e ∙ sym (hr w x.words x.agree)))
worth-back (propagate v y f) {s} {s₁} {s'} L R L₁ R₁ g o g' hl hr u h = record {
  variable = o v h.variable;
  equal = λ w rd k e. let j = g.holds w s'.reasons k in h.equal w rd j (u w (g'.down w rd) j e);
}
worth-back (split atoms j n) {s} {s₁} {s'} L R L₁ R₁ g o g' hl hr u h = λ w rd k e.
    let x = g.extend w rd in
    let v = x.held s'.reasons k in
    let c = h x.words x.reading v (u x.words x.reading v (hl w x.words x.agree ∙ e ∙ sym (hr w x.words x.agree))) in
    record {
      words = c.words;
      reading = c.reading;
      agree = λ t i. c.agree t (grown-kind g t 1 i) ∙ x.agree t (present s t 1 i);
      atom = c.atom;
      listed = c.listed;
      holds = c.holds;
    }

pub worth_flip : (x : Answer) (s s' : Store) (L R : Words → List ℕ) → Worth s s' R L x → Worth s s' L R x
worth_flip done s s' L R h = tt
worth_flip saturated s s' L R h = tt
worth_flip conflict s s' L R h = λ w rd k e. h w rd k (sym e)
worth_flip (propagate v y f) s s' L R h = record { variable = h.variable; equal = λ w rd k e. h.equal w rd k (sym e) }
worth_flip (split atoms g n) s s' L R h = λ w rd k e. h w rd k (sym e)

-- STEPS

-- a Split comes only where no stripped match needs a reason, and adds none; neither side is empty, and its number is that of the terms made
pub record Splits (needed : Bool) (l r : List ℕ) (s s' : Store) (n : ℕ) : Type 0 where
  pub unneeded : needed ≡ false
  pub reasons : s'.reasons ≡ s.reasons
  pub left : 0 < length l
  pub right : 0 < length r
  pub counts : count s' ≡ n + count s

abbrev pub Calm : Bool → List ℕ → List ℕ → Store → Store → Answer → Type 0
Calm needed l r s s' done = Unit {0}
Calm needed l r s s' saturated = Unit {0}
Calm needed l r s s' conflict = Unit {0}
Calm needed l r s s' (propagate v y f) = Unit {0}
Calm needed l r s s' (split atoms g n) = Splits needed l r s s' n

-- only where a side is empty does a step make a term and pass
abbrev pub Uncounted : List ℕ → List ℕ → Store → Store → Type 0
Uncounted l r s s' = 0 < length l → 0 < length r → count s' ≡ count s

-- what is shown of each step: it passes and adds no reason and no variable, or its answer is sound
pub data Good (needed : Bool) (l r : List ℕ) (s s' : Store) : Option Answer → Type 0 where
  passes : Later s s' → OldVariables s s' → s'.reasons ≡ s.reasons → Uncounted l r s s' → Good needed l r s s' none
  answers : {x : Answer} → Later s s' → Sound s s' l r x → Calm needed l r s s' x → Good needed l r s s' (some x)

abbrev pub Step : Bool → List ℕ → List ℕ → Tried → Type 0
Step needed l r m = (s : Store) → Audited s → Strings s l → Strings s r → Ends (Good needed l r s) (m s)

module _ (needed : Bool) (l r : List ℕ) where
  calm_after : (x : Answer) (s s₁ s' : Store) → s₁.reasons ≡ s.reasons → Uncounted l r s s₁ → Calm needed l r s₁ s' x → Calm needed l r s s' x
  calm_after done s s₁ s' n u c = tt
  calm_after saturated s s₁ s' n u c = tt
  calm_after conflict s s₁ s' n u c = tt
  calm_after (propagate v y f) s s₁ s' n u c = tt
  calm_after (split atoms g j) s s₁ s' n u c = record { unneeded = c.unneeded; reasons = c.reasons ∙ n; left = c.left; right = c.right; counts = c.counts ∙ ap (λ (k : ℕ). j + k) (u c.left c.right) }

  calm_flip : (x : Answer) (s s' : Store) → Calm needed l r s s' x → Calm needed r l s s' x
  calm_flip done s s' c = tt
  calm_flip saturated s s' c = tt
  calm_flip conflict s s' c = tt
  calm_flip (propagate v y f) s s' c = tt
  calm_flip (split atoms g j) s s' c = record { unneeded = c.unneeded; reasons = c.reasons; left = c.right; right = c.left; counts = c.counts }

module _ {needed : Bool} {l r : List ℕ} where
  pub step-pass : {s : Store} → Audited s → Ends (Good needed l r s) (pass s)
  step-pass d = ends-give (passes (later-none d) (λ t e. e) refl (λ p q. refl))

  pub step-conflict : {s s₁ : Store} → Cited (λ w. concat_map w l ≡ concat_map w r → ⊥) s s₁ → Ends (Good needed l r s) (answer conflict s₁)
  step-conflict c = ends-give (answers (later-cited c) c.holds tt)

  pub step-propagate : {s s₁ : Store} (v y : ℕ) (f : Bool) → Later s s₁ → kind s v ≡ 2 → Under s₁ s₁.reasons (λ w. concat_map w l ≡ concat_map w r → w v ≡ w y)
      → Ends (Good needed l r s) (answer (propagate v y f) s₁)
  step-propagate {s₁ = s₁} v y f k i h = ends-give (answers k (record { variable = i; equal = λ w rd u e. h w rd (k.grown.holds w s₁.reasons u) e }) tt)

  -- after work that adds no reason and no variable
  pub good-after : {s s₁ s' : Store} {o : Option Answer} → Strings s l → Strings s r → Later s s₁ → OldVariables s s₁ → s₁.reasons ≡ s.reasons → Uncounted l r s s₁ → Good needed l r s₁ s' o → Good needed l r s s' o
  good-after hl hr k v n i (passes h u e j) = passes (later_then k h) (λ t i. v t (u t i)) (e ∙ n) (λ p q. j p q ∙ i p q)
  good-after {s} {s₁} {s'} hl hr k v n i (answers {x} h e c) =
      answers (later_then k h)
      (worth-back x (λ w. concat_map w l) (λ w. concat_map w r) (λ w. concat_map w l) (λ w. concat_map w r) k.grown v h.grown (concat_map_local s hl) (concat_map_local s hr) (λ w rd u z. z) e)
      (calm_after needed l r x s s₁ s' n i c)

  pub step_else : (m n : Tried) → Step needed l r m → Step needed l r n → Step needed l r (m or_else n)
  step_else m n gm gn s d hl hr = ends-then (settled n) (m s) (gm s d hl hr) by
    where
      by : (s₁ : Store) (o : Option Answer) → Good needed l r s s₁ o → Ends (Good needed l r s) (settled n o s₁)
      by s₁ (some x) g = ends-give g
      by s₁ none (passes k v e i) =
          ends-map (λ s' o h. good-after hl hr k v e i h) (gn s₁ k.audited (strings-later k.grown hl) (strings-later k.grown hr))

pub good_flip : {needed : Bool} {l r : List ℕ} {s s' : Store} {o : Option Answer} → Good needed r l s s' o → Good needed l r s s' o
good_flip (passes k v e i) = passes k v e (λ p q. i q p)
good_flip {needed} {l} {r} {s} {s'} (answers {x} k h c) = answers k (worth_flip x s s' (λ w. concat_map w l) (λ w. concat_map w r) h) (calm_flip needed r l x s s' c)

pub step_flip : {needed : Bool} {l r : List ℕ} {m : Tried} → Step needed r l m → Step needed l r m
step_flip g s d hl hr = ends-map (λ s' o h. good_flip h) (g s d hr hl)
