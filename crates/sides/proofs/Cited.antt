-- What holds of all words under the reasons that are there when work has ended; work that is refused only where the reasons are full.
use Rattle.std.specs.Prelude.{if◌then◌else◌}
use mathlib.Core.Path.{◌≡◌, refl, sym, subst, ◌∙◌}
use mathlib.Core.Bool.{Bool, true, false}
use mathlib.Core.List.{List, ◌++◌}
use Prim.Native.Nat.{ℕ}
use native.Mathlib.Omega.{arith}
use Rattle.records.specs.Store.{Store, Out, ok, stop, Work, and_then, is_string, same_class}
use Rattle.records.specs.Meaning.{Words, Reading, Holds}
use Rattle.records.specs.Working.Audited.{Audited}
use Rattle.records.proofs.Grown.{Grown, grown-none, grown-then}
use Rattle.records.proofs.Beside.{reading-beside}
use Rattle.engine.specs.Explain.{explain}
use Rattle.records.proofs.LaterStores.{Added, added_none, added_then, added-once}
use Rattle.engine.proofs.Sound.{Gave, explain_gives, explain_stops, holds_earlier}
use Rattle.records.proofs.Outcomes.{ends_by}
use Rattle.sides.proofs.StepOutcomes.{Ends}

abbrev pub Under : Store → List (ℕ × ℕ) → (Words → Type 0) → Type 0
Under s rs P = (w : Words) → Reading s w → Holds s rs w → P w

-- s' has more reasons than s, and P holds of all words under those of s'
pub record Cited (P : Words → Type 0) (s s' : Store) : Type 0 where
  pub added : Added s s'
  pub audited : Audited s'
  pub grown : Grown s s'
  pub holds : Under s s'.reasons P

module _ {s s' : Store} (a : Added s s') where
  pub reading-on : {w : Words} → Reading s w → Reading s' w
  reading-on {w} r = subst (λ (x : Store). Reading x w) (sym a.is) (reading-beside s (s.reasons ++ a.more) s.keys s.names w r)

pub cited-none : {P : Words → Type 0} (s : Store) → Audited s → ((w : Words) → Reading s w → P w) → Cited P s s
cited-none s d f = record { added = added_none s; audited = d; grown = grown-none s; holds = λ w r h. f w r }

pub cited_gave : {s s' : Store} {a b : ℕ} → Gave s s' a b → Cited (λ w. w a ≡ w b) s s'
cited_gave g = record { added = g.added; audited = g.audited; grown = g.grown; holds = g.equal }

pub cited-map : {P Q : Words → Type 0} {s s' : Store} → ((w : Words) → P w → Q w) → Cited P s s' → Cited Q s s'
cited-map f c = record { added = c.added; audited = c.audited; grown = c.grown; holds = λ w r h. f w (c.holds w r h) }

pub cited-then : {P Q R : Words → Type 0} {s s₁ s₂ : Store} → ((w : Words) → P w → Q w → R w) → Cited P s s₁ → Cited Q s₁ s₂ → Cited R s s₂
cited-then {s₂ = s₂} f p q = record {
  added = added_then p.added q.added;
  audited = q.audited;
  grown = grown-then p.grown q.grown;
  holds = λ w r h. f w (p.holds w r (holds_earlier (added-once q.added) h)) (q.holds w (reading-on p.added r) (p.grown.holds w s₂.reasons h));
}

-- EXPLAIN

pub explain-ends : (a b : ℕ) (s : Store) → Audited s → is_string s a ≡ true → is_string s b ≡ true → same_class s a b ≡ true → Ends (λ s' u. Cited (λ w. w a ≡ w b) s s') (explain a b s)
explain-ends a b s d p q c = ends_by 7 (omega arith) (omega arith) (λ s' u e. cited_gave (explain_gives s d a b p q c s' u e)) (explain_stops s d a b p q c)

-- REFUSED WITH 7 ALONE

-- work that is refused, if at all, since the reasons are full
pub record Full {A : Type 0} (o : Out A) : Type 0 where
  pub seven : (n : ℕ) → o ≡ stop n → n ≡ 7

module _ {A : Type 0} where
  pub full-ok : {s : Store} {a : A} → Full (ok s a)
  full-ok = record { seven = λ n e. (let z : ◌≡◌ {A = ℕ} 0 1 = cc in absurd (omega arith)) }

  pub full_if : (b : Bool) (m n : Work A) {s : Store} → (b ≡ true → Full (m s)) → (b ≡ false → Full (n s)) → Full ((if b then m else n) s)
  full_if true m n f g = f refl
  full_if false m n f g = g refl

module _ {A B : Type 0} where
  pub full-then : (f : A → Work B) (o : Out A) → Full o → ((s : Store) (a : A) → o ≡ ok s a → Full (f a s)) → Full (and_then f o)
  full-then f (ok s a) h k = k s a refl
  full-then f (stop n) h k = record { seven = λ m e. (let z : n ≡ m = cc in sym z ∙ h.seven n refl) }

pub explain-full : (a b : ℕ) (s : Store) → Audited s → is_string s a ≡ true → is_string s b ≡ true → same_class s a b ≡ true → Full (explain a b s)
explain-full a b s d p q c = record { seven = explain_stops s d a b p q c }
