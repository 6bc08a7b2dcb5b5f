-- What the terms made mean: their words, and when a made equation is true.
use mathlib.Core.Path.{◌≡◌, sym, ap, ◌∙◌}
use mathlib.Core.Bool.{true}
use mathlib.Core.List.{List}
use Prim.Native.Nat.{ℕ}
use lib.ListN.{length}
use Rattle.records.specs.Lists.{concat_map}
use Rattle.records.specs.Store.{Term, Store, term, kind, within, is_string}
use Rattle.records.specs.Meaning
use Rattle.records.specs.Meaning.{Words, Reading, True}
use Rattle.records.specs.Working.Audited.{Recorded}
use Rattle.records.proofs.Grown.{present, Grown, grown-kind, grown-string}
use Rattle.records.proofs.Append.{equatable_here}
use Rattle.records.proofs.Kept.{ConstantMade, ConcatMade, EquationMade}

-- WORDS

pub constant-word : {c : List ℕ} {s s' : Store} {t : ℕ} {w : Words} → ConstantMade c s s' t → Reading s' w → w t ≡ c
constant-word m r = r.constants _ m.made.kind_is ∙ m.text_is

pub concat-word : {l : List ℕ} {s s' : Store} {t : ℕ} {w : Words} → ConcatMade l s s' t → Reading s' w → w t ≡ concat_map w l
concat-word {w = w} m r = r.concats _ m.made.kind_is ∙ ap (concat_map w) m.parts_is

-- EQUATIONS

-- between string terms
pub equation-true : (a b : ℕ) {s s' : Store} {t : ℕ} {w : Words} → EquationMade a b s s' t → is_string s a ≡ true → is_string s b ≡ true → w a ≡ w b → True s' w t
equation-true a b {s} {s'} {t} {w} m e f q =
    Meaning.True.equal m.made.kind_is
    (ap (is_string s') m.first_is ∙ grown-string m.made.grown a e) (ap (is_string s') m.second_is ∙ grown-string m.made.grown b f)
    (ap w m.first_is ∙ q ∙ sym (ap w m.second_is))

-- between the lengths a of x and b of y
pub lengths-true : (a b x y : ℕ) {s s' : Store} {t : ℕ} {w : Words} → EquationMade a b s s' t → kind s a ≡ 4 → kind s b ≡ 4 → (term s a).first ≡ x → (term s b).first ≡ y → length (w x) ≡ length (w y) → True s' w t
lengths-true a b x y {s} {s'} {t} {w} m e f p q h =
    Meaning.True.long m.made.kind_is (ap (kind s') m.first_is ∙ grown-kind m.made.grown a 3 e) (ap (kind s') m.second_is ∙ grown-kind m.made.grown b 3 f)
    (ap (λ (i : ℕ). length (w i)) (side a x (term s' t).first e p m.first_is) ∙ h ∙ sym (ap (λ (i : ℕ). length (w i)) (side b y (term s' t).second f q m.second_is)))
  where
    side : (a x i : ℕ) → kind s a ≡ 4 → (term s a).first ≡ x → i ≡ a → (term s' i).first ≡ x
    side a x i e p j = ap (λ (u : ℕ). (term s' u).first) j ∙ ap (λ (u : Term). u.first) (m.made.grown.old a (present s a 3 e)) ∙ p

-- an equation that is true stays so while the store grows
module _ {s s' : Store} (g : Grown s s') (r : Recorded s) (e : ℕ) where
  module _ (k : kind s e ≡ 5) where
    self : term s' e ≡ term s e
    self = g.old e (present s e 4 k)

    first_is : term s' (term s' e).first ≡ term s (term s e).first
    first_is = ap (λ (x : Term). term s' x.first) self ∙ g.old (term s e).first (equatable_here s _ _ (r.equation_sides e k)).0

    second_is : term s' (term s' e).second ≡ term s (term s e).second
    second_is = ap (λ (x : Term). term s' x.second) self ∙ g.old (term s e).second (equatable_here s _ _ (r.equation_sides e k)).1

  pub grown-true : {w : Words} → True s w e → True s' w e
  grown-true {w} (Meaning.True.equal k d f q) =
      Meaning.True.equal (grown-kind g e 4 k) (ap (λ (x : Term). within 3 x.kind) (first_is k) ∙ d) (ap (λ (x : Term). within 3 x.kind) (second_is k) ∙ f)
      (ap (λ (x : Term). w x.first) (self k) ∙ q ∙ ap (λ (x : Term). w x.second) (sym (self k)))
  grown-true {w} (Meaning.True.long k i j q) =
      Meaning.True.long (grown-kind g e 4 k) (ap (λ (x : Term). x.kind) (first_is k) ∙ i) (ap (λ (x : Term). x.kind) (second_is k) ∙ j)
      (ap (λ (x : Term). length (w x.first)) (first_is k) ∙ q ∙ ap (λ (x : Term). length (w x.first)) (sym (second_is k)))
