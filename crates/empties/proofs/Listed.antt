-- What is listed: no two are of one class, and each has the word of "" where the sides have equal words.
use mathlib.Core.Path.{◌≡◌, refl, sym, ap, subst, ◌∙◌}
use mathlib.Core.Bool.{true, false, ◌||◌}
use mathlib.Core.List.{List, [], ◌∷◌}
use Prim.Native.Nat.{ℕ, ◌<◌}
use native.Mathlib.Omega.{arith}
use lib.ListN.{length, get_or}
use borrow.Author.Tests.{eq-eqb}
use Rattle.records.specs.Lists.{all, concat_map, Every, none_left}
use Rattle.records.specs.Store.{Store, ok, ◌>>=◌, is_variable, kind, text, same_class}
use Rattle.records.specs.Make.{constant_of, make_constant}
use Rattle.records.specs.Meaning.{Words, Reading}
use Rattle.records.specs.Working.Audited.{Audited}
use Rattle.records.proofs.Lists.{decide, clash, both_true, word_same, all_every, every_all, every_map}
use Rattle.records.proofs.Works.{via}
use Rattle.records.proofs.Kept.{ConstantMade, constant-kept}
use Rattle.records.proofs.MadeWords.{constant-word}
use Rattle.normalize.specs.Normalize.{atoms, flatten}
use Rattle.normalize.proofs.Atoms.{flatten-flat, atoms-words}
use Rattle.wordeq.proofs.Flattened.{neither_left, neither_right}
use Rattle.sides.proofs.Words.{empty_each}
use Rattle.empties.specs.Empties.{empty_against, is_label, unmet, Parts, parts_of, emptied, sides, empty_parts}
use Rattle.empties.specs.Meaning.{Becomes}
use Rattle.empties.proofs.Unmet.{unmet_every, unmet_distinct}
use Rattle.empties.proofs.Form.{Formed, left, right, form_of, formed-variables, formed-sides}

-- "" MADE

module _ (s s₁ : Store) (e : ℕ) (au : Audited s) (c : make_constant [] s ≡ ok s₁ e) where
  pub made_in : ConstantMade [] s s₁ e
  unfolding all
  made_in = constant-kept [] s s₁ e au refl c

  pub made-empty : constant_of [] s₁ e ≡ true
  unfolding constant_of
  made-empty = both_true _ _ (eq-eqb (kind s₁ e) 1 made_in.made.kind_is) (word_same (text s₁ e) [] made_in.text_is)

-- WHAT IS LISTED

-- the unmet ones of the parts p, once "" is made; for lists of another form none
data Listed (s s' : Store) (A B : List ℕ) (x : Parts) : Type 0 where
  some : (p : List ℕ) → Formed s A B p → make_constant [] s ≡ ok s' x.empty → x.listed ≡ unmet s' (x.empty ∷ []) p → Listed s s' A B x
  none : (empty_against s A B || empty_against s B A) ≡ false → x.listed ≡ [] → Listed s s' A B x

module _ {s s' : Store} {A B : List ℕ} {x : Parts} where
  emptied-listed : (p : List ℕ) → Formed s A B p → emptied p s ≡ ok s' x → Listed s s' A B x
  unfolding emptied
  emptied-listed p f e =
      via (λ y s₂. ok s₂ (parts_of y (unmet s₂ (y ∷ []) p))) (make_constant [] s) e (λ s₁ y c d.
      let i : s₁ ≡ s' = cc in
      let j : parts_of y (unmet s₁ (y ∷ []) p) ≡ x = cc in
      let k : y ≡ x.empty = ap (λ (z : Parts). z.empty) j in
      let m : make_constant [] s ≡ ok s' x.empty = cc in
      some p f m (ap (λ (z : Parts). z.listed) (sym j) ∙ ap (λ (z : Store). unmet z (y ∷ []) p) i ∙ ap (λ (z : ℕ). unmet s' (z ∷ []) p) k))

  sides-listed : sides A B s ≡ ok s' x → Listed s s' A B x
  unfolding sides
  sides-listed e =
      decide (empty_against s A B || empty_against s B A)
      (λ b. let f = form_of s A B b in emptied-listed f.parts f.formed (sym (formed-sides f.formed) ∙ e))
      (λ b. other (neither_left _ (empty_against s B A) b) (neither_right (empty_against s A B) _ b) b)
    where
      other : empty_against s A B ≡ false → empty_against s B A ≡ false → (empty_against s A B || empty_against s B A) ≡ false → Listed s s' A B x
      other f g b =
          let d : sides A B s ≡ ok s (parts_of 0 []) = rw (f, g) in
          let j : parts_of 0 [] ≡ x = cc in
          none b (ap (λ (z : Parts). z.listed) (sym j))

parts-listed : (l r : List ℕ) (s s' : Store) (x : Parts) → empty_parts l r s ≡ ok s' x → Listed s s' (concat_map (atoms s) l) (concat_map (atoms s) r) x
unfolding empty_parts
parts-listed l r s s' x e =
    via (λ l₁. flatten r >>= (λ r₁. sides l₁ r₁)) (flatten l s) e (λ s₁ l₁ c d.
    via (λ r₁. sides l₁ r₁) (flatten r s₁) d (λ s₂ r₁ c₂ d₂.
    let f = flatten-flat l s s₁ l₁ c in
    let g = flatten-flat r s₁ s₂ r₁ c₂ in
    let i : s₁ ≡ s = f.same_store in
    let j : s₂ ≡ s = g.same_store ∙ i in
    let k : r₁ ≡ concat_map (atoms s) r = g.is ∙ ap (λ (z : Store). concat_map (atoms z) r) i in
    sides-listed (ap (λ (z : List ℕ). sides z (concat_map (atoms s) r) s) (sym f.is) ∙ ap (λ (z : List ℕ). sides l₁ z s) (sym k) ∙ ap (sides l₁ r₁) (sym j) ∙ d₂)))

-- NO TWO OF ONE CLASS

pub listed-apart : (l r : List ℕ) (s s' : Store) (x : Parts) → empty_parts l r s ≡ ok s' x → (i j : ℕ) → i < j → j < length x.listed
    → same_class s' (get_or x.listed i 0) (get_or x.listed j 0) ≡ false
listed-apart l r s s' x e i j h n = by (parts-listed l r s s' x e)
  where
    by : Listed s s' (concat_map (atoms s) l) (concat_map (atoms s) r) x → same_class s' (get_or x.listed i 0) (get_or x.listed j 0) ≡ false
    by (some p f c q) = rw q (unmet_distinct s' (x.empty ∷ []) p i j h (subst (λ (w : List ℕ). j < length w) q n))
    by (none b q) = let k = ap length q in absurd (omega arith)

-- WHAT IT IS WORTH

-- the parts have the empty word where the sides have equal words
formed-empty : {s : Store} {A B p : List ℕ} (w : Words) → Formed s A B p → concat_map w A ≡ concat_map w B → concat_map w p ≡ []
unfolding concat_map
formed-empty w (left a b q h) e = sym e
formed-empty w (right a b q h) e = e

module _ (l r : List ℕ) (s s' : Store) (x : Parts) (au : Audited s) where
  abbrev A₁ : List ℕ
  A₁ = concat_map (atoms s) l

  abbrev B₁ : List ℕ
  B₁ = concat_map (atoms s) r

  module _ (p : List ℕ) (f : Formed s A₁ B₁ p) (c : make_constant [] s ≡ ok s' x.empty) where
    parts-word : (w : Words) → Reading s' w → concat_map w l ≡ concat_map w r → Every (λ v. w v ≡ w x.empty) p
    parts-word w rd e =
        let m = made_in s s' x.empty au c in
        let d = m.made.grown.down w rd in
        every_map (λ v i. i ∙ sym (constant-word m rd)) (empty_each w p (formed-empty w f (sym (atoms-words s w d l) ∙ e ∙ atoms-words s w d r)))

  pub listed-worth : empty_parts l r s ≡ ok s' x → Becomes s s' l r x
  unfolding is_label all
  listed-worth e = by (parts-listed l r s s' x e)
    where
      by : Listed s s' A₁ B₁ x → Becomes s s' l r x
      by (some p f c q) = record {
        variables = rw q (every_all (unmet_every s' (x.empty ∷ []) p (all_every (is_variable s) p (formed-variables f))));
        equal = λ w rd z. rw q (unmet_every s' (x.empty ∷ []) p (parts-word p f c w rd z));
        empty = λ h. made-empty s s' x.empty au c;
      }
      by (none b q) = record { variables = rw q; equal = λ w rd z. rw q none_left; empty = λ h. clash h b }
