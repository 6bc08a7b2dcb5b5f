-- nf_equal and nf_explain: lists called equal have equal words under the reasons added.
use Rattle.std.specs.Prelude.{if◌then◌else◌}
use mathlib.Core.Path.{◌≡◌, refl, sym, ap, ◌∙◌}
use mathlib.Core.Bool.{Bool, true, false, not, ◌&&◌, ◌||◌}
use mathlib.Core.List.{List, [], ◌∷◌, ◌++◌}
use Prim.Native.Nat.{ℕ, suc, ◌<◌}
use lib.ListN.{length, take}
use native.Mathlib.Omega.{arith}
use lib.Dec.{eqb}
use borrow.Author.Tests.{not-false, eq-eqb, ne_eqb}
use Rattle.records.specs.Lists.{all, concat_map, same_word, and}
use Rattle.records.specs.Store.{Store, Out, ok, stop, and_then, give, is_constant, is_string, text, same_class}
use Rattle.records.specs.Make.{with_reasons}
use Rattle.records.specs.Meaning.{Words}
use Rattle.records.specs.Working.Audited.{Audited}
use Rattle.records.proofs.Lists.{both_left, both_right, both_true, decide, clash, all_every}
use Rattle.engine.specs.Explain.{explain}
use Rattle.records.proofs.LaterStores.{Added}
use Rattle.records.proofs.Outcomes.{ends-give, ends-map, ends_if, ends-then}
use Rattle.records.proofs.Grown.{Strings, strings-later}
use Rattle.sides.specs.Wordeq.{same, same_heads, explain_match, explain_matches, nf_equal, explain_pair, nf_explain}
use Rattle.sides.specs.Meaning.{ExplainsEqual}
use Rattle.sides.proofs.StepOutcomes.{Ends}
use Rattle.sides.proofs.Cited.{Cited, cited-none, cited-map, cited-then, explain-ends, Full, full-ok, full_if, full-then, explain-full}
use Rattle.sides.proofs.Strip.{plainly, same_word_lem, same_class_lem, same-added, match_ends}

-- a pair that needs no reason, or is not of one class
abbrev skips : Store → ℕ → ℕ → Bool
skips s a b = eqb a b || (is_constant s a && is_constant s b && same_word (text s a) (text s b)) || not (same_class s a b)

-- no number and no constants alike, and no class: then not the same
skipped : (s : Store) (a b : ℕ) → plainly s a b ≡ false → skips s a b ≡ true → same_class s a b ≡ false
skipped s a b p e = go (eqb a b) (is_constant s a && is_constant s b) (same_class s a b) p e
  where
    go : (x y z : Bool) → x || y ≡ false → x || (y && same_word (text s a) (text s b)) || not z ≡ true → z ≡ false
    go true y z p e = clash refl p
    go false true z p e = clash refl p
    go false false true p e = sym e
    go false false false p e = refl

of-class : (s : Store) (a b : ℕ) → skips s a b ≡ false → same_class s a b ≡ true
of-class s a b e = go (eqb a b || (is_constant s a && is_constant s b && same_word (text s a) (text s b))) e
  where
    go : (x : Bool) → x || not (same_class s a b) ≡ false → same_class s a b ≡ true
    go true e = clash refl e
    go false e = not-false _ e

pub pair_ends : (a b : ℕ) (s : Store) → Audited s → is_string s a ≡ true → is_string s b ≡ true → Ends (λ s' u. Cited (λ w. same s a b ≡ true → w a ≡ w b) s s') (explain_pair a b s)
unfolding explain_pair
pair_ends a b s d p q =
    ends_if (skips s a b) _ _
    (λ e. ends-give (cited-none s d (λ w rd h. decide (plainly s a b) (λ f. same_word_lem s a b h f w rd) (λ f. clash (same_class_lem s a b h f) (skipped s a b f e)))))
    (λ e. ends-map (λ s' u m. cited-map (λ w k h. k) m) (explain-ends a b s d p q (of-class s a b e)))

-- a pair that is the same is explained as a match of step 1
pair_match : (a b : ℕ) (s : Store) → same s a b ≡ true → explain_pair a b s ≡ explain_match a b s
unfolding same explain_pair explain_match
pair_match a b s h = go (eqb a b) (is_constant s a && is_constant s b) (same_word (text s a) (text s b)) (same_class s a b) h
  where
    go : (x y z w : Bool) → x || (if y then z else w) ≡ true → (if x || (y && z) || not w then give tt else explain a b) s ≡ (if x || y then give tt else explain a b) s
    go true y z w e = refl
    go false true true w e = refl
    go false true false w e = clash e refl
    go false false z true e = refl
    go false false z false e = clash e refl

-- and so are all pairs of lists that are the same in s₀, in a store s in which the same is what it is there
abbrev Matching : Store → List ℕ → List ℕ → Type 0
Matching s₀ l r = (s : Store) → ((a b : ℕ) → same s a b ≡ same s₀ a b) → Audited s → Strings s l → Strings s r → explain_matches (same_heads s₀ l r) s ≡ nf_explain l r s

pub pairs_match : (s₀ : Store) (l r : List ℕ) → nf_equal s₀ l r ≡ true → Matching s₀ l r
unfolding nf_equal nf_explain explain_matches same_heads
pairs_match s₀ [] [] h s f d hl hr = refl
pairs_match s₀ [] (b ∷ r) h s f d hl hr = clash h refl
pairs_match s₀ (a ∷ l) [] h s f d hl hr = clash h refl
pairs_match s₀ (a ∷ l) (b ∷ r) h s f d (and p hl) (and q hr) =
    ap (λ (x : Bool). explain_matches (elim x [ true ↦ (a, b) ∷ same_heads s₀ l r | false ↦ [] ]) s) (both_left (same s₀ a b) _ h)
    ∙ each (pairs_match s₀ l r (both_right (same s₀ a b) _ h)) (explain_match a b s) refl ∙ ap (and_then (λ (u : Unit {0}). nf_explain l r)) (sym (pair_match a b s alike))
  where
    alike : same s a b ≡ true
    alike = f a b ∙ both_left (same s₀ a b) _ h

    each : Matching s₀ l r → (o : Out (Unit {0})) → explain_match a b s ≡ o → and_then (λ (u : Unit {0}). explain_matches (same_heads s₀ l r)) o ≡ and_then (λ (u : Unit {0}). nf_explain l r) o
    each ih (ok s₁ u) i =
        let c = (match_ends a b s d p q alike).given s₁ u i in
        ih s₁ (λ x y. same-added c.added x y ∙ f x y) c.audited (strings-later c.grown hl) (strings-later c.grown hr)
    each ih (stop n) i = refl

-- LISTS THAT ARE THE SAME THROUGHOUT

module _ (s : Store) where
  pub equal-lengths : (l r : List ℕ) → nf_equal s l r ≡ true → length l ≡ length r
  unfolding nf_equal
  equal-lengths [] [] h = refl
  equal-lengths [] (b ∷ r) h = clash h refl
  equal-lengths (a ∷ l) [] h = clash h refl
  equal-lengths (a ∷ l) (b ∷ r) h = ap suc (equal-lengths l r (both_right (same s a b) _ h))

  pub equal-heads : (l r : List ℕ) → nf_equal s l r ≡ true → length (same_heads s l r) ≡ length l
  unfolding nf_equal same_heads
  equal-heads [] r h = refl
  equal-heads (a ∷ l) [] h = clash h refl
  equal-heads (a ∷ l) (b ∷ r) h =
      ap (λ (x : Bool). length {A = ℕ × ℕ} (elim x [ true ↦ (a, b) ∷ same_heads s l r | false ↦ [] ])) (both_left (same s a b) _ h)
      ∙ ap suc (equal-heads l r (both_right (same s a b) _ h))

  heads-fewer : (l r : List ℕ) → length l ≡ length r → nf_equal s l r ≡ false → length (same_heads s l r) < length l
  unfolding nf_equal same_heads
  heads-fewer [] [] e h = clash refl h
  heads-fewer [] (b ∷ r) e h = absurd (omega arith)
  heads-fewer (a ∷ l) [] e h = absurd (omega arith)
  heads-fewer (a ∷ l) (b ∷ r) e h = go (same s a b) h (heads-fewer l r (omega arith))
    where
      go : (x : Bool) → (x && nf_equal s l r) ≡ false → (nf_equal s l r ≡ false → length (same_heads s l r) < length l) → length {A = ℕ × ℕ} (elim x [ true ↦ (a, b) ∷ same_heads s l r | false ↦ [] ]) < length (a ∷ l)
      go true h ih = let k = ih h in omega arith
      go false h ih = omega arith

  -- lists of one length, by their same heads counted
  pub heads-all : (l r : List ℕ) → length l ≡ length r → eqb (length (same_heads s l r)) (length l) ≡ nf_equal s l r
  heads-all l r e =
      decide (nf_equal s l r) (λ h. eq-eqb _ _ (equal-heads l r h) ∙ sym h)
      (λ h. ne_eqb (length (same_heads s l r)) (length l) (fewer (heads-fewer l r e h)) ∙ sym h)
    where
      fewer : {m n : ℕ} → m < n → m ≡ n → ⊥
      fewer p q = absurd (omega arith)

  -- the same heads alone
  pub heads-alone : (l r : List ℕ) → same_heads s (take (length (same_heads s l r)) l) (take (length (same_heads s l r)) r) ≡ same_heads s l r
  unfolding same_heads
  heads-alone [] r = refl
  heads-alone (a ∷ l) [] = refl
  heads-alone (a ∷ l) (b ∷ r) = go (same s a b) refl (heads-alone l r)
    where
      go : (x : Bool) → same s a b ≡ x → same_heads s (take (length (same_heads s l r)) l) (take (length (same_heads s l r)) r) ≡ same_heads s l r
          → same_heads s (take (length {A = ℕ × ℕ} (elim x [ true ↦ (a, b) ∷ same_heads s l r | false ↦ [] ])) (a ∷ l)) (take (length {A = ℕ × ℕ} (elim x [ true ↦ (a, b) ∷ same_heads s l r | false ↦ [] ])) (b ∷ r))
          ≡ elim x [ true ↦ (a, b) ∷ same_heads s l r | false ↦ [] ]
      go true e ih = ap (λ (x : Bool). elim x [ true ↦ (a, b) ∷ same_heads s (take (length (same_heads s l r)) l) (take (length (same_heads s l r)) r) | false ↦ [] ]) e ∙ ap (λ (m : List (ℕ × ℕ)). (a, b) ∷ m) ih
      go false e ih = refl

  pub alone-equal : (l r : List ℕ) → nf_equal s (take (length (same_heads s l r)) l) (take (length (same_heads s l r)) r) ≡ true
  unfolding same_heads nf_equal
  alone-equal [] r = refl
  alone-equal (a ∷ l) [] = refl
  alone-equal (a ∷ l) (b ∷ r) = go (same s a b) refl (alone-equal l r)
    where
      go : (x : Bool) → same s a b ≡ x → nf_equal s (take (length (same_heads s l r)) l) (take (length (same_heads s l r)) r) ≡ true
          → nf_equal s (take (length {A = ℕ × ℕ} (elim x [ true ↦ (a, b) ∷ same_heads s l r | false ↦ [] ])) (a ∷ l)) (take (length {A = ℕ × ℕ} (elim x [ true ↦ (a, b) ∷ same_heads s l r | false ↦ [] ])) (b ∷ r)) ≡ true
      go true e ih = both_true _ _ e ih
      go false e ih = refl

-- more reasons, the same test
equal-beside : (s : Store) (rs : List (ℕ × ℕ)) (l r : List ℕ) → nf_equal (with_reasons s rs) l r ≡ nf_equal s l r
unfolding nf_equal same
equal-beside s rs [] [] = refl
equal-beside s rs [] (b ∷ r) = refl
equal-beside s rs (a ∷ l) [] = refl
equal-beside s rs (a ∷ l) (b ∷ r) = ap (λ (x : Bool). same s a b && x) (equal-beside s rs l r)

equal-added : {s s₁ : Store} (l r : List ℕ) → Added s s₁ → nf_equal s₁ l r ≡ nf_equal s l r
equal-added {s} l r a = ap (λ (x : Store). nf_equal x l r) a.is ∙ equal-beside s (s.reasons ++ a.more) l r

pub explain-equal-ends : (l r : List ℕ) (s : Store) → Audited s → Strings s l → Strings s r → Ends (λ s' u. Cited (λ w. nf_equal s l r ≡ true → concat_map w l ≡ concat_map w r) s s') (nf_explain l r s)
unfolding nf_explain nf_equal concat_map
explain-equal-ends [] [] s d hl hr = ends-give (cited-none s d (λ w rd e. refl))
explain-equal-ends [] (b ∷ r) s d hl hr = ends-give (cited-none s d (λ w rd e. clash e refl))
explain-equal-ends (a ∷ l) [] s d hl hr = ends-give (cited-none s d (λ w rd e. clash e refl))
explain-equal-ends (a ∷ l) (b ∷ r) s d (and p hl) (and q hr) =
    ends-then _ _ (pair_ends a b s d p q) (λ s₁ u m.
    ends-map (λ s' v k. cited-then (λ w f h e. both w (f (both_left (same s a b) _ e)) (h (equal-added l r m.added ∙ both_right (same s a b) _ e))) m k)
    (explain-equal-ends l r s₁ m.audited (strings-later m.grown hl) (strings-later m.grown hr)))
  where
    both : (w : Words) → w a ≡ w b → concat_map w l ≡ concat_map w r → w a ++ concat_map w l ≡ w b ++ concat_map w r
    both w e f = cc

pair-full : (a b : ℕ) (s : Store) → Audited s → is_string s a ≡ true → is_string s b ≡ true → Full (explain_pair a b s)
unfolding explain_pair
pair-full a b s d p q = full_if (skips s a b) _ _ (λ f. full-ok) (λ f. explain-full a b s d p q (of-class s a b f))

explain-equal-full : (l r : List ℕ) (s : Store) → Audited s → Strings s l → Strings s r → Full (nf_explain l r s)
unfolding nf_explain
explain-equal-full [] r s d hl hr = full-ok
explain-equal-full (a ∷ l) [] s d hl hr = full-ok
explain-equal-full (a ∷ l) (b ∷ r) s d (and p hl) (and q hr) =
    full-then _ _ (pair-full a b s d p q) (λ s₁ u e.
    let m = (pair_ends a b s d p q).given s₁ u e in
    explain-equal-full l r s₁ m.audited (strings-later m.grown hl) (strings-later m.grown hr))

module _ (l r : List ℕ) (s : Store) (audited : Audited s) (left : all (is_string s) l ≡ true) (right : all (is_string s) r ≡ true) where
  ends : Ends (λ s' u. Cited (λ w. nf_equal s l r ≡ true → concat_map w l ≡ concat_map w r) s s') (nf_explain l r s)
  ends = explain-equal-ends l r s audited (all_every _ l left) (all_every _ r right)

  pub explain-equal-gives : (s' : Store) (u : Unit {0}) → nf_explain l r s ≡ ok s' u → Cited (λ w. nf_equal s l r ≡ true → concat_map w l ≡ concat_map w r) s s'
  explain-equal-gives s' u e = ends.given s' u e

  pub explain-equal-sound : (s' : Store) (u : Unit {0}) → nf_explain l r s ≡ ok s' u → ExplainsEqual s s' l r
  explain-equal-sound s' u e f w rd h = (explain-equal-gives s' u e).holds w rd h f

  pub explain-equal-kept : (s' : Store) (u : Unit {0}) → nf_explain l r s ≡ ok s' u → Audited s'
  explain-equal-kept s' u e = (explain-equal-gives s' u e).audited

  -- it stops only with 7
  pub explain-equal-stops : (n : ℕ) → nf_explain l r s ≡ stop n → n ≡ 7
  explain-equal-stops n e = (explain-equal-full l r s audited (all_every _ l left) (all_every _ r right)).seven n e
