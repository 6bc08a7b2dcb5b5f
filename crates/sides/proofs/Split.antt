-- Step 7: both splits, what their atoms are worth for the words of the store.
use Rattle.std.specs.Prelude.{if◌then◌else◌}
use mathlib.Core.Path.{◌≡◌, refl, sym, ap, subst, ◌∙◌}
use mathlib.Core.Bool.{Bool, true, false, ◌&&◌, ◌||◌}
use mathlib.Core.List.{List, [], ◌∷◌, ◌++◌, append-nil, Memᴰ}
use mathlib.Core.Logic.{⊎_elim}
use Prim.Native.Nat.{ℕ, ◌-◌, ◌≤◌}
use native.Mathlib.Omega.{arith}
use native.Mathlib.Decide.{dec_le, ℕ_discrete}
use lib.ListN.{length, drop}
use lib.IntN.{ℤ, neg_ℤ}
use borrow.Author.Tests.{eqb-true}
use Rattle.records.specs.Lists.{all, concat_map, none_left, and}
use Rattle.records.specs.Store.{Store, Term, count, term, kind, within, is_constant, is_string, text}
use Rattle.records.specs.Rules.{is_char, is_equatable}
use Rattle.records.specs.Make.{add_key, is_key, make_concat, make_length, make_equation}
use Rattle.records.specs.Meaning.{Words, Reading, True}
use Rattle.records.specs.Working.Audited.{Audited}
use Rattle.records.proofs.Lists.{both_left, both_right, both_true, every_all, all_drop}
use Rattle.records.proofs.Readings.{text-characters}
use Rattle.records.proofs.Grown.{Grown, grown-then, grown-kind, grown-string, present, string-here}
use Rattle.records.proofs.Kept.{made-string, ConcatMade, concat-kept, concat-stops, LengthMade, length-kept, length-stops, EquationMade, equation-kept, equation-stops, KeyAdded, key_kept, key_stops, Fresh, fresh_kept, fresh-stops}
use Rattle.records.proofs.MadeWords.{constant-word, concat-word, equation-true, lengths-true, grown-true}
use Rattle.records.proofs.Outcomes.{ends-give, ends-map, ends_by, ends_if, ends-then}
use Rattle.sides.specs.Wordeq.{split, Tried, fresh_variable, split_character, split_heads, split_by, splits}
use Rattle.sides.specs.Meaning.{Chosen, Sound}
use Rattle.sides.specs.Working.Counting.{split_from}
use Rattle.sides.proofs.Words.{longer-is, first_is}
use Rattle.sides.proofs.StepOutcomes.{Ends}
use Rattle.sides.proofs.Good.{Good, answers, good-after, good_flip, Step, step-pass}
use Rattle.records.proofs.LaterStores.{Later, later-none, later_then, later_made, later_key}
use Rattle.sides.proofs.Strip.{Apart}
use Rattle.sides.proofs.Constants.{constant-ends}
use Rattle.sides.proofs.Counted.{equatable_strings, equatable_lengths, character-counted, heads-counted}

-- MAKING

length-ends : (a : ℕ) (s : Store) → Audited s → is_string s a ≡ true → Ends (LengthMade a s) (make_length a s)
length-ends a s d p = ends_by 8 (omega arith) (omega arith) (λ s' t e. length-kept a s s' t d p e) (length-stops a s)

equation-ends : (a b : ℕ) (s : Store) → Audited s → is_equatable s a b ≡ true → Ends (EquationMade a b s) (make_equation a b s)
equation-ends a b s d p = ends_by 8 (omega arith) (omega arith) (λ s' t e. equation-kept a b s s' t d p e) (equation-stops a b s)

pair_ends : (a b : ℕ) (s : Store) → Audited s → is_string s a ≡ true → is_string s b ≡ true → Ends (ConcatMade (a ∷ b ∷ []) s) (make_concat (a ∷ b ∷ []) s)
pair_ends a b s d p q =
    ends_by 8 (omega arith) (omega arith) (λ s' t e. concat-kept (a ∷ b ∷ []) s s' t d (omega arith) (every_all (and p (and q none_left))) e) (concat-stops (a ∷ b ∷ []) s)

fresh-ends : (s : Store) → Audited s → Ends (Fresh s) (fresh_variable s)
unfolding fresh_variable
fresh-ends s d = record {
  given = λ s' z e. fresh_kept s s' z d e;
  stopped = λ n e.
      ⊎_elim (λ h. record { from = omega arith; to = omega arith }) (λ h. record { from = omega arith; to = omega arith }) (fresh-stops s n e);
}

-- a concatenation of two made has their words in each later store
pair-word : {a b : ℕ} {s s₁ s₂ : Store} {t : ℕ} (w : Words) → ConcatMade (a ∷ b ∷ []) s s₁ t → Grown s₁ s₂ → Reading s₂ w → w t ≡ w a ++ w b
unfolding concat_map
pair-word {a} {b} w m g rd = concat-word m (g.down w rd) ∙ ap (λ (x : List ℕ). w a ++ x) (append-nil (w b))

-- CHOOSING

-- words for the store at the end, with chosen words for the new variables
record Two (s s₉ : Store) (w : Words) (z₁ z₂ : ℕ) (u₁ u₂ : List ℕ) : Type 0 where
  words : Words
  reading : Reading s₉ words
  agree : (t : ℕ) → t ≤ count s → words t ≡ w t
  one : words z₁ ≡ u₁
  two : words z₂ ≡ u₂

choose-two : (s s₃ s₄ s₆ s₇ s₉ : Store) (z₁ z₂ : ℕ) → Grown s s₃ → Fresh s₃ s₄ z₁ → Grown s₄ s₆ → Fresh s₆ s₇ z₂ → Grown s₇ s₉
    → (w : Words) → Reading s w → (u₁ u₂ : List ℕ) → all is_char u₁ ≡ true → all is_char u₂ ≡ true → Two s s₉ w z₁ z₂ u₁ u₂
choose-two s s₃ s₄ s₆ s₇ s₉ z₁ z₂ g₃ f₄ g₆ f₇ g₉ w rd u₁ u₂ h₁ h₂ =
    let x₃ = g₃.extend w rd in
    let x₄ = f₄.choose x₃.words x₃.reading u₁ h₁ in
    let x₆ = g₆.extend x₄.extends.words x₄.extends.reading in
    let x₇ = f₇.choose x₆.words x₆.reading u₂ h₂ in
    let x₉ = g₉.extend x₇.extends.words x₇.extends.reading in
    let k₃ = g₃.more in
    let k₄ = f₄.made.grown.more in
    let k₆ = g₆.more in
    let k₇ = f₇.made.grown.more in
    let i₁ = present s₄ z₁ 1 f₄.made.kind_is in
    let i₂ = present s₇ z₂ 1 f₇.made.kind_is in
    record {
      words = x₉.words;
      reading = x₉.reading;
      agree = λ t h. x₉.agree t (omega arith) ∙ x₇.extends.agree t (omega arith) ∙ x₆.agree t (omega arith) ∙ x₄.extends.agree t (omega arith) ∙ x₃.agree t h;
      one = x₉.agree z₁ (omega arith) ∙ x₇.extends.agree z₁ (omega arith) ∙ x₆.agree z₁ i₁ ∙ x₄.word;
      two = x₉.agree z₂ i₂ ∙ x₇.word;
    }

record One (s s₉ : Store) (w : Words) (z : ℕ) (u : List ℕ) : Type 0 where
  words : Words
  reading : Reading s₉ words
  agree : (t : ℕ) → t ≤ count s → words t ≡ w t
  is : words z ≡ u

choose_one : (s s₃ s₄ s₆ : Store) (z : ℕ) → Grown s s₃ → Fresh s₃ s₄ z → Grown s₄ s₆ → (w : Words) → Reading s w → (u : List ℕ) → all is_char u ≡ true → One s s₆ w z u
choose_one s s₃ s₄ s₆ z g₃ f₄ g₆ w rd u h =
    let x₃ = g₃.extend w rd in
    let x₄ = f₄.choose x₃.words x₃.reading u h in
    let x₆ = g₆.extend x₄.extends.words x₄.extends.reading in
    let k₃ = g₃.more in
    let k₄ = f₄.made.grown.more in
    let i = present s₄ z 1 f₄.made.kind_is in
    record {
      words = x₆.words;
      reading = x₆.reading;
      agree = λ t y. x₆.agree t (omega arith) ∙ x₄.extends.agree t (omega arith) ∙ x₃.agree t y;
      is = x₆.agree z i ∙ x₄.word;
    }

-- a variable of the store at entry
variables-agree : (s : Store) {w w₉ : Words} → ((t : ℕ) → t ≤ count s → w₉ t ≡ w t) → (t : ℕ) → kind s t ≡ 2 → w₉ t ≡ w t
variables-agree s f t k = f t (present s t 1 k)

-- WAYS

-- a word is as long as another, or longer, or shorter
three_ways : (a b : ℕ) (l r : List ℕ) (e₁ e₂ e₃ z₁ z₂ : ℕ) (g : ℤ) (n : ℕ) (s s₉ : Store) → a ≤ count s → b ≤ count s
    → ((w : Words) → Reading s w → (u₁ u₂ : List ℕ) → all is_char u₁ ≡ true → all is_char u₂ ≡ true → Two s s₉ w z₁ z₂ u₁ u₂)
    → ((w : Words) → Reading s₉ w → length (w a) ≡ length (w b) → True s₉ w e₁)
    → ((w : Words) → Reading s₉ w → w a ≡ w b ++ w z₁ → True s₉ w e₂)
    → ((w : Words) → Reading s₉ w → w b ≡ w a ++ w z₂ → True s₉ w e₃)
    → Sound s s₉ (a ∷ l) (b ∷ r) (split (e₁ ∷ e₂ ∷ e₃ ∷ []) g n)
unfolding concat_map all
three_ways a b l r e₁ e₂ e₃ z₁ z₂ g n s s₉ ha hb pick is-long is-first is-second w rd h e =
    go (ℕ_discrete (length (w a)) (length (w b))) (dec_le (length (w b)) (length (w a)))
  where
    chosen : {u₁ u₂ : List ℕ} (t : Two s s₉ w z₁ z₂ u₁ u₂) (x : ℕ) → Memᴰ x (e₁ ∷ e₂ ∷ e₃ ∷ []) → True s₉ t.words x → Chosen s s₉ w (e₁ ∷ e₂ ∷ e₃ ∷ [])
    chosen t x m k = record { words = t.words; reading = t.reading; agree = variables-agree s t.agree; atom = x; listed = m; holds = k }

    go : Dec (length (w a) ≡ length (w b)) → Dec (length (w b) ≤ length (w a)) → Chosen s s₉ w (e₁ ∷ e₂ ∷ e₃ ∷ [])
    go (yes p) d =
        let t = pick w rd [] [] refl refl in
        chosen t e₁ (Memᴰ.head refl) (is-long t.words t.reading (rw (t.agree a ha, t.agree b hb) p))
    go (no p) (yes d) =
        let t = pick w rd (drop (length (w b)) (w a)) [] (all_drop is_char (length (w b)) (w a) (rd.characters a)) refl in
        chosen t e₂ (Memᴰ.tail (Memᴰ.head refl)) (is-first t.words t.reading (rw (t.agree a ha, t.agree b hb, t.one) (longer-is (w a) (w b) (concat_map w l) (concat_map w r) e d)))
    go (no p) (no d) =
        let t = pick w rd [] (drop (length (w a)) (w b)) refl (all_drop is_char (length (w a)) (w b) (rd.characters b)) in
        chosen t e₃ (Memᴰ.tail (Memᴰ.tail (Memᴰ.head refl)))
        (is-second t.words t.reading (rw (t.agree a ha, t.agree b hb, t.two) (longer-is (w b) (w a) (concat_map w r) (concat_map w l) (sym e) (omega arith))))

-- a word is empty, or begins with the character
two_ways : (v b c : ℕ) (cs l r : List ℕ) (e₁ e₂ z : ℕ) (g : ℤ) (n : ℕ) (s s₉ : Store) → v ≤ count s → kind s b ≡ 1 → text s b ≡ c ∷ cs
    → ((w : Words) → Reading s w → (u : List ℕ) → all is_char u ≡ true → One s s₉ w z u)
    → ((w : Words) → Reading s₉ w → w v ≡ [] → True s₉ w e₁)
    → ((w : Words) → Reading s₉ w → w v ≡ (c ∷ []) ++ w z → True s₉ w e₂)
    → Sound s s₉ (v ∷ l) (b ∷ r) (split (e₁ ∷ e₂ ∷ []) g n)
unfolding concat_map all
two_ways v b c cs l r e₁ e₂ z g n s s₉ hv kb tb pick is-empty is-char w rd h e =
    go (w v) refl (e ∙ ap (λ (y : List ℕ). y ++ concat_map w r) (rd.constants b kb ∙ tb))
  where
    chosen : {u : List ℕ} (t : One s s₉ w z u) (x : ℕ) → Memᴰ x (e₁ ∷ e₂ ∷ []) → True s₉ t.words x → Chosen s s₉ w (e₁ ∷ e₂ ∷ [])
    chosen t x m k = record { words = t.words; reading = t.reading; agree = variables-agree s t.agree; atom = x; listed = m; holds = k }

    go : (y : List ℕ) → w v ≡ y → w v ++ concat_map w l ≡ (c ∷ cs) ++ concat_map w r → Chosen s s₉ w (e₁ ∷ e₂ ∷ [])
    go [] p k =
        let t = pick w rd [] refl in
        chosen t e₁ (Memᴰ.head refl) (is-empty t.words t.reading (t.agree v hv ∙ p))
    go (y ∷ ys) p k =
        let t = pick w rd ys (both_right (is_char y) _ (ap (all is_char) (sym p) ∙ rd.characters v)) in
        let o = first_is y c (ys ++ concat_map w l) (cs ++ concat_map w r) (ap (λ (x : List ℕ). x ++ concat_map w l) (sym p) ∙ k) in
        chosen t e₂ (Memᴰ.tail (Memᴰ.head refl))
        (is-char t.words t.reading (t.agree v hv ∙ p ∙ ap (λ (x : ℕ). x ∷ ys) o ∙ ap (λ (x : List ℕ). c ∷ x) (sym t.is)))

-- THE SPLITS

module _ {needed : Bool} (none-added : needed ≡ false) (g : ℤ) where
  split-ends : {a b : ℕ} {l r : List ℕ} (atoms : List ℕ) {s s₁ : Store} → Later s s₁ → s₁.reasons ≡ s.reasons → ((n : ℕ) → Sound s s₁ (a ∷ l) (b ∷ r) (split atoms (neg_ℤ g) n)) → Ends (Good needed (a ∷ l) (b ∷ r) s) (split_from g (count s) atoms s₁)
  unfolding split_from
  split-ends atoms {s} {s₁} k n h = let m = k.grown.more in ends-give (answers k (h (count s₁ - count s)) (record { unneeded = none-added; reasons = n; left = omega arith; right = omega arith; counts = omega arith }))

  pub heads-split : (a b : ℕ) (l r : List ℕ) (s : Store) → Audited s → is_string s a ≡ true → is_string s b ≡ true → Ends (Good needed (a ∷ l) (b ∷ r) s) (split_heads g a b s)
  unfolding within
  heads-split a b l r s d sa sb = subst (Ends (Good needed (a ∷ l) (b ∷ r) s)) (sym (heads-counted g s d a b sa sb)) (
      ends-then _ _ (length-ends a s d sa) λ s₁ la m₁.
      let k₁ = later_made m₁.made in
      ends-then _ _ (length-ends b s₁ k₁.audited (grown-string k₁.grown b sb)) λ s₂ lb m₂.
      let k₂ = later_then k₁ (later_made m₂.made) in
      let la-kind = grown-kind m₂.made.grown la 3 m₁.made.kind_is in
      ends-then _ _ (equation-ends la lb s₂ k₂.audited (equatable_lengths s₂ la lb la-kind m₂.made.kind_is)) λ s₃ p m₃.
      let k₃ = later_then k₂ (later_made m₃.made) in
      ends-then _ _ (fresh-ends s₃ k₃.audited) λ s₄ z₁ m₄.
      let k₄ = later_then k₃ (later_made m₄.made) in
      ends-then _ _ (pair_ends b z₁ s₄ k₄.audited (grown-string k₄.grown b sb) (made-string m₄.made refl)) λ s₅ t₁ m₅.
      let k₅ = later_then k₄ (later_made m₅.made) in
      ends-then _ _ (equation-ends a t₁ s₅ k₅.audited (equatable_strings s₅ a t₁ (grown-string k₅.grown a sa) (made-string m₅.made refl))) λ s₆ q₁ m₆.
      let k₆ = later_then k₅ (later_made m₆.made) in
      ends-then _ _ (fresh-ends s₆ k₆.audited) λ s₇ z₂ m₇.
      let k₇ = later_then k₆ (later_made m₇.made) in
      ends-then _ _ (pair_ends a z₂ s₇ k₇.audited (grown-string k₇.grown a sa) (made-string m₇.made refl)) λ s₈ t₂ m₈.
      let k₈ = later_then k₇ (later_made m₈.made) in
      ends-then _ _ (equation-ends b t₂ s₈ k₈.audited (equatable_strings s₈ b t₂ (grown-string k₈.grown b sb) (made-string m₈.made refl))) λ s₉ q₂ m₉.
      let k₉ = later_then k₈ (later_made m₉.made) in
      let g₇₉ = grown-then m₈.made.grown m₉.made.grown in
      let g₆₉ = grown-then m₇.made.grown g₇₉ in
      let g₅₉ = grown-then m₆.made.grown g₆₉ in
      let g₃₉ = grown-then m₄.made.grown (grown-then m₅.made.grown g₅₉) in
      let still = m₉.made.reasons ∙ m₈.made.reasons ∙ m₇.made.reasons ∙ m₆.made.reasons ∙ m₅.made.reasons ∙ m₄.made.reasons ∙ m₃.made.reasons ∙ m₂.made.reasons ∙ m₁.made.reasons in
      let la-first : (term s₂ la).first ≡ a = ap (λ (x : Term). x.first) (m₂.made.grown.old la (present s₁ la 3 m₁.made.kind_is)) ∙ m₁.first_is in
      split-ends (p ∷ q₁ ∷ q₂ ∷ []) k₉ still
      (λ n. three_ways a b l r p q₁ q₂ z₁ z₂ (neg_ℤ g) n s s₉ (string-here s a sa) (string-here s b sb)
      (choose-two s s₃ s₄ s₆ s₇ s₉ z₁ z₂ k₃.grown m₄ (grown-then m₅.made.grown m₆.made.grown) m₇ g₇₉)
      (λ w rd h. grown-true g₃₉ k₃.audited.recorded p (lengths-true la lb a b m₃ la-kind m₂.made.kind_is la-first m₂.first_is h))
      (λ w rd h. grown-true g₆₉ k₆.audited.recorded q₁ (equation-true a t₁ m₆ (grown-string k₅.grown a sa) (made-string m₅.made refl) (h ∙ sym (pair-word w m₅ g₅₉ rd))))
      (λ w rd h. equation-true b t₂ m₉ (grown-string k₈.grown b sb) (made-string m₈.made refl) (h ∙ sym (pair-word w m₈ m₉.made.grown rd)))))

  pub character-split : (v b c : ℕ) (cs l r : List ℕ) (s : Store) → Audited s → is_string s v ≡ true → kind s b ≡ 1 → text s b ≡ c ∷ cs → Ends (Good needed (v ∷ l) (b ∷ r) s) (split_character g v c s)
  unfolding all within
  character-split v b c cs l r s d sv kb tb =
      let good : is_char c ≡ true = both_left (is_char c) _ (ap (all is_char) (sym tb) ∙ text-characters s d.recorded b) in
      subst (Ends (Good needed (v ∷ l) (b ∷ r) s)) (sym (character-counted g s d v c sv good)) (
      ends-then _ _ (constant-ends [] s d refl) λ s₁ n m₁.
      let k₁ = later_made m₁.made in
      ends-then _ _ (equation-ends v n s₁ k₁.audited (equatable_strings s₁ v n (grown-string k₁.grown v sv) (made-string m₁.made refl))) λ s₂ p m₂.
      let k₂ = later_then k₁ (later_made m₂.made) in
      ends-then _ _ (constant-ends (c ∷ []) s₂ k₂.audited (both_true (is_char c) true good refl)) λ s₃ h m₃.
      let k₃ = later_then k₂ (later_made m₃.made) in
      ends-then _ _ (fresh-ends s₃ k₃.audited) λ s₄ z m₄.
      let k₄ = later_then k₃ (later_made m₄.made) in
      ends-then _ _ (pair_ends h z s₄ k₄.audited (grown-string m₄.made.grown h (made-string m₃.made refl)) (made-string m₄.made refl)) λ s₅ t m₅.
      let k₅ = later_then k₄ (later_made m₅.made) in
      ends-then _ _ (equation-ends v t s₅ k₅.audited (equatable_strings s₅ v t (grown-string k₅.grown v sv) (made-string m₅.made refl))) λ s₆ q m₆.
      let k₆ = later_then k₅ (later_made m₆.made) in
      let g₄₆ = grown-then m₅.made.grown m₆.made.grown in
      let g₃₆ = grown-then m₄.made.grown g₄₆ in
      let g₂₆ = grown-then m₃.made.grown g₃₆ in
      let g₁₆ = grown-then m₂.made.grown g₂₆ in
      let still = m₆.made.reasons ∙ m₅.made.reasons ∙ m₄.made.reasons ∙ m₃.made.reasons ∙ m₂.made.reasons ∙ m₁.made.reasons in
      split-ends (p ∷ q ∷ []) k₆ still
      (λ j. two_ways v b c cs l r p q z (neg_ℤ g) j s s₆ (string-here s v sv) kb tb
      (choose_one s s₃ s₄ s₆ z k₃.grown m₄ g₄₆)
      (λ w rd e. grown-true g₂₆ k₂.audited.recorded p (equation-true v n m₂ (grown-string k₁.grown v sv) (made-string m₁.made refl) (e ∙ sym (constant-word m₁ (g₁₆.down w rd)))))
      (λ w rd e. equation-true v t m₆ (grown-string k₅.grown v sv) (made-string m₅.made refl)
      (e ∙ ap (λ (y : List ℕ). y ++ w z) (sym (constant-word m₃ (g₃₆.down w rd))) ∙ sym (pair-word w m₅ m₆.made.grown rd)))))

  -- where one head has a first character
  split_by_lem : (v b : ℕ) (l r cs : List ℕ) (other : Tried) (s : Store) → Audited s → is_string s v ≡ true → kind s b ≡ 1 → text s b ≡ cs
      → Ends (Good needed (v ∷ l) (b ∷ r) s) (other s) → Ends (Good needed (v ∷ l) (b ∷ r) s) (split_by g v cs other s)
  split_by_lem v b l r [] other s d sv kb tb e = e
  split_by_lem v b l r (c ∷ cs) other s d sv kb tb e = character-split v b c cs l r s d sv kb tb

  -- behind the key
  keyed_split : (a b : ℕ) (l r : List ℕ) (s s₁ : Store) → Grown s s₁ → Audited s₁ → is_string s a ≡ true → is_string s b ≡ true
      → Ends (Good needed (a ∷ l) (b ∷ r) s₁) ((if is_constant s b then split_by g a (text s b) (split_heads g a b)
      else if is_constant s a then split_by g b (text s a) (split_heads g a b)
      else split_heads g a b) s₁)
  keyed_split a b l r s s₁ k d sa sb =
      let ta = grown-string k a sa in
      let tb = grown-string k b sb in
      let heads = heads-split a b l r s₁ d ta tb in
      ends_if (is_constant s b) _ _
      (λ c. split_by_lem a b l r (text s b) (split_heads g a b) s₁ d ta (grown-kind k b 0 (eqb-true _ _ c)) (k.constants b (eqb-true _ _ c)) heads)
      (λ c. ends_if (is_constant s a) _ _
      (λ e. ends-map (λ s' o h. good_flip h) (split_by_lem b a r l (text s a) (split_heads g a b) s₁ d tb (grown-kind k a 0 (eqb-true _ _ e)) (k.constants a (eqb-true _ _ e))
      (ends-map (λ s' o h. good_flip h) heads)))
      (λ e. heads))

key_ends : (a b : ℕ) (s : Store) → Audited s → is_string s a ≡ true → is_string s b ≡ true → (a ≡ b → ⊥) → Ends (λ s' u. KeyAdded a b s s') (add_key a b s)
key_ends a b s d p q n = ends_by 8 (omega arith) (omega arith) (λ s' u e. key_kept a b s s' d p q n e) (key_stops a b s)

pub splits-step : (g : ℤ) (needed : Bool) (l r : List ℕ) → Apart l r → Step needed l r (splits g needed l r)
unfolding splits
splits-step g needed [] r n s d hl hr = step-pass d
splits-step g needed (a ∷ l) [] n s d hl hr = step-pass d
splits-step g needed (a ∷ l) (b ∷ r) n s d (and sa hl) (and sb hr) =
    ends_if (is_constant s a && is_constant s b) _ _ (λ c. step-pass d) (λ c. ends_if (needed || is_key s a b) _ _
    (λ e. ends-give (answers (later-none d) tt tt))
    (λ e. ends-then _ _ (key_ends a b s d sa sb n) (λ s₁ u k.
    ends-map (λ s' o h. good-after (and sa hl) (and sb hr) (later_key k) (λ t i. ap (λ (x : Store). kind x t) (sym k.is) ∙ i) k.reasons (λ p q. ap (λ (x : Store). count x) k.is) h) (keyed_split (no_left needed e) g a b l r s s₁ k.grown k.audited sa sb))))
  where
    no_left : (x : Bool) → x || is_key s a b ≡ false → x ≡ false
    no_left true e = e
    no_left false e = refl
