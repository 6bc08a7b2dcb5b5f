-- How many terms a Split makes: what each make adds, and that the number of the definition is by how many terms the store grows.
use Rattle.std.specs.Prelude.{if◌then◌else◌}
use mathlib.Core.Path.{◌≡◌, refl, sym, ap, subst, ◌∙◌}
use mathlib.Core.Bool.{Bool, true, false, ◌&&◌}
use mathlib.Core.List.{List, [], ◌∷◌, ◌++◌}
use mathlib.Core.Option.{Option, none, some}
use Prim.Native.Nat.{ℕ, suc, ◌+◌, ◌-◌, ◌≤◌, ◌<◌}
use native.Mathlib.Omega.{arith}
use lib.ListN.{length, length-append}
use lib.IntN.{ℤ, neg_ℤ}
use lib.Dec.{eqb, ltb, leb}
use borrow.Author.Tests.{eqb-true, eq-eqb}
use Rattle.records.specs.Lists.{all, none_left, and, Every}
use Rattle.records.specs.Store.{Store, Out, ok, stop, Work, and_then, ◌>>=◌, ◌>>◌, give, refuse, put, count, term, kind, within, is_string, is_concat, is_equation, parts}
use Rattle.records.specs.Rules.{is_char, is_equatable, named}
use Rattle.records.specs.Make.{with_chars, with_cells, with_terms, own, chain_from, add_text, add_chain, add_term, is_some, lookup, or_make, lowest, constant_of, concat_of, length_of, equation_of, make_constant, make_variable, make_concat, make_length, make_equation, take_name}
use Rattle.records.specs.Working.Audited.{Audited}
use Rattle.records.proofs.Lists.{both_left, both_right, both_true, or_left, or_right, every_all, word_is, first_some}
use Rattle.records.proofs.Works.{stop-not, via}
use Rattle.records.proofs.Readings.{parts-lower}
use Rattle.records.proofs.Grown.{Grown, grown-then, grown-kind, grown-string}
use Rattle.records.proofs.Kept.{made-string, constant-kept, concat-kept, length-kept, equation-kept, name_taken, fresh_kept}
use Rattle.sides.specs.Wordeq.{split, Tried, one_if_absent, fresh_variable, split_character, split_heads}
use Rattle.sides.specs.Working.Counting.{split_from}

pub equatable_strings : (s : Store) (a b : ℕ) → is_string s a ≡ true → is_string s b ≡ true → is_equatable s a b ≡ true
unfolding is_equatable
equatable_strings s a b p q = or_left (is_string s a && is_string s b) _ (both_true _ _ p q)

pub equatable_lengths : (s : Store) (a b : ℕ) → kind s a ≡ 4 → kind s b ≡ 4 → is_equatable s a b ≡ true
unfolding is_equatable
equatable_lengths s a b p q = or_right (is_string s a && is_string s b) _ (both_true _ _ (eq-eqb _ _ p) (eq-eqb _ _ q))

-- ONE TERM

-- one term more, which is the one answered
record Appended (s s' : Store) (t : ℕ) : Type 0 where
  more : count s' ≡ suc (count s)
  newest : t ≡ count s'

-- a write where there is room, and the number given
write_counts : (b : Bool) (s₁ s : Store) (x : ℕ) (s' : Store) (t : ℕ) → ((if b then put s₁ else refuse 8) >> give x) s ≡ ok s' t → (count s' ≡ count s₁) × (t ≡ x)
write_counts true s₁ s x s' t e = let p : s₁ ≡ s' = cc in let q : x ≡ t = cc in (ap (λ (y : Store). count y) (sym p), sym q)
write_counts false s₁ s x s' t e = stop-not e

term-appended : (k a b : ℕ) (s s' : Store) (t : ℕ) → add_term k a b s ≡ ok s' t → Appended s s' t
unfolding add_term
term-appended k a b s s' t e =
    let n = length-append s.terms (own (suc (count s)) k a b ∷ []) in
    let p = write_counts (ltb (count s) s.room.terms) (with_terms s (s.terms ++ (own (suc (count s)) k a b ∷ []))) s (suc (count s)) s' t e in
    let q = p.0 in let r = p.1 in
    record { more = omega arith; newest = omega arith }

-- after a text or a chain, which are no terms
appended-after : {s s₁ s' : Store} {t : ℕ} → count s₁ ≡ count s → Appended s₁ s' t → Appended s s' t
appended-after p x = let q = x.more in record { more = omega arith; newest = x.newest }

text-appended : (k : ℕ) (w : List ℕ) (s s' : Store) (t : ℕ) → (add_text w >>= (λ p. add_term k p (length w))) s ≡ ok s' t → Appended s s' t
unfolding add_text
text-appended k w s s' t e = via (λ p. add_term k p (length w)) (add_text w s) e (λ s₁ p i j.
    appended-after (write_counts (leb (length s.chars + length w) s.room.chars) (with_chars s (s.chars ++ w)) s (length s.chars) s₁ p i).0 (term-appended k p (length w) s₁ s' t j))

chain-appended : (l : List ℕ) (s s' : Store) (t : ℕ) → (add_chain l >>= (λ c. add_term 3 c 0)) s ≡ ok s' t → Appended s s' t
unfolding add_chain
chain-appended l s s' t e = via (λ c. add_term 3 c 0) (add_chain l s) e (λ s₁ c i j.
    let n = suc (length s.cells) in
    appended-after (write_counts (leb (length s.cells + length l) s.room.cells) (with_cells s (s.cells ++ chain_from n l)) s n s₁ c i).0 (term-appended 3 c 0 s₁ s' t j))

-- MAKING: a term that is absent is appended, and one that is there is found

-- what `one_if_absent` gives
abbrev pub absence : (Store → ℕ → Bool) → Store → ℕ
absence equal s = if is_some (lookup equal s) then 0 else 1

module _ (equal : Store → ℕ → Bool) (make : Work ℕ) (s s' : Store) (t : ℕ) (appends : make s ≡ ok s' t → Appended s s' t) (e : lowest equal make s ≡ ok s' t) where
  lowest-counts : count s' ≡ absence equal s + count s
  unfolding lowest
  lowest-counts = go (lookup equal s) e
    where
      go : (o : Option ℕ) → or_make make o s ≡ ok s' t → count s' ≡ (if is_some o then 0 else 1) + count s
      go none q = let h = (appends q).more in omega arith
      go (some i) q = let p : s ≡ s' = cc in let h = ap (λ (y : Store). count y) p in omega arith

  lowest-appends : lookup equal s ≡ none → Appended s s' t
  unfolding lowest
  lowest-appends h = appends (ap (λ (o : Option ℕ). or_make make o s) (sym h) ∙ e)

constant-counts : (w : List ℕ) (s s' : Store) (t : ℕ) → make_constant w s ≡ ok s' t → count s' ≡ absence (constant_of w) s + count s
unfolding make_constant
constant-counts w s s' t e = lowest-counts (constant_of w) _ s s' t (text-appended 1 w s s' t) e

length-counts : (a : ℕ) (s s' : Store) (t : ℕ) → make_length a s ≡ ok s' t → count s' ≡ absence (length_of a) s + count s
unfolding make_length
length-counts a s s' t e = lowest-counts (length_of a) _ s s' t (term-appended 4 a 0 s s' t) e

equation-counts : (a b : ℕ) (s s' : Store) (t : ℕ) → make_equation a b s ≡ ok s' t → count s' ≡ absence (equation_of a b) s + count s
unfolding make_equation
equation-counts a b s s' t e = lowest-counts (equation_of a b) _ s s' t (term-appended 5 a b s s' t) e

-- A PREFIX: three terms, since no term has a part or a side that is the newest one

fresh-appends : (s s' : Store) (z : ℕ) → fresh_variable s ≡ ok s' z → Appended s s' z
unfolding fresh_variable make_variable
fresh-appends s s' z e = via make_variable (take_name s) e (λ s₁ w i j.
    let x = name_taken s s₁ w i in
    appended-after (ap (λ (y : Store). count y) x.is) (lowest-appends (named w) _ s₁ s' z (text-appended 2 w s₁ s' z) j x.new))

-- what is equal to no term of the store is not looked up
none_equal : (equal : Store → ℕ → Bool) (s : Store) → ((t : ℕ) → t ≤ count s → equal s t ≡ true → ⊥) → lookup equal s ≡ none
unfolding lookup
none_equal equal s f = go (lookup equal s) refl
  where
    go : (o : Option ℕ) → lookup equal s ≡ o → lookup equal s ≡ none
    go none q = q
    go (some i) q = let x = first_some (λ i. equal s (suc i)) (count s) i q in let b = x.below in absurd (f (suc i) (omega arith) x.passes)

second_holds : {P : ℕ → Type 0} {a b : ℕ} → Every P (a ∷ b ∷ []) → P b
second_holds (and p (and q none_left)) = q

concat-appends : (h z : ℕ) (s s' : Store) (t : ℕ) → Audited s → z ≡ count s → make_concat (h ∷ z ∷ []) s ≡ ok s' t → Appended s s' t
unfolding make_concat concat_of
concat-appends h z s s' t d n e = lowest-appends (concat_of (h ∷ z ∷ [])) _ s s' t (chain-appended (h ∷ z ∷ []) s s' t) e (none_equal (concat_of (h ∷ z ∷ [])) s lacks)
  where
    lacks : (u : ℕ) → u ≤ count s → concat_of (h ∷ z ∷ []) s u ≡ true → ⊥
    lacks u i k =
        let l = parts-lower s d.recorded u (eqb-true _ _ (both_left (is_concat s u) _ k)) in
        let x : z < u = second_holds (subst (Every (λ p. p < u)) (word_is (parts s u) (h ∷ z ∷ []) (both_right (is_concat s u) _ k)) l) in
        omega arith

equation-appends : (v u : ℕ) (s s' : Store) (t : ℕ) → Audited s → u ≡ count s → make_equation v u s ≡ ok s' t → Appended s s' t
unfolding make_equation equation_of
equation-appends v u s s' t d n e = lowest-appends (equation_of v u) _ s s' t (term-appended 5 v u s s' t) e (none_equal (equation_of v u) s lacks)
  where
    lacks : (x : ℕ) → x ≤ count s → equation_of v u s x ≡ true → ⊥
    lacks x i k =
        let y = both_left (is_equation s x) (eqb (term s x).first v) (both_left (is_equation s x && eqb (term s x).first v) (eqb (term s x).second u) k) in
        let l = d.recorded.equation_second x (eqb-true _ _ y) in
        let q : (term s x).second ≡ u = eqb-true _ _ (both_right (is_equation s x && eqb (term s x).first v) (eqb (term s x).second u) k) in
        omega arith

record Prefixed (s s' : Store) : Type 0 where
  more : count s' ≡ 3 + count s
  audited : Audited s'
  grown : Grown s s'

prefix_counts : (v h : ℕ) (s s₁ s₂ s₃ : Store) (z t q : ℕ) → Audited s → is_string s v ≡ true → is_string s h ≡ true
    → fresh_variable s ≡ ok s₁ z → make_concat (h ∷ z ∷ []) s₁ ≡ ok s₂ t → make_equation v t s₂ ≡ ok s₃ q → Prefixed s s₃
unfolding within fresh_variable
prefix_counts v h s s₁ s₂ s₃ z t q d sv sh e₁ e₂ e₃ =
    let x = (fresh_kept s s₁ z d e₁).made in
    let y = (concat-kept (h ∷ z ∷ []) s₁ s₂ t x.audited (omega arith) (every_all (and (grown-string x.grown h sh) (and (made-string x refl) none_left))) e₂).made in
    let g = grown-then x.grown y.grown in
    let w = (equation-kept v t s₂ s₃ q y.audited (equatable_strings s₂ v t (grown-string g v sv) (made-string y refl)) e₃).made in
    let a = fresh-appends s s₁ z e₁ in
    let b = concat-appends h z s₁ s₂ t x.audited a.newest e₂ in
    let c = equation-appends v t s₂ s₃ q y.audited b.newest e₃ in
    let k = a.more in let l = b.more in let m = c.more in
    record { more = omega arith; audited = w.audited; grown = grown-then g w.grown }

-- THE SPLITS

-- both ways on from where work ended
pub then_same : {A B : Type 0} (f g : A → Work B) (o : Out A) → ((s : Store) (x : A) → o ≡ ok s x → f x s ≡ g x s) → and_then f o ≡ and_then g o
then_same f g (ok s x) k = k s x refl
then_same f g (stop n) k = refl

-- the terms of a split over a character, and of one over two heads, in the order made
abbrev pub character_then : ℕ → ℕ → (List ℕ → Tried) → Tried
character_then v c k = do
  e ← make_constant []
  p ← make_equation v e
  h ← make_constant (c ∷ [])
  z ← fresh_variable
  t ← make_concat (h ∷ z ∷ [])
  q ← make_equation v t
  k (p ∷ q ∷ [])

abbrev pub heads_then : ℕ → ℕ → (List ℕ → Tried) → Tried
heads_then a b k = do
  la ← make_length a
  lb ← make_length b
  p ← make_equation la lb
  z₁ ← fresh_variable
  t₁ ← make_concat (b ∷ z₁ ∷ [])
  q₁ ← make_equation a t₁
  z₂ ← fresh_variable
  t₂ ← make_concat (a ∷ z₂ ∷ [])
  q₂ ← make_equation b t₂
  k (p ∷ q₁ ∷ q₂ ∷ [])

module _ (g : ℤ) (s : Store) (d : Audited s) where
  numbered : (s₁ : Store) (l : List ℕ) (n : ℕ) → n ≡ count s₁ - count s → ok s₁ (some (split l (neg_ℤ g) n)) ≡ split_from g (count s) l s₁
  unfolding split_from
  numbered s₁ l n e = ap (λ (x : ℕ). ok s₁ (some (split l (neg_ℤ g) x))) e

  pub character-counted : (v c : ℕ) → is_string s v ≡ true → is_char c ≡ true → split_character g v c s ≡ character_then v c (split_from g (count s)) s
  unfolding split_character one_if_absent all within
  character-counted v c sv good =
      then_same _ _ (make_constant [] s) λ s₁ e i₁.
      let m₁ = (constant-kept [] s s₁ e d refl i₁).made in
      let c₁ = constant-counts [] s s₁ e i₁ in
      then_same _ _ (make_equation v e s₁) λ s₂ p i₂.
      let m₂ = (equation-kept v e s₁ s₂ p m₁.audited (equatable_strings s₁ v e (grown-string m₁.grown v sv) (made-string m₁ refl)) i₂).made in
      let c₂ = equation-counts v e s₁ s₂ p i₂ in
      let g₂ = grown-then m₁.grown m₂.grown in
      then_same _ _ (make_constant (c ∷ []) s₂) λ s₃ h i₃.
      let m₃ = (constant-kept (c ∷ []) s₂ s₃ h m₂.audited (both_true (is_char c) true good refl) i₃).made in
      let c₃ = constant-counts (c ∷ []) s₂ s₃ h i₃ in
      then_same _ _ (fresh_variable s₃) λ s₄ z i₄.
      then_same _ _ (make_concat (h ∷ z ∷ []) s₄) λ s₅ t i₅.
      then_same _ _ (make_equation v t s₅) λ s₆ q i₆.
      let x = (prefix_counts v h s₃ s₄ s₅ s₆ z t q m₃.audited (grown-string (grown-then g₂ m₃.grown) v sv) (made-string m₃ refl) i₄ i₅ i₆).more in
      numbered s₆ (p ∷ q ∷ []) (3 + absence (constant_of []) s + absence (equation_of v e) s₁ + absence (constant_of (c ∷ [])) s₂) (omega arith)

  pub heads-counted : (a b : ℕ) → is_string s a ≡ true → is_string s b ≡ true → split_heads g a b s ≡ heads_then a b (split_from g (count s)) s
  unfolding split_heads one_if_absent
  heads-counted a b sa sb =
      then_same _ _ (make_length a s) λ s₁ la i₁.
      let m₁ = (length-kept a s s₁ la d sa i₁).made in
      let c₁ = length-counts a s s₁ la i₁ in
      then_same _ _ (make_length b s₁) λ s₂ lb i₂.
      let m₂ = (length-kept b s₁ s₂ lb m₁.audited (grown-string m₁.grown b sb) i₂).made in
      let c₂ = length-counts b s₁ s₂ lb i₂ in
      then_same _ _ (make_equation la lb s₂) λ s₃ p i₃.
      let m₃ = (equation-kept la lb s₂ s₃ p m₂.audited (equatable_lengths s₂ la lb (grown-kind m₂.grown la 3 m₁.kind_is) m₂.kind_is) i₃).made in
      let c₃ = equation-counts la lb s₂ s₃ p i₃ in
      let g₃ = grown-then m₁.grown (grown-then m₂.grown m₃.grown) in
      then_same _ _ (fresh_variable s₃) λ s₄ z₁ i₄.
      then_same _ _ (make_concat (b ∷ z₁ ∷ []) s₄) λ s₅ t₁ i₅.
      then_same _ _ (make_equation a t₁ s₅) λ s₆ q₁ i₆.
      let x = prefix_counts a b s₃ s₄ s₅ s₆ z₁ t₁ q₁ m₃.audited (grown-string g₃ a sa) (grown-string g₃ b sb) i₄ i₅ i₆ in
      let g₆ = grown-then g₃ x.grown in
      then_same _ _ (fresh_variable s₆) λ s₇ z₂ i₇.
      then_same _ _ (make_concat (a ∷ z₂ ∷ []) s₇) λ s₈ t₂ i₈.
      then_same _ _ (make_equation b t₂ s₈) λ s₉ q₂ i₉.
      let y = prefix_counts b a s₆ s₇ s₈ s₉ z₂ t₂ q₂ x.audited (grown-string g₆ b sb) (grown-string g₆ a sa) i₇ i₈ i₉ in
      let k = x.more in let l = y.more in
      numbered s₉ (p ∷ q₁ ∷ q₂ ∷ []) (6 + absence (length_of a) s + absence (length_of b) s₁ + absence (equation_of la lb) s₂) (omega arith)
