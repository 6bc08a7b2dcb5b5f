-- UTF-8: a byte's tests, a character by its first byte, and the loop over characters.
use Rattle.std.specs.Prelude.{Some, None}
use mathlib.Core.Path.{◌≡◌, refl, sym, ap, subst, ◌∙◌}
use mathlib.Core.Bool.{Bool, true, false, ◌&&◌}
use mathlib.Core.List.{List, [], ◌∷◌}
use mathlib.Core.Option.{Option, none, some}
use Prim.Native.Nat.{ℕ, zero, suc, ◌+◌, ◌-◌, ◌<◌, ◌≤◌}
use native.Mathlib.Nat.{add-zero, sub-zero}
use native.Mathlib.Omega.{arith}
use lib.ListN.{length, drop, get_or, set}
use lib.Seq.{drop-cons, drop-drop, get_or-drop}
use lib.ListN.{drop_of_length-le}
use lib.Dec.{ltb, leb}
use borrow.Author.Tests.{ltb-true, ltb-false, lt-ltb, le-ltb}
use Rattle.records.specs.Rules.{is_char}
use Rattle.records.specs.Lists.{all}
use Rattle.records.proofs.Lists.{both_left, both_right, decide, both_true}
use Rattle.commands.specs.Texts.{onto}
use Rattle.commands.specs.Utf8.{is_next, six_more, is_scalar, shaped, char_by, char_of, decode_by, decode}
use Rattle.commands.specs.Working.Readings.{Listed}
use Rattle.commands.proofs.Listings.{Filled, filled_none, filled-one, filled_all, filled_bad}

-- ONE CHARACTER

scalar_ascii : (x : ℕ) → x < 0x80 → is_scalar x ≡ true
unfolding is_scalar is_char
scalar_ascii x h = rw (lt-ltb x 0x3_0000 (omega arith), lt-ltb x 0xD800 (omega arith))

abbrev size_in : Option (ℕ × ℕ) → ℕ
size_in none = 0
size_in (some p) = p.0

abbrev number_in : Option (ℕ × ℕ) → ℕ
number_in none = 0
number_in (some p) = p.1

module _ (k least : ℕ) (nexts : Bool) (x : ℕ) where
  shaped-not : nexts && leb least x && is_scalar x ≡ false → none ≡ shaped k least nexts x
  unfolding shaped
  shaped-not e = rw (e, shaped)

  shaped-is : nexts && leb least x && is_scalar x ≡ true → some (k, x) ≡ shaped k least nexts x
  unfolding shaped
  shaped-is e = rw (e, shaped)

  pub shaped-size : (j y : ℕ) → shaped k least nexts x ≡ some (j, y) → j ≡ k
  shaped-size j y e = decide (nexts && leb least x && is_scalar x)
      (λ t. sym (ap size_in e) ∙ sym (ap size_in (shaped-is t)))
      (λ t. let p = shaped-not t in let z : ◌≡◌ {A = ℕ} 0 1 = cc in absurd (omega arith))

  pub shaped_scalar : (j y : ℕ) → shaped k least nexts x ≡ some (j, y) → is_scalar y ≡ true
  shaped_scalar j y e = decide (nexts && leb least x && is_scalar x)
      (λ t. subst (λ (z : ℕ). is_scalar z ≡ true) (ap number_in (shaped-is t ∙ e)) (both_right (nexts && leb least x) (is_scalar x) t))
      (λ t. let p = shaped-not t in let z : ◌≡◌ {A = ℕ} 0 1 = cc in absurd (omega arith))

module _ (a b c d : ℕ) where
  pub by_one : a < 0x80 → some (1, a) ≡ char_by a b c d
  unfolding char_by
  by_one h = rw (lt-ltb a 0x80 h, char_by)

  pub by-none : 0x80 ≤ a → a < 0xC0 → none ≡ char_by a b c d
  unfolding char_by
  by-none h₁ h = rw (le-ltb a 0x80 h₁, char_by) (rw (lt-ltb a 0xC0 h))

  pub by_two : (o : Option (ℕ × ℕ)) → o ≡ shaped 2 0x80 (is_next b) (six_more (a - 0xC0) b) → 0xC0 ≤ a → a < 0xE0 → o ≡ char_by a b c d
  unfolding char_by
  by_two o e h₂ h = e ∙ rw (le-ltb a 0x80 (omega arith), char_by) (rw (le-ltb a 0xC0 h₂) (rw (lt-ltb a 0xE0 h)))

  pub by_three : (o : Option (ℕ × ℕ)) → o ≡ shaped 3 0x800 (is_next b && is_next c) (six_more (six_more (a - 0xE0) b) c) → 0xE0 ≤ a → a < 0xF0 → o ≡ char_by a b c d
  unfolding char_by
  by_three o e h₃ h = e ∙ rw (le-ltb a 0x80 (omega arith), char_by) (rw (le-ltb a 0xC0 (omega arith)) (rw (le-ltb a 0xE0 h₃) (rw (lt-ltb a 0xF0 h))))

  pub by-four : (o : Option (ℕ × ℕ)) → o ≡ shaped 4 0x1_0000 (is_next b && is_next c && is_next d) (six_more (six_more (six_more (a - 0xF0) b) c) d) → 0xF0 ≤ a → a < 0xF8 → o ≡ char_by a b c d
  unfolding char_by
  by-four o e h₄ h =
      e ∙ rw (le-ltb a 0x80 (omega arith), char_by) (rw (le-ltb a 0xC0 (omega arith)) (rw (le-ltb a 0xE0 (omega arith)) (rw (le-ltb a 0xF0 h₄) (rw (lt-ltb a 0xF8 h)))))

  pub by-more : 0xF8 ≤ a → none ≡ char_by a b c d
  unfolding char_by
  by-more h =
      rw (le-ltb a 0x80 (omega arith), char_by) (rw (le-ltb a 0xC0 (omega arith)) (rw (le-ltb a 0xE0 (omega arith)) (rw (le-ltb a 0xF0 (omega arith)) (rw (le-ltb a 0xF8 h)))))

  -- the two ways to a character: by its one byte, or by a form of k bytes
  by-each : {X : Type 0} (k x : ℕ) → char_by a b c d ≡ some (k, x) → (a < 0x80 → 1 ≡ k → a ≡ x → X)
      → ((j least : ℕ) (nexts : Bool) (y : ℕ) → 2 ≤ j → j ≤ 4 → shaped j least nexts y ≡ some (k, x) → X) → X
  by-each {X} k x e one more =
      decide (ltb a 0x80) (λ t. let h = ltb-true a 0x80 t in one h (ap size_in (by_one h ∙ e)) (ap number_in (by_one h ∙ e)))
      (λ t₁. decide (ltb a 0xC0) (λ t. nothing (by-none (ltb-false a 0x80 t₁) (ltb-true a 0xC0 t)))
      (λ t₂. decide (ltb a 0xE0) (λ t. more 2 0x80 (is_next b) (six_more (a - 0xC0) b) (omega arith) (omega arith) (by_two _ refl (ltb-false a 0xC0 t₂) (ltb-true a 0xE0 t) ∙ e))
      (λ t₃. decide (ltb a 0xF0) (λ t. more 3 0x800 (is_next b && is_next c) (six_more (six_more (a - 0xE0) b) c) (omega arith) (omega arith) (by_three _ refl (ltb-false a 0xE0 t₃) (ltb-true a 0xF0 t) ∙ e))
      (λ t₄. decide (ltb a 0xF8) (λ t. more 4 0x1_0000 (is_next b && is_next c && is_next d) (six_more (six_more (six_more (a - 0xF0) b) c) d) (omega arith) (omega arith) (by-four _ refl (ltb-false a 0xF0 t₄) (ltb-true a 0xF8 t) ∙ e))
      (λ t₅. nothing (by-more (ltb-false a 0xF8 t₅)))))))
    where
      nothing : none ≡ char_by a b c d → X
      nothing p = let z : ◌≡◌ {A = ℕ} 0 1 = cc in absurd (omega arith)

  -- a character has one byte to four
  pub by_size : (k x : ℕ) → char_by a b c d ≡ some (k, x) → (1 ≤ k) × (k ≤ 4)
  by_size k x e = by-each k x e (λ h p q. omega arith) (λ j least nexts y l h p. let q = shaped-size j least nexts y k x p in omega arith)

  -- and a text can have it
  by_scalar : (k x : ℕ) → char_by a b c d ≡ some (k, x) → is_scalar x ≡ true
  by_scalar k x e = by-each k x e (λ h p q. subst (λ (z : ℕ). is_scalar z ≡ true) q (scalar_ascii a h)) (λ j least nexts y l h p. shaped_scalar j least nexts y k x p)

-- THE CHARACTER AT A PLACE

pub char_at : (l : List ℕ) (at a b c d : ℕ) (o : Option (ℕ × ℕ)) → a ≡ get_or l at 0 → b ≡ get_or l (at + 1) 0 → c ≡ get_or l (at + 2) 0 → d ≡ get_or l (at + 3) 0
    → o ≡ char_by a b c d → o ≡ char_of (drop at l)
unfolding char_of
char_at l at a b c d o p q r s e =
    let p' : a ≡ get_or (drop at l) 0 0 = p ∙ sym (get_or-drop at l 0 0 ∙ ap (λ (i : ℕ). get_or l i 0) (add-zero at)) in
    let q' : b ≡ get_or (drop at l) 1 0 = q ∙ sym (get_or-drop at l 1 0) in
    let r' : c ≡ get_or (drop at l) 2 0 = r ∙ sym (get_or-drop at l 2 0) in
    let s' : d ≡ get_or (drop at l) 3 0 = s ∙ sym (get_or-drop at l 3 0) in
    e ∙ rw (p', q', r', s')

pub char_size : (l : List ℕ) (k x : ℕ) → some (k, x) ≡ char_of l → (1 ≤ k) × (k ≤ 4)
unfolding char_of
char_size l k x s = by_size (get_or l 0 0) (get_or l 1 0) (get_or l 2 0) (get_or l 3 0) k x (sym s)

-- THE LOOP

decode-next : (n : ℕ) (a : ℕ) (l : List ℕ) (k x : ℕ) → char_of (a ∷ l) ≡ some (k, x) → decode_by (suc n) (a ∷ l) ≡ onto x (decode_by n (drop k (a ∷ l)))
unfolding decode_by
decode-next n a l k x e = rw (e, decode_by)

decode-bad : (n : ℕ) (a : ℕ) (l : List ℕ) → char_of (a ∷ l) ≡ none → decode_by (suc n) (a ∷ l) ≡ none
unfolding decode_by
decode-bad n a l e = rw (e, decode_by)

decode-end : (n : ℕ) → decode_by n [] ≡ some []
unfolding decode_by
decode-end zero = refl
decode-end (suc n) = refl

-- n characters stand in the list, and the next starts at a place
pub record Decoded (l out₀ out : List ℕ) (at n : ℕ) : Type 0 where
  pub low : n ≤ at
  pub within : n ≤ length l
  pub filled : Filled (decode l) out₀ out n (decode_by (length l - n) (drop at l))

pub decoded_none : (l out : List ℕ) → Decoded l out out 0 0
unfolding decode
decoded_none l out = record { low = omega arith; within = omega arith; filled = rw (sub-zero (length l)) (filled_none out (decode_by (length l) l)) }

module _ (l out₀ out : List ℕ) (at n : ℕ) (f : Decoded l out₀ out at n) (h : at < length l) where
  fuel : length l - n ≡ suc (length l - (n + 1))
  fuel = let g = f.low in omega arith

  pub decoded_one : (k x : ℕ) → length l ≤ length out₀ → some (k, x) ≡ char_of (drop at l) → Decoded l out₀ (set out n x) (at + k) (n + 1)
  decoded_one k x b e =
      let g = f.low in
      let z = char_size (drop at l) k x e in
      record {
        low = omega arith;
        within = omega arith;
        filled = filled-one (decode l) out₀ out n (decode_by (length l - n) (drop at l)) f.filled x (decode_by (length l - (n + 1)) (drop (at + k) l)) (omega arith) step;
      }
    where
      cons : drop at l ≡ get_or l at 0 ∷ drop (suc at) l
      cons = drop-cons l at 0 h

      step : decode_by (length l - n) (drop at l) ≡ onto x (decode_by (length l - (n + 1)) (drop (at + k) l))
      step = rw (fuel, ← drop-drop k at l, cons) (decode-next (length l - (n + 1)) (get_or l at 0) (drop (suc at) l) k x (ap char_of (sym cons) ∙ sym e))

  pub decoded_bad : none ≡ char_of (drop at l) → Listed (decode l) None out
  decoded_bad s = filled_bad (decode l) out₀ out n (decode_by (length l - n) (drop at l)) f.filled
      (rw (fuel, cons) (decode-bad (length l - (n + 1)) (get_or l at 0) (drop (suc at) l) (ap char_of (sym cons) ∙ sym s)))
    where
      cons : drop at l ≡ get_or l at 0 ∷ drop (suc at) l
      cons = drop-cons l at 0 h

pub decoded_all : (l out₀ out : List ℕ) (at n : ℕ) → Decoded l out₀ out at n → length l ≤ at → length l ≤ length out₀ → Listed (decode l) (Some n) out
decoded_all l out₀ out at n f h r =
    let g = f.within in
    filled_all (decode l) out₀ out n (decode_by (length l - n) (drop at l)) f.filled (omega arith) (rw (drop_of_length-le l h) (decode-end (length l - n)))

-- WHAT IS DECODED

abbrev list_in : Option (List ℕ) → List ℕ
list_in none = []
list_in (some l) = l

abbrev Scalars : ℕ → Type 0
Scalars n = (l w : List ℕ) → decode_by n l ≡ some w → all is_scalar w ≡ true

scalars_by : (n : ℕ) → Scalars n
unfolding decode_by all char_of
scalars_by zero l w e = ap (all is_scalar) (sym (ap list_in e))
scalars_by (suc n) [] w e = ap (all is_scalar) (sym (ap list_in e))
scalars_by (suc n) (a ∷ l) w e = first (scalars_by n) (char_of (a ∷ l)) refl e
  where
    rest : Scalars n → (x : ℕ) (m : List ℕ) → is_scalar x ≡ true → (o : Option (List ℕ)) → decode_by n m ≡ o → onto x o ≡ some w → all is_scalar w ≡ true
    rest ih x m h none p q = let z : ◌≡◌ {A = ℕ} 0 1 = cc in absurd (omega arith)
    rest ih x m h (some v) p q = ap (all is_scalar) (sym (ap list_in q)) ∙ both_true (is_scalar x) (all is_scalar v) h (ih m v p)

    first : Scalars n → (o : Option (ℕ × ℕ)) → char_of (a ∷ l) ≡ o → elim o [ none ↦ none | some p ↦ onto p.1 (decode_by n (drop p.0 (a ∷ l))) ] ≡ some w → all is_scalar w ≡ true
    first ih none p q = let z : ◌≡◌ {A = ℕ} 0 1 = cc in absurd (omega arith)
    first ih (some r) p q = rest ih r.1 (drop r.0 (a ∷ l)) (by_scalar (get_or (a ∷ l) 0 0) (get_or (a ∷ l) 1 0) (get_or (a ∷ l) 2 0) (get_or (a ∷ l) 3 0) r.0 r.1 p)
        (decode_by n (drop r.0 (a ∷ l))) refl q

-- a text that is read has characters that the store takes, and no surrogate: no making call refuses it for a character
pub decoded_scalars : (l w : List ℕ) → decode l ≡ some w → (all is_scalar w ≡ true) × (all is_char w ≡ true)
unfolding decode all is_scalar
decoded_scalars l w e = let s = scalars_by (length l) l w e in (s, every w s)
  where
    every : (v : List ℕ) → all is_scalar v ≡ true → all is_char v ≡ true
    every [] h = refl
    every (x ∷ v) h = both_true (is_char x) (all is_char v) (both_left (is_char x) _ (both_left (is_scalar x) _ h)) (every v (both_right (is_scalar x) _ h))
