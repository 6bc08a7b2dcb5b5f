-- Decimal numbers and fields: the loop over digits, the loop over bytes up to a space, the loop over fields.
use Rattle.std.specs.Prelude.{if◌then◌else◌}
use Rattle.std.specs.Prelude.{Some, None}
use mathlib.Core.Path.{◌≡◌, refl, sym, ap, ◌∙◌}
use mathlib.Core.Bool.{Bool, true, false, ◌&&◌}
use mathlib.Core.List.{List, [], ◌∷◌}
use mathlib.Core.Option.{Option, none, some}
use Prim.Native.Nat.{ℕ, suc, ◌+◌, ◌-◌, ◌*◌, ◌<◌, ◌≤◌}
use native.Mathlib.Numerals.{add-one}
use native.Mathlib.Omega.{arith}
use lib.ListN.{length, take, drop, get_or, set, drop_of_length-le, length-drop}
use lib.Seq.{drop-cons, drop-drop}
use lib.Dec.{eqb, ltb}
use borrow.Author.Tests.{ltb-true, ltb-false, lt-ltb, le-ltb, le-leb, eq-eqb, ne_eqb, eqb-true, eqb-false}
use Rattle.std.specs.Char.{is_ascii_digit}
use Rattle.records.specs.Lists.{all, up_to}
use Rattle.records.proofs.Lists.{decide, left_false, right-false, both_true, both_left, both_right}
use Rattle.commands.specs.Texts.{both, space, with_first, parted, fields, is_digit, value_from, number_below, word_limit, numbers}
use Rattle.commands.specs.Commands.{numbers_after}
use Rattle.commands.specs.Working.Readings.{Listed}
use Rattle.commands.proofs.Listings.{Filled, filled-one, filled_all, filled_bad}

-- DIGITS

-- the number of x followed by digits, digit by digit
unfoldable pub read_from : ℕ → ℕ → List ℕ → Option ℕ
read_from m x [] = some x
read_from m x (b ∷ l) = elim (is_digit b && ltb (10 * x + (b - 48)) m) [ true ↦ read_from m (10 * x + (b - 48)) l | false ↦ none ]

module _ (m x b : ℕ) (l : List ℕ) where
  read_next : is_digit b && ltb (10 * x + (b - 48)) m ≡ true → read_from m x (b ∷ l) ≡ read_from m (10 * x + (b - 48)) l
  unfolding read_from
  read_next e = rw (e, read_from)

  read-stop : is_digit b && ltb (10 * x + (b - 48)) m ≡ false → read_from m x (b ∷ l) ≡ none
  unfolding read_from
  read-stop e = rw (e, read_from)

value-least : (x : ℕ) (l : List ℕ) → x ≤ value_from x l
unfolding value_from
value-least x [] = omega arith
value-least x (b ∷ l) = let h = value-least (10 * x + (b - 48)) l in omega arith

-- where all are digits and the value is below the limit
abbrev wholly : ℕ → ℕ → List ℕ → Bool
wholly m x l = all is_digit l && ltb (value_from x l) m

read-fails : (m x b : ℕ) (l : List ℕ) → is_digit b && ltb (10 * x + (b - 48)) m ≡ false → wholly m x (b ∷ l) ≡ false
unfolding all value_from
read-fails m x b l t = decide (is_digit b)
    (λ d. let g : ltb (10 * x + (b - 48)) m ≡ false = rw d at t in
    let v = value-least (10 * x + (b - 48)) l in
    let u = ltb-false (10 * x + (b - 48)) m g in
    right-false (is_digit b && all is_digit l) (ltb (value_from (10 * x + (b - 48)) l) m) (le-ltb (value_from (10 * x + (b - 48)) l) m (omega arith)))
    (λ d. rw d)

read_is : (m x : ℕ) (l : List ℕ) → x < m → (if wholly m x l then some (value_from x l) else none) ≡ read_from m x l
unfolding all value_from read_from
read_is m x [] h = rw (lt-ltb x m h)
read_is m x (b ∷ l) h = decide (is_digit b && ltb (10 * x + (b - 48)) m)
    (λ t. rw (read_next m x b l t, both_left (is_digit b) (ltb (10 * x + (b - 48)) m) t) (read_is m (10 * x + (b - 48)) l (ltb-true _ _ (both_right (is_digit b) (ltb (10 * x + (b - 48)) m) t))))
    (λ t. rw (read-stop m x b l t, read-fails m x b l t))

pub read_whole : (m : ℕ) (w : List ℕ) → 0 < m → 1 ≤ length w → number_below m w ≡ read_from m 0 w
unfolding number_below
read_whole m w h k = rw (le-leb 1 (length w) k) (read_is m 0 w h)

pub number-none : (m : ℕ) (w : List ℕ) → length w ≡ 0 → none ≡ number_below m w
unfolding number_below
number-none m [] e = refl
number-none m (b ∷ w) e = absurd (omega arith)

-- i digits are read, and make x
pub record Read (m : ℕ) (w : List ℕ) (x i : ℕ) : Type 0 where
  pub below : x < m
  pub rest : read_from m x (drop i w) ≡ number_below m w

pub read_none : (m : ℕ) (w : List ℕ) → 0 < m → (length w ≡ 0 → ⊥) → Read m w 0 0
read_none m w h k = record { below = h; rest = sym (read_whole m w h (some-length w k)) }
  where
    some-length : (v : List ℕ) → (length v ≡ 0 → ⊥) → 1 ≤ length v
    some-length [] z = absurd (z refl)
    some-length (b ∷ v) z = omega arith

-- the library's test is the definition's
digit_is : (b : ℕ) → is_ascii_digit b ≡ is_digit b
unfolding is_digit
digit_is b = refl

module _ (m : ℕ) (w : List ℕ) (x i : ℕ) (f : Read m w x i) (h : i < length w) where
  cons : drop i w ≡ get_or w i 0 ∷ drop (suc i) w
  cons = drop-cons w i 0 h

  stop-here : is_digit (get_or w i 0) && ltb (10 * x + (get_or w i 0 - 48)) m ≡ false → none ≡ number_below m w
  stop-here e = sym (rw cons (read-stop m x (get_or w i 0) (drop (suc i) w) e)) ∙ f.rest

  pub read_odd : false ≡ is_ascii_digit (get_or w i 0) → none ≡ number_below m w
  read_odd k = stop-here (left_false (is_digit (get_or w i 0)) _ (sym (k ∙ digit_is (get_or w i 0))))

  module _ (d : ℕ) (e : d ≡ get_or w i 0 - 48) where
    pub read_past : m ≤ 10 * x + d → none ≡ number_below m w
    read_past k = stop-here (right-false (is_digit (get_or w i 0)) _ (le-ltb _ m (omega arith)))

    pub read_one : true ≡ is_ascii_digit (get_or w i 0) → 10 * x + d < m → Read m w (10 * x + d) (i + 1)
    read_one a k = record {
      below = k;
      rest = rw (add-one i, e) (sym (rw cons (read_next m x (get_or w i 0) (drop (suc i) w) (both_true _ _ (sym (a ∙ digit_is (get_or w i 0))) (lt-ltb _ m (omega arith))))) ∙ f.rest);
    }

pub read_all : (m : ℕ) (w : List ℕ) (x i : ℕ) → Read m w x i → length w ≤ i → some x ≡ number_below m w
unfolding read_from
read_all m w x i f h = sym (rw (drop_of_length-le w h)) ∙ f.rest

-- A FIELD

module _ (x : ℕ) where
  up-here : (b : ℕ) (l : List ℕ) → b ≡ x → up_to x (b ∷ l) ≡ []
  unfolding up_to
  up-here b l e = rw (eq-eqb b x e, up_to)

  up_more : (b : ℕ) (l : List ℕ) → (b ≡ x → ⊥) → up_to x (b ∷ l) ≡ b ∷ up_to x l
  unfolding up_to
  up_more b l e = rw (ne_eqb b x e, up_to)

  up-length : (l : List ℕ) → length (up_to x l) ≤ length l
  unfolding up_to
  up-length [] = omega arith
  up-length (b ∷ l) = let h = up-length l in decide (eqb b x)
      (λ t. rw (up-here b l (eqb-true b x t)) (omega arith))
      (λ t. rw (up_more b l (eqb-false b x t)) (omega arith))

  up-take : (l : List ℕ) → take (length (up_to x l)) l ≡ up_to x l
  unfolding up_to
  up-take [] = refl
  up-take (b ∷ l) = decide (eqb b x)
      (λ t. rw (up-here b l (eqb-true b x t)))
      (λ t. rw (up_more b l (eqb-false b x t)) (ap (λ (v : List ℕ). b ∷ v) (up-take l)))

  -- what is after is nothing, or starts with x
  pub data Stops : List ℕ → Type 0 where
    at_end : Stops []
    at_stop : {l : List ℕ} → Stops (x ∷ l)

  up_stops : (l : List ℕ) → Stops (drop (length (up_to x l)) l)
  unfolding up_to
  up_stops [] = at_end
  up_stops (b ∷ l) = decide (eqb b x)
      (λ t. rw (up-here b l (eqb-true b x t), eqb-true b x t) at_stop)
      (λ t. rw (up_more b l (eqb-false b x t)) (up_stops l))

-- i is a place of the field that starts at a place
pub record Passed (l : List ℕ) (at i : ℕ) : Type 0 where
  pub low : at ≤ i
  pub high : i ≤ length l
  pub rest : i + length (up_to space (drop i l)) ≡ at + length (up_to space (drop at l))

module _ (l : List ℕ) (at i : ℕ) (f : Passed l at i) where
  pub passed_here : i < length l → get_or l i 0 ≡ 32 → i ≡ at + length (up_to space (drop at l))
  passed_here h e =
      let g : up_to space (drop i l) ≡ [] = rw (drop-cons l i 0 h) (up-here space (get_or l i 0) (drop (suc i) l) e) in
      let k : length (up_to space (drop i l)) ≡ 0 = ap length g in
      let q = f.rest in omega arith

  pub passed_one : i < length l → (get_or l i 0 ≡ 32 → ⊥) → Passed l at (i + 1)
  passed_one h e =
      let g : up_to space (drop i l) ≡ get_or l i 0 ∷ up_to space (drop (suc i) l) = rw (drop-cons l i 0 h) (up_more space (get_or l i 0) (drop (suc i) l) e) in
      let k : length (up_to space (drop i l)) ≡ suc (length (up_to space (drop (suc i) l))) = ap length g in
      let q = f.rest in
      let a = f.low in
      record { low = omega arith; high = omega arith; rest = rw (add-one i) (omega arith) }

  pub passed_all : length l ≤ i → length l ≡ at + length (up_to space (drop at l))
  unfolding up_to
  passed_all h =
      let g : up_to space (drop i l) ≡ [] = rw (drop_of_length-le l h) in
      let k : length (up_to space (drop i l)) ≡ 0 = ap length g in
      let q = f.rest in let b = f.high in omega arith

-- a field ends within the line
pub field_within : (l : List ℕ) (at e : ℕ) → at ≤ length l → e ≡ at + length (up_to space (drop at l)) → e ≤ length l
field_within l at e h q = let k = up-length space (drop at l) in let j = length-drop at l in omega arith

-- FIELDS

abbrev after_stop : List ℕ → List (List ℕ)
after_stop [] = []
after_stop (b ∷ l) = parted l

parted-is : (l : List ℕ) → parted l ≡ up_to space l ∷ after_stop (drop (length (up_to space l)) l)
unfolding parted up_to with_first
parted-is [] = refl
parted-is (b ∷ l) = decide (eqb b space)
    (λ t. rw (t, parted, up_to))
    (λ t. rw (t, parted, up_to) (rw (parted-is l)))

-- a field, and what is after it
module _ (l : List ℕ) (at e : ℕ) (q : e ≡ at + length (up_to space (drop at l))) where
  after_field : drop (length (up_to space (drop at l))) (drop at l) ≡ drop e l
  after_field = drop-drop (length (up_to space (drop at l))) at l ∙ ap (λ (i : ℕ). drop i l) (sym q)

  pub field_is : parted (drop at l) ≡ take (e - at) (drop at l) ∷ after_stop (drop e l)
  field_is =
      let k : e - at ≡ length (up_to space (drop at l)) = omega arith in
      parted-is (drop at l) ∙ rw (after_field, k) (ap (λ (w : List ℕ). w ∷ after_stop (drop e l)) (sym (up-take space (drop at l))))

  pub field_stops : Stops space (drop e l)
  field_stops = rw after_field at (up_stops space (drop at l))

  pub last_field : length l ≤ e → parted (drop at l) ≡ take (e - at) (drop at l) ∷ []
  last_field h = field_is ∙ rw (drop_of_length-le l h)

  pub next_field : e < length l → parted (drop at l) ≡ take (e - at) (drop at l) ∷ parted (drop (suc e) l)
  next_field h = field_is ∙ ap (λ (m : List ℕ). take (e - at) (drop at l) ∷ after_stop m) (drop-cons l e 0 h)

numbers_after_lem : (m : List ℕ) → Stops space m → numbers_after m ≡ numbers (after_stop m)
unfolding fields numbers
numbers_after_lem m at_end = refl
numbers_after_lem m at_stop = refl

-- THE NUMBERS OF A LINE

-- n numbers stand in the list, and the next field's space is at a place
pub record Numbered (l out₀ out : List ℕ) (at n : ℕ) : Type 0 where
  pub low : n ≤ at
  pub within : at ≤ length l
  pub filled : Filled (numbers_after l) out₀ out n (numbers_after (drop at l))

module _ (l out₀ out : List ℕ) (at n : ℕ) (f : Numbered l out₀ out at n) (h : at < length l) where
  here : drop at l ≡ get_or l at 0 ∷ drop (suc at) l
  here = drop-cons l at 0 h

  pub numbered_odd : (get_or l at 0 ≡ 32 → ⊥) → Listed (numbers_after l) None out
  unfolding fields
  numbered_odd z = filled_bad (numbers_after l) out₀ out n (numbers_after (drop at l)) f.filled (rw here (rw (ne_eqb (get_or l at 0) 32 z, fields)))

  module _ (e : ℕ) (z : get_or l at 0 ≡ 32) (q : e ≡ at + 1 + length (up_to space (drop (at + 1) l))) where
    spaced : numbers_after (drop at l) ≡ numbers (parted (drop (at + 1) l))
    unfolding fields
    spaced = rw (here, z, add-one at)

    turn : numbers_after (drop at l) ≡ both (number_below word_limit (take (e - (at + 1)) (drop (at + 1) l))) (numbers_after (drop e l))
    unfolding numbers
    turn = spaced ∙ ap numbers (field_is l (at + 1) e q) ∙ rw (numbers_after_lem (drop e l) (field_stops l (at + 1) e q))

    pub numbered_one : (x : ℕ) → some x ≡ number_below word_limit (take (e - (at + 1)) (drop (at + 1) l)) → length l ≤ length out₀ → Numbered l out₀ (set out n x) e (n + 1)
    numbered_one x s k =
        let a = f.low in
        record {
          low = omega arith;
          within = field_within l (at + 1) e (omega arith) q;
          filled = filled-one (numbers_after l) out₀ out n (numbers_after (drop at l)) f.filled x (numbers_after (drop e l)) (omega arith)
              (turn ∙ ap (λ (o : Option ℕ). both o (numbers_after (drop e l))) (sym s));
        }

    pub numbered_bad : none ≡ number_below word_limit (take (e - (at + 1)) (drop (at + 1) l)) → Listed (numbers_after l) None out
    numbered_bad s = filled_bad (numbers_after l) out₀ out n (numbers_after (drop at l)) f.filled
        (turn ∙ ap (λ (o : Option ℕ). both o (numbers_after (drop e l))) (sym s))

pub numbered_all : (l out₀ out : List ℕ) (at n : ℕ) → Numbered l out₀ out at n → length l ≤ at → length l ≤ length out₀ → Listed (numbers_after l) (Some n) out
unfolding fields numbers
numbered_all l out₀ out at n f h r =
    let a = f.low in
    let b = f.within in
    filled_all (numbers_after l) out₀ out n (numbers_after (drop at l)) f.filled (omega arith) (rw (drop_of_length-le l h))
