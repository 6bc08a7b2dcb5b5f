-- Step 5: the first variable of a side, and whether one word for all of its variables fits.
use Rattle.std.specs.Prelude.{if◌then◌else◌}
use mathlib.Core.Path.{◌≡◌, refl, sym, ap, ◌∙◌}
use mathlib.Core.Bool.{Bool, true, false, ◌&&◌}
use mathlib.Core.List.{List, [], ◌∷◌, ◌++◌}
use Prim.Native.Nat.{ℕ, zero, suc, ◌+◌, ◌*◌, ◌-◌, ◌/◌, ◌%◌, ◌<◌, ◌≤◌}
use native.Mathlib.Nat.{mul_comm, div-le_self, div-add-mod'}
use native.Mathlib.Omega.{arith}
use lib.ListN.{length, get_or, take, drop, length-append, length-drop, take-append-drop}
use lib.Dec.{eqb}
use borrow.Author.Tests.{eq-eqb, ne_eqb}
use Rattle.records.specs.declared.State.{State}
use Rattle.records.specs.Lists.{all, concat_map, same_word}
use Rattle.records.specs.Store.{Store, is_constant, is_string, text}
use Rattle.records.specs.View.{lent, store_of, read_in, termed}
use Rattle.records.proofs.Lists.{both_left, both_right, left_false, and-next, clash, all_every, every_at, concat_map-append}
use Rattle.sides.specs.Wordeq.{fixed, letters_of, letters, filled, lead, forced, first_span, fits}
use Rattle.sides.specs.Working.Sides.{Spelled, rest, Tiling}
use Rattle.sides.specs.Working.Stripping.{Pair}
use Rattle.sides.specs.Working.Spans.{FirstVariable}
use Rattle.sides.proofs.SideReady.{length_whole}

-- THE FIRST VARIABLE

module _ (s : Store) where
  lead-of : (r : List ℕ) (i : ℕ) → i ≤ length r → fixed s (take i r) ≡ true → (i < length r → is_constant s (get_or r i 0) ≡ false) → lead s r ≡ letters s (take i r)
  unfolding fixed all lead letters letters_of concat_map
  lead-of [] zero p h f = refl
  lead-of [] (suc i) p h f = absurd (omega arith)
  lead-of (a ∷ r) zero p h f = go (is_constant s a) (f (omega arith))
    where
      go : (b : Bool) → b ≡ false → ◌≡◌ {A = List ℕ} (elim b as (λ x. List ℕ) [ true ↦ text s a ++ lead s r | false ↦ [] ]) []
      go true e = clash refl e
      go false e = refl
  lead-of (a ∷ r) (suc i) p h f =
      go (is_constant s a) (both_left (is_constant s a) (all (is_constant s) (take i r)) h)
      (lead-of r i (omega arith) (both_right (is_constant s a) (all (is_constant s) (take i r)) h) (λ z. f (omega arith)))
    where
      go : (b : Bool) → b ≡ true → lead s r ≡ letters s (take i r) → ◌≡◌ {A = List ℕ} (elim b as (λ x. List ℕ) [ true ↦ text s a ++ lead s r | false ↦ [] ]) ((if b then text s a else []) ++ letters s (take i r))
      go true e g = ap (λ (x : List ℕ). text s a ++ x) g
      go false e g = clash e refl

  module _ (r : List ℕ) (i : ℕ) (x : FirstVariable s r i) where
    pub lead_is : lead s r ≡ letters s (take i r)
    lead_is = lead-of r i x.within x.before x.at

    pub lead-short : length (lead s r) ≤ length (letters s r)
    unfolding letters
    lead-short =
        let e = ap length lead_is in
        let f : letters s r ≡ letters s (take i r) ++ letters s (drop i r) = ap (letters s) (sym (take-append-drop i r)) ∙ concat_map-append (letters_of s) (take i r) (drop i r) in
        let g = ap length f ∙ length-append (letters s (take i r)) (letters s (drop i r)) in
        omega arith

-- ONE CLASS

pub pair_at_lem : (s : Store) (l : List ℕ) → all (is_string s) l ≡ true → (v : ℕ) → is_string s v ≡ true → (i : ℕ) → i < length l → Pair s (get_or l i 0) v
pair_at_lem s l e v f i b = record { one = every_at l i 0 (all_every _ l e) b; other = f }

-- THE FIT

over : (y a b : ℕ) → b < a → y + a ≡ b → ⊥
over y a b z e = omega arith

less : (y a b : ℕ) → y + a ≡ b → y ≡ b - a
less y a b e = omega arith

more : (y a b : ℕ) → a ≤ b → y ≡ b - a → y + a ≡ b
more y a b z e = omega arith

left_over : (y z x : ℕ) → y + z ≡ x → y ≡ x → z ≡ 0
left_over y z x e f = omega arith

no_rest : (y z x : ℕ) → y + z ≡ x → z ≡ 0 → y ≡ x
no_rest y z x e f = omega arith

module _ (w h : List ℕ) (c : State) (word side : List ℕ) (k l n : ℕ) (x : Spelled w h c) (p : l ≡ length (letters (termed w c) word)) (q : n ≡ length (letters (termed w c) side)) where
  abbrev s : Store
  s = read_in w h c

  long : l ≡ length (letters s word)
  long = p ∙ length_whole (lent w [] h [] []) c x.texts word

  wide : n ≡ length (letters s side)
  wide = q ∙ length_whole (lent w [] h [] []) c x.texts side

  pub fits-over : l < n → false ≡ fits s (letters s word) side k
  unfolding fits
  fits-over z =
      let a = long in let b = wide in
      sym (left_false _ _ (ne_eqb (k * forced s (letters s word) side k + length (letters s side)) (length (letters s word)) (over _ _ _ (omega arith))))

  module _ (z : n ≤ l) where
    span-length : (l - n) / k ≡ forced s (letters s word) side k
    span-length = ap (λ (y : ℕ). (y - n) / k) long ∙ ap (λ (y : ℕ). (length (letters s word) - y) / k) wide

    product : (l - n) / k * k ≡ k * forced s (letters s word) side k
    product = mul_comm ((l - n) / k) k ∙ ap (λ (y : ℕ). k * y) span-length

    apart : l - n ≡ length (letters s word) - length (letters s side)
    apart = ap (λ (y : ℕ). y - n) long ∙ ap (λ (y : ℕ). length (letters s word) - y) wide

    pub fits_uneven : ((l - n) % k ≡ 0 → ⊥) → false ≡ fits s (letters s word) side k
    unfolding fits
    fits_uneven f =
        sym (left_false _ _ (ne_eqb (k * forced s (letters s word) side k + length (letters s side)) (length (letters s word)) (λ e. f (left_over _ _ _ (div-add-mod' (l - n) k) (product ∙ less _ _ _ e ∙ sym apart)))))

    even : (l - n) % k ≡ 0 → k * forced s (letters s word) side k + length (letters s side) ≡ length (letters s word)
    even f = let a = long in let b = wide in more _ _ _ (omega arith) (sym product ∙ no_rest _ _ _ (div-add-mod' (l - n) k) f ∙ apart)

    module _ (i : ℕ) (first : FirstVariable (termed w c) side i) (place : ℕ) (g : place ≡ length (letters (termed w c) (take i side))) where
      read_in-first : FirstVariable s side i
      unfolding fixed
      read_in-first = record { within = first.within; before = first.before; at = first.at }

      place_is : place ≡ length (lead s side)
      place_is =
          g
          ∙ length_whole (lent w [] h [] []) c x.texts (take i side) ∙ ap length (sym (lead_is s side i read_in-first))

      pub span-there : Tiling w h c word (record { atom = 0; place = place }) ((l - n) / k)
      span-there =
          let a = long in let b = wide in
          let e = place_is in
          let f = lead-short s side i read_in-first in
          let o = div-le_self (l - n) k in
          let y = length-drop place (letters s word) in
          record { known = x; fits = omega arith }

      pub fits_tiled : (l - n) % k ≡ 0 → (b : Bool) → b ≡ same_word (filled s (take ((l - n) / k) (rest s word 0 place)) side) (letters s word) → b ≡ fits s (letters s word) side k
      unfolding fits first_span
      fits_tiled f b e =
          and-next _ _ b (eq-eqb _ (length (letters s word)) (even f))
          (e ∙ ap (λ (u : List ℕ). same_word (filled s u side) (letters s word))
          (ap (λ (y : ℕ). take y (drop place (letters s word))) span-length ∙ ap (λ (y : ℕ). take (forced s (letters s word) side k) (drop y (letters s word))) place_is))

-- the fit reads terms and characters alone
module _ (t e h rs ks : List ℕ) (c : State) where
  lead-whole : (r : List ℕ) → lead (read_in t h c) r ≡ lead (store_of (lent t e h rs ks) c) r
  unfolding lead
  lead-whole [] = refl
  lead-whole (a ∷ r) = go (is_constant (read_in t h c) a) (lead-whole r)
    where
      go : (b : Bool) → lead (read_in t h c) r ≡ lead (store_of (lent t e h rs ks) c) r
          → ◌≡◌ {A = List ℕ} (elim b as (λ x. List ℕ) [ true ↦ text (read_in t h c) a ++ lead (read_in t h c) r | false ↦ [] ]) (elim b as (λ x. List ℕ) [ true ↦ text (read_in t h c) a ++ lead (store_of (lent t e h rs ks) c) r | false ↦ [] ])
      go true g = ap (λ (x : List ℕ). text (read_in t h c) a ++ x) g
      go false g = refl

  pub fits_whole : (word side : List ℕ) (k : ℕ) → fits (read_in t h c) (letters (read_in t h c) word) side k ≡ fits (store_of (lent t e h rs ks) c) (letters (store_of (lent t e h rs ks) c) word) side k
  unfolding fits first_span filled letters letters_of
  fits_whole word side k =
      let s = read_in t h c in
      let w = letters s word in
      ap (λ (x : List ℕ). eqb (k * forced s w side k + length (letters s side)) (length w) && same_word (filled s (take (forced s w side k) (drop (length x) w)) side) w) (lead-whole side)
