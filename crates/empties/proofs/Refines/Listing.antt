-- The loops that list the variables: each is compared with those listed, and one more is tried.
use mathlib.Core.Path.{◌≡◌, refl, sym, ap, ◌∙◌}
use mathlib.Core.Bool.{Bool, true, false, ◌||◌}
use mathlib.Core.List.{List, [], ◌∷◌, ◌++◌, append-nil, append_assoc}
use Prim.Native.Nat.{ℕ, ◌+◌, ◌≤◌, ◌<◌}
use native.Mathlib.Numerals.{add-one}
use native.Mathlib.Omega.{arith}
use lib.ListN.{length, take, drop, get_or, set, length-append, length-set, drop_of_length-le}
use lib.Seq.{drop-cons, take-suc-set, length-take-le}
use Rattle.records.specs.Lists.{all, any, one_more}
use Rattle.records.specs.Store.{Store, is_string, same_class}
use Rattle.records.proofs.Lists.{or_left, both_left, both_right, both_true, all_append, all_every, every_at}
use Rattle.sides.specs.Working.Stripping.{Pair}
use Rattle.empties.specs.Empties.{unmet}
use Rattle.empties.specs.Working.Listing.{tried, Starts}
use Rattle.empties.proofs.Unmet.{unmet-none, unmet-met, unmet-new}

-- IS_MET

module _ (s : Store) (v e : ℕ) (met : List ℕ) where
  -- each string term of them beside v
  pub met-empty : all (is_string s) (v ∷ e ∷ met) ≡ true → Pair s v e
  unfolding all
  met-empty h = record { one = both_left (is_string s v) _ h; other = both_left (is_string s e) _ (both_right (is_string s v) _ h) }

  pub met-pair : all (is_string s) (v ∷ e ∷ met) ≡ true → (i : ℕ) → i < length met → Pair s v (get_or met i 0)
  unfolding all
  met-pair h i n = record { one = both_left (is_string s v) _ h; other = every_at met i 0 (all_every (is_string s) met (both_right (is_string s e) _ (both_right (is_string s v) _ h))) n }

  pub met-first : (b : Bool) → b ≡ same_class s v e → b ≡ true → true ≡ any (same_class s v) (e ∷ met)
  unfolding any
  met-first b i h = sym (or_left (same_class s v e) _ (sym i ∙ h))

  module _ (b : Bool) (i : b ≡ same_class s v e) (h : b ≡ false) where
    pub met-later : (x : Bool) → x ≡ any (same_class s v) met → x ≡ any (same_class s v) (e ∷ met)
    unfolding any
    met-later x q = q ∙ sym (ap (λ (y : Bool). y || any (same_class s v) met) (sym i ∙ h))

-- PUT_UNMET

module _ (s : Store) (v e n : ℕ) (l : List ℕ) (h : n < length l) (b : Bool) (i : b ≡ any (same_class s v) (e ∷ take n l)) where
  pub put-met : b ≡ true → Starts l n (tried s e (take n l) v)
  unfolding tried
  put-met q = record { words = rw (sym i ∙ q); fits = omega arith }

  pub put-new : b ≡ false → Starts (set l n v) (n + 1) (tried s e (take n l) v)
  unfolding tried
  put-new q = record { words = rw (sym i ∙ q) (rw (add-one n) (take-suc-set l n v h)); fits = (let k = length-set l n v in omega arith) }

-- LIST_UNMET

-- what is listed so far, and what is left of the list
pub record Listing (s : Store) (e : ℕ) (side l : List ℕ) (i n : ℕ) : Type 0 where
  pub few : n ≤ i
  pub strings : all (is_string s) (e ∷ take n l) ≡ true
  pub rest : take n l ++ unmet s (e ∷ take n l) (drop i side) ≡ unmet s (e ∷ []) side

-- a variable tried, before those after it
tried-rest : (s : Store) (e : ℕ) (w : List ℕ) (v : ℕ) (l : List ℕ) → tried s e w v ++ unmet s (e ∷ tried s e w v) l ≡ w ++ unmet s (e ∷ w) (v ∷ l)
unfolding tried
tried-rest s e w v l = go (any (same_class s v) (e ∷ w)) refl
  where
    go : (b : Bool) → any (same_class s v) (e ∷ w) ≡ b → tried s e w v ++ unmet s (e ∷ tried s e w v) l ≡ w ++ unmet s (e ∷ w) (v ∷ l)
    go true h = rw (h, unmet-met s (e ∷ w) v l h)
    go false h = rw (h, unmet-new s (e ∷ w) v l h) (append_assoc w (v ∷ []) (unmet s (e ∷ one_more w v) l))

tried-few : (s : Store) (e : ℕ) (w : List ℕ) (v : ℕ) → length (tried s e w v) ≤ length w + 1
unfolding tried
tried-few s e w v = go (any (same_class s v) (e ∷ w)) refl
  where
    go : (b : Bool) → any (same_class s v) (e ∷ w) ≡ b → length (tried s e w v) ≤ length w + 1
    go true h = rw h (omega arith)
    go false h = let k = length-append w (v ∷ []) in rw h (omega arith)

tried-strings : (s : Store) (e : ℕ) (w : List ℕ) (v : ℕ) → all (is_string s) (e ∷ w) ≡ true → is_string s v ≡ true → all (is_string s) (e ∷ tried s e w v) ≡ true
unfolding tried all
tried-strings s e w v k j = go (any (same_class s v) (e ∷ w)) refl
  where
    go : (b : Bool) → any (same_class s v) (e ∷ w) ≡ b → all (is_string s) (e ∷ tried s e w v) ≡ true
    go true h = rw h k
    go false h = rw h (all_append (is_string s) (e ∷ w) (v ∷ []) ∙ both_true _ _ k (alone v j))
      where
        alone : (v : ℕ) → is_string s v ≡ true → all (is_string s) (v ∷ []) ≡ true
        alone v j = both_true _ _ j refl

module _ (s : Store) (e : ℕ) (side : List ℕ) (given : all (is_string s) (e ∷ side) ≡ true) where
  side_string : (i : ℕ) → i < length side → is_string s (get_or side i 0) ≡ true
  unfolding all
  side_string i h = every_at side i 0 (all_every (is_string s) side (both_right (is_string s e) _ given)) h

  pub listing_none : (l : List ℕ) → Listing s e side l 0 0
  unfolding all
  listing_none l = record { few = omega arith; strings = both_true _ _ (both_left (is_string s e) _ given) refl; rest = refl }

  module _ {l : List ℕ} {i n : ℕ} (g : Listing s e side l i n) where
    pub listing-strings : i < length side → all (is_string s) (get_or side i 0 ∷ e ∷ take n l) ≡ true
    unfolding all
    listing-strings h = both_true _ _ (side_string i h) g.strings

    pub listing-turn : i < length side → n ≤ length l → {l' : List ℕ} {r : ℕ} → Starts l' r (tried s e (take n l) (get_or side i 0)) → Listing s e side l' (i + 1) r
    listing-turn h k {l'} {r} x =
        let a = tried-few s e (take n l) (get_or side i 0) in
        let b = length-take-le n l k in
        let c = length-take-le r l' x.fits in
        let d = ap length x.words in
        let f = g.few in
        record {
          few = omega arith;
          strings = rw x.words (tried-strings s e (take n l) (get_or side i 0) g.strings (side_string i h));
          rest = rw x.words (tried-rest s e (take n l) (get_or side i 0) (drop (i + 1) side)
              ∙ ap (λ (w : List ℕ). take n l ++ unmet s (e ∷ take n l) w) (rw (add-one i) (sym (drop-cons side i 0 h))) ∙ g.rest);
        }

    pub listing_done : length side ≤ i → n ≤ length l → Starts l n (unmet s (e ∷ []) side)
    listing_done h k = record {
      words = sym (append-nil (take n l)) ∙ ap (λ (w : List ℕ). take n l ++ w) (sym (ap (unmet s (e ∷ take n l)) (drop_of_length-le side h) ∙ unmet-none s (e ∷ take n l))) ∙ g.rest;
      fits = k;
    }
