-- The walk of a side over the joined word.
use Rattle.std.specs.Prelude.{if◌then◌else◌}
use mathlib.Core.Path.{◌≡◌, refl, sym, ap, ◌∙◌}
use mathlib.Core.Bool.{Bool, true, false, not, false≢true}
use mathlib.Core.List.{List, [], ◌∷◌, ◌++◌}
use Prim.Native.Nat.{ℕ, zero, suc, ◌+◌, ◌-◌, ◌<◌, ◌≤◌}
use native.Mathlib.Numerals.{add-one}
use native.Mathlib.Omega.{arith}
use lib.ListN.{length, get_or, take, drop, length-append, length-drop, drop_of_length-le}
use lib.Seq.{drop-cons, take-append_seam}
use lib.Dec.{eqb, leb, T, nleb→lt}
use borrow.Author.Tests.{eqb-true, eq-eqb, ne_eqb, not-true, not-false, leb-true}
use Rattle.records.specs.declared.State.{State}
use Rattle.records.specs.Lists.{concat_map, same_word}
use Rattle.records.specs.Store.{Store, kind, is_constant, text}
use Rattle.records.specs.View.{char_limit, read_in, termed, term_at}
use Rattle.records.proofs.Lists.{decide, left_false, clash}
use Rattle.sides.specs.declared.letters.Cursor.{Cursor}
use Rattle.sides.specs.Wordeq.{letters_of, letters, filled}
use Rattle.sides.specs.Working.Sides.{Texts, Spelled, rest, next, There, Settled, heads_agree, fill_count, fill_start, fill_source, Tiling}
use Rattle.sides.proofs.Refines.SideLetters.{letters-at, count-some}
use Rattle.sides.proofs.Refines.SideWalk.{count_same, place-limit, rest_end, heads-left, heads-right}

-- ONE CHARACTER

eqb_flip : (x y : ℕ) → eqb x y ≡ false → eqb y x ≡ false
eqb_flip x y e = ne_eqb y x (λ z. clash (eq-eqb x y (sym z)) e)

pub heads-differ : (n : ℕ) (p q r : List ℕ) (b : Bool) → 0 < n → n ≤ length q → b ≡ heads_agree p q → not b ≡ true → same_word (take n q ++ r) p ≡ false
unfolding heads_agree same_word
heads-differ zero p q r b l m e d = absurd (omega arith)
heads-differ (suc n) p [] r b l m e d = absurd (omega arith)
heads-differ (suc n) [] (y ∷ q) r b l m e d = refl
heads-differ (suc n) (z ∷ p) (y ∷ q) r b l m e d = left_false _ _ (eqb_flip z y (sym e ∙ not-true b d))

pub heads-same : (n : ℕ) (p q r : List ℕ) (b : Bool) → 0 < n → n ≤ length q → b ≡ heads_agree p q → not b ≡ false
    → same_word (take n q ++ r) p ≡ same_word (take (n - 1) (drop 1 q) ++ r) (drop 1 p)
unfolding heads_agree same_word
heads-same zero p q r b l m e d = absurd (omega arith)
heads-same (suc n) p [] r b l m e d = absurd (omega arith)
heads-same (suc n) [] (y ∷ q) r b l m e d = clash (not-false b d) e
heads-same (suc n) (z ∷ p) (y ∷ q) r b l m e d =
    let i = eqb-true z y (sym e ∙ not-false b d) in
    let j : suc n - 1 ≡ n = omega arith in
    rw (eq-eqb y z (sym i), j)

drop-next : (j : ℕ) (l : List ℕ) → drop (j + 1) l ≡ drop 1 (drop j l)
drop-next j l = rw add-one (go j l)
  where
    go : (j : ℕ) (l : List ℕ) → drop (suc j) l ≡ drop 1 (drop j l)
    go zero l = refl
    go (suc j) [] = refl
    go (suc j) (x ∷ l) = go j l

-- ONE ATOM

pub count-constant : (w : List ℕ) (c : State) (a k m v r : ℕ) → k ≡ kind (termed w c) a → k ≡ 1 → Texts w c → v ≡ (term_at w a).second → r ≡ v → r ≡ fill_count (termed w c) a m
count-constant w c a k m v r e n x f g = rw (eq-eqb (kind (termed w c) a) 1 (sym e ∙ n)) (count-some w c a k v r x e n f g)

filled_at : (s : Store) (u side : List ℕ) (i : ℕ) → i < length side
    → filled s u (drop i side) ≡ (if is_constant s (get_or side i 0) then text s (get_or side i 0) else u) ++ filled s u (drop (suc i) side)
unfolding filled concat_map
filled_at s u side i l = rw (drop-cons side i 0 l)

filled-end : (s : Store) (u side : List ℕ) (i : ℕ) → length side ≤ i → filled s u (drop i side) ≡ []
unfolding filled concat_map
filled-end s u side i l = rw (drop_of_length-le side l)

none_left : same_word [] [] ≡ true
unfolding same_word
none_left = refl

some_left : (w : List ℕ) → 0 < length w → same_word [] w ≡ false
unfolding same_word
some_left [] l = absurd (omega arith)
some_left (x ∷ w) l = refl

leb-false : (m n : ℕ) → leb m n ≡ false → n < m
leb-false m n e = nleb→lt m n (go (leb m n) e)
  where
    go : (b : Bool) → b ≡ false → T (not b)
    go false e = tt
    go true e = absurd (false≢true (sym e))

letters-text : (s : Store) (a : ℕ) → is_constant s a ≡ true → letters_of s a ≡ text s a
unfolding letters_of
letters-text s a z = rw z

-- THE WALK

module _ (w h : List ℕ) (c : State) (word side : List ℕ) (v : Cursor) (m : ℕ) where
  abbrev pub first : List ℕ
  first = take m (rest (read_in w h c) word v.atom v.place)

  abbrev pub whole : Bool
  whole = same_word (filled (read_in w h c) first side) (letters (read_in w h c) word)

  -- the side from atom i on against the word from k on
  pub record Walked (k : Cursor) (i : ℕ) : Type 0 where
    pub left : same_word (filled (read_in w h c) first (drop i side)) (rest (read_in w h c) word k.atom k.place) ≡ whole

  -- the walk came to the end of the side
  module _ (k x : Cursor) (i : ℕ) (b : Bool) (t : Texts w c) (a : Walked k i) (l : length side ≤ i) (p : Settled w c word k x) (e : b ≡ leb (length word) x.atom) where
    over : leb (length word) x.atom ≡ true → b ≡ same_word [] (rest (read_in w h c) word x.atom x.place)
    over y = e ∙ y ∙ sym (ap (same_word []) (rest_end (read_in w h c) word x.atom x.place (leb-true (length word) x.atom y)) ∙ none_left)

    more : leb (length word) x.atom ≡ false → b ≡ same_word [] (rest (read_in w h c) word x.atom x.place)
    more y =
        let s = read_in w h c in
        let o : x.atom < length word = leb-false (length word) x.atom y in
        let q = p.at.there o in
        let r = count_same w h c (get_or word x.atom 0) t in
        let g = ap length (letters-at s word x.atom o) ∙ length-append (letters_of s (get_or word x.atom 0)) (letters s (drop (suc x.atom) word)) in
        let d = length-drop x.place (letters s (drop x.atom word)) in
        e ∙ y ∙ sym (some_left (rest s word x.atom x.place) (omega arith))

    pub walked_end : b ≡ whole
    walked_end =
        decide (leb (length word) x.atom) over more
        ∙ ap (same_word []) (p.same h)
        ∙ sym (ap (λ (z : List ℕ). same_word z (rest (read_in w h c) word k.atom k.place)) (filled-end (read_in w h c) first side i l))
        ∙ a.left

  -- what is left of the filling of atom i: n - j characters of the source from x on
  pub record Filling (i n : ℕ) (source : List ℕ) (k x : Cursor) (j : ℕ) : Type 0 where
    pub within : j ≤ n
    pub has : n - j ≤ length (rest (read_in w h c) source x.atom x.place)
    pub left : same_word (take (n - j) (rest (read_in w h c) source x.atom x.place) ++ filled (read_in w h c) first (drop (suc i) side)) (rest (read_in w h c) word k.atom k.place) ≡ whole

  module _ (i n : ℕ) (source : List ℕ) (k x : Cursor) (j : ℕ) (f : Filling i n source k x j) where
    pub filling_end : n ≤ j → Walked k (i + 1)
    filling_end l = record { left = rw add-one (let e : n - j ≡ 0 = omega arith in rw e at f.left) }

    module _ (l : j < n) (k' x' : Cursor) (p : Settled w c word k k') (q : Settled w c source x x') (b : Bool)
        (e : b ≡ heads_agree (rest (read_in w h c) word k'.atom k'.place) (rest (read_in w h c) source x'.atom x'.place)) where
      pub filling_differs : not b ≡ true → false ≡ whole
      filling_differs d =
          sym (heads-differ (n - j) _ _ (filled (read_in w h c) first (drop (suc i) side)) b (omega arith) f.has (rw (p.same h, q.same h) at e) d) ∙ f.left

      one_appended : not b ≡ false → Filling i n source (next k') (next x') (j + 1)
      one_appended d =
          let g = heads-same (n - j) _ _ (filled (read_in w h c) first (drop (suc i) side)) b (omega arith) f.has (rw (p.same h, q.same h) at e) d in
          let y : n - (j + 1) ≡ n - j - 1 = omega arith in
          let r = drop-next x'.place (letters (read_in w h c) (drop x'.atom source)) ∙ ap (drop 1) (q.same h) in
          let t = drop-next k'.place (letters (read_in w h c) (drop k'.atom word)) ∙ ap (drop 1) (p.same h) in
          let o = f.has in
          let z = ap length r ∙ length-drop 1 (rest (read_in w h c) source x.atom x.place) in
          record {
            within = omega arith;
            has = omega arith;
            left = rw (y, r, t) (sym g ∙ f.left);
          }

      pub filling_one : not b ≡ false → (k'' x'' : Cursor) → k'' ≡ next k' → x'' ≡ next x' → Filling i n source k'' x'' (j + 1)
      filling_one d k'' x'' a z = rw (a, z) (one_appended d)

  pub filling_start : (k : Cursor) (i a n : ℕ) (x : Cursor) (source : List ℕ) → Walked k i → Tiling w h c word v m → i < length side → a ≡ get_or side i 0
      → n ≡ fill_count (termed w c) a m → x ≡ fill_start (termed w c) a i v → source ≡ fill_source (termed w c) a side word → Filling i n source k x 0
  filling_start k i a n x source g t l e p q r =
      decide (is_constant (termed w c) a) (λ z. constant z) (λ z. variable z)
    where
      s : Store
      s = read_in w h c

      fill : ℕ → List ℕ
      fill b = if is_constant s b then text s b else first

      parted : filled s first (drop i side) ≡ fill a ++ filled s first (drop (suc i) side)
      parted = filled_at s first side i l ∙ ap (λ (b : ℕ). fill b ++ filled s first (drop (suc i) side)) (sym e)

      made : (ys : List ℕ) → rest s source x.atom x.place ≡ ys → n ≤ length ys → take n ys ≡ fill a → Filling i n source k x 0
      made ys o u d =
          let y : n - 0 ≡ n = omega arith in
          record {
            within = omega arith;
            has = rw (y, o) u;
            left = rw (y, o, d) (ap (λ (b : List ℕ). same_word b (rest s word k.atom k.place)) (sym parted) ∙ g.left);
          }

      variable : is_constant (termed w c) a ≡ false → Filling i n source k x 0
      variable z =
          let p' = rw z at p in
          let q' = rw z at q in
          let r' = rw z at r in
          made (rest s word v.atom v.place) (rw (q', r')) (rw p' t.fits) (rw (p', z))

      constant : is_constant (termed w c) a ≡ true → Filling i n source k x 0
      constant z =
          let p' = rw z at p in
          let q' = rw z at q in
          let r' = rw z at r in
          let y : n ≡ length (letters_of s a) = p' ∙ sym (count_same w h c a t.known.texts) in
          let o = letters-at s side i l in
          made (letters_of s a ++ letters s (drop (suc i) side)) (rw (q', r') (rw (sym e) at o))
          (let u = length-append (letters_of s a) (letters s (drop (suc i) side)) in omega arith)
          (rw (y, take-append_seam, z) (letters-text s a z))

module _ (w h : List ℕ) (c : State) (word source : List ℕ) (k x : Cursor) (b : Bool) (t : Spelled w h c)
    (e : b ≡ heads_agree (rest (read_in w h c) word k.atom k.place) (rest (read_in w h c) source x.atom x.place)) (d : not b ≡ false) where
  pub word_limit_lem : There w c word k → There w c source x → k.place ≤ char_limit
  word_limit_lem p q = decide (leb (length word) k.atom)
      (λ y. clash (not-false b d) (e ∙ sym (heads-left (read_in w h c) word _ k.atom k.place (leb-true (length word) k.atom y))))
      (λ y. let z = place-limit w h c word k t p (leb-false (length word) k.atom y) in omega arith)

  pub source_limit : There w c word k → There w c source x → x.place ≤ char_limit
  source_limit q p = decide (leb (length source) x.atom)
      (λ y. clash (not-false b d) (e ∙ sym (heads-right (read_in w h c) source _ x.atom x.place (leb-true (length source) x.atom y))))
      (λ y. let z = place-limit w h c source x t p (leb-false (length source) x.atom y) in omega arith)
