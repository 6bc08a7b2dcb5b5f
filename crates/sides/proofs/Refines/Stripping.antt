-- The loops of step 1: same heads and tails counted, and whether a match needs a reason; and that the pairs explained are the matches.
use mathlib.Core.Path.{◌≡◌, refl, sym, ap, ◌∙◌}
use mathlib.Core.Bool.{Bool, true, false, not, ◌&&◌, ◌||◌}
use mathlib.Core.List.{List, [], ◌∷◌, ◌++◌, reverse}
use Prim.Native.Nat.{ℕ, zero, suc, ◌+◌, ◌-◌, ◌≤◌, ◌<◌, min}
use native.Mathlib.Numerals.{add-one}
use native.Mathlib.Omega.{arith}
use lib.ListN.{length, take, drop, get_or, length-drop, length-reverse, drop_of_length-le}
use lib.Seq.{take_all, drop-cons, drop-drop}
use lib.Dec.{eqb}
use borrow.Author.Tests.{not-true, not-false, ne_eqb}
use Rattle.records.specs.declared.State.{State}
use Rattle.std.specs.Prelude.{Result, Ok, Err}
use Rattle.records.specs.declared.refusal.Refusal.{Refusal}
use Rattle.records.specs.Lists.{all, any}
use Rattle.records.specs.Store.{Store, Out, ok, and_then, give, is_constant, is_string}
use Rattle.records.specs.View.{Lent, lent, store_of, read_in}
use Rattle.records.specs.Working.Audited.{Ready}
use Rattle.records.specs.Calls.{added}
use Rattle.records.specs.Working.Doing.{Working}
use Rattle.records.proofs.IndexStores.{keeps-terms}
use Rattle.records.proofs.Lists.{both_true, decide, all_every, every_at, all_take, all_drop, any_append, or_left, drop_head}
use Rattle.records.proofs.Doing.{working_stopped, working_at, working_is, working_answer}
use Rattle.records.proofs.Works.{one_store}
use Rattle.engine.specs.Explain.{explain_arguments}
use Rattle.sides.specs.declared.Rest.{Rest}
use Rattle.sides.specs.Wordeq.{same, same_heads, same_tails, matches, inner, rest, explain_matches, needs_reason, strip, nf_equal, nf_explain}
use Rattle.sides.specs.Working.Stripping.{Pair, way, part, Finds, Strips, Needs, Asked}
use Rattle.sides.proofs.FrontOrEnd.{way-front, way_back, way-length, way_twice, way_every, way-all, way-take, way-drop}
use Rattle.sides.proofs.Strip.{plainly, same_class_lem, matches-append, off_heads, Match}
use Rattle.sides.proofs.Equal.{pairs_match, equal-lengths, equal-heads, heads-all, heads-alone, alone-equal, explain-equal-gives}
use Rattle.sides.proofs.Refines.AddingReasons.{Going, going_none, going_strings, going_same, kept_down}

-- what is the same is read in the terms and the characters
pub same_read : (t e h ks rs : List ℕ) (c : State) (a b : ℕ) → same (store_of (lent t e h rs ks) c) a b ≡ same (read_in t h c) a b
unfolding same
same_read t e h ks rs c a b = refl

-- ONE MATCH THAT MAY NEED A REASON

module _ (t e h r ks : List ℕ) (c : State) (a b : ℕ) where
  abbrev s : Store
  s = store_of (lent t e h r ks) c

  module _ (d : a ≡ b → ⊥) (x : Bool) (i : x ≡ (is_constant s a && is_constant s b)) where
    module _ (j : x ≡ false) where
      apart : plainly s a b ≡ false
      apart = rw (ne_eqb a b d, sym i ∙ j)

      pub need_arguments : Pair (read_in t h c) a b → same (read_in t h c) a b ≡ true → explain_arguments a b s ≡ true
      need_arguments p k = both_true _ _ (both_true _ _ p.one p.other) (same_class_lem s a b (same_read t e h ks r c a b ∙ k) apart)

-- PARTS

module _ (l : List ℕ) where
  pub part-whole : (i : ℕ) → part l i (length l) ≡ drop i l
  part-whole i = take_all (length l - i) (drop i l) (rw (length-drop i l) (omega arith))

  -- the last n, from the end on, are the first n from the end on of the part from place f on
  part-back : (f n e : ℕ) → f + n ≤ length l → e ≡ length l - n → way true (part l e (length l)) ≡ take n (way true (drop f l))
  part-back f n e h i =
      let d = length-drop f l in
      ap (way true) (part-whole e ∙ ap (λ (x : ℕ). drop x l) (place (length l) (length (drop f l)) d i) ∙ sym (drop-drop (length (drop f l) - n) f l))
      ∙ sym (way-take (drop f l) n (omega arith))
    where
      place : (m k : ℕ) → k ≡ m - f → e ≡ m - n → e ≡ f + (k - n)
      place m k p q = omega arith

  -- a list without n heads and k tails is a part of it
  inner-part : (n k : ℕ) → n + k ≤ length l → inner n k l ≡ part l n (length l - k)
  inner-part n k h =
      let d = length-drop n l in
      let z : length (drop n l) - k ≡ length l - k - n = omega arith in
      sym (way_back (drop k (reverse (drop n l)))) ∙ ap (λ (x : List ℕ). way true (drop k x)) (sym (way_back (drop n l)))
      ∙ ap (way true) (way-drop (drop n l) k (omega arith)) ∙ way_twice true (take (length (drop n l) - k) (drop n l)) ∙ ap (λ (x : ℕ). take x (drop n l)) z

-- THE SAME HEADS

heads-more : (s : Store) (a b : ℕ) (l r : List ℕ) → same s a b ≡ true → same_heads s (a ∷ l) (b ∷ r) ≡ (a, b) ∷ same_heads s l r
unfolding same_heads
heads-more s a b l r e = ap (λ (x : Bool). elim x [ true ↦ (a, b) ∷ same_heads s l r | false ↦ [] ]) e

heads-stop : (s : Store) (a b : ℕ) (l r : List ℕ) → same s a b ≡ false → same_heads s (a ∷ l) (b ∷ r) ≡ []
unfolding same_heads
heads-stop s a b l r e = ap (λ (x : Bool). elim x [ true ↦ (a, b) ∷ same_heads s l r | false ↦ [] ]) e

heads-none : (s : Store) (l r : List ℕ) → min (length l) (length r) ≡ 0 → same_heads s l r ≡ []
unfolding same_heads
heads-none s [] r e = refl
heads-none s (a ∷ l) [] e = refl
heads-none s (a ∷ l) (b ∷ r) e = absurd (omega arith)

heads-short : (s : Store) (l r : List ℕ) → length (same_heads s l r) ≤ min (length l) (length r)
unfolding same_heads
heads-short s [] r = omega arith
heads-short s (a ∷ l) [] = omega arith
heads-short s (a ∷ l) (b ∷ r) = go (same s a b) (heads-short s l r)
  where
    go : (x : Bool) → length (same_heads s l r) ≤ min (length l) (length r) → length {A = ℕ × ℕ} (elim x [ true ↦ (a, b) ∷ same_heads s l r | false ↦ [] ]) ≤ min (length (a ∷ l)) (length (b ∷ r))
    go true h = omega arith
    go false h = omega arith

tails-short : (s : Store) (n : ℕ) (l r : List ℕ) → length (same_tails s n l r) ≤ min (length l - n) (length r - n)
unfolding same_tails
tails-short s n l r = rw (length-reverse (drop n l), length-reverse (drop n r), length-drop n l, length-drop n r) at (heads-short s (reverse (drop n l)) (reverse (drop n r)))

-- the match at a place is of the two atoms there
heads-at : (s : Store) (l r : List ℕ) (i : ℕ) → i < length (same_heads s l r) → get_or (same_heads s l r) i (0, 0) ≡ (get_or l i 0, get_or r i 0)
unfolding same_heads
heads-at s [] r i h = absurd (omega arith)
heads-at s (a ∷ l) [] i h = absurd (omega arith)
heads-at s (a ∷ l) (b ∷ r) i h = go (same s a b) i h (heads-at s l r)
  where
    go : (x : Bool) (i : ℕ) → i < length {A = ℕ × ℕ} (elim x [ true ↦ (a, b) ∷ same_heads s l r | false ↦ [] ]) → ((j : ℕ) → j < length (same_heads s l r) → get_or (same_heads s l r) j (0, 0) ≡ (get_or l j 0, get_or r j 0))
        → get_or {A = ℕ × ℕ} (elim x [ true ↦ (a, b) ∷ same_heads s l r | false ↦ [] ]) i (0, 0) ≡ (get_or (a ∷ l) i 0, get_or (b ∷ r) i 0)
    go true zero k f = refl
    go true (suc i) k f = f i (omega arith)
    go false i k f = absurd (omega arith)

-- in two stores of which the same is the same
module _ (s s' : Store) (f : (a b : ℕ) → same s a b ≡ same s' a b) where
  heads-by : (l r : List ℕ) → same_heads s l r ≡ same_heads s' l r
  unfolding same_heads
  heads-by [] r = refl
  heads-by (a ∷ l) [] = refl
  heads-by (a ∷ l) (b ∷ r) =
      ap (λ (x : Bool). elim x [ true ↦ (a, b) ∷ same_heads s l r | false ↦ [] ]) (f a b)
      ∙ ap (λ (m : List (ℕ × ℕ)). elim (same s' a b) [ true ↦ (a, b) ∷ m | false ↦ [] ]) (heads-by l r)

  tails-by : (n : ℕ) (l r : List ℕ) → same_tails s n l r ≡ same_tails s' n l r
  unfolding same_tails
  tails-by n l r = heads-by (reverse (drop n l)) (reverse (drop n r))

  matches-by : (l r : List ℕ) → matches s l r ≡ matches s' l r
  matches-by l r =
      ap (λ (m : List (ℕ × ℕ)). m ++ same_tails s (length m) l r) (heads-by l r)
      ∙ ap (λ (m : List (ℕ × ℕ)). same_heads s' l r ++ m) (tails-by (length (same_heads s' l r)) l r)

  pub rest-by : (l r : List ℕ) → rest s l r ≡ rest s' l r
  unfolding rest
  rest-by l r =
      ap (λ (m : List (ℕ × ℕ)). (inner (length m) (length (same_tails s (length m) l r)) l, inner (length m) (length (same_tails s (length m) l r)) r)) (heads-by l r)
      ∙ ap (λ (m : List (ℕ × ℕ)). (inner (length (same_heads s' l r)) (length m) l, inner (length (same_heads s' l r)) (length m) r)) (tails-by (length (same_heads s' l r)) l r)

-- COUNTING

-- i matches are counted: with those of what is left they are all
module _ (s : Store) (l r : List ℕ) (tail : Bool) where
  pub record Counted (i : ℕ) : Type 0 where
    pub sum : i + length (same_heads s (drop i (way tail l)) (drop i (way tail r))) ≡ length (same_heads s (way tail l) (way tail r))

  module _ (n : ℕ) (z : n ≡ min (length l) (length r)) {i : ℕ} (k : Counted i) where
    least : n ≡ min (length (way tail l)) (length (way tail r))
    least = rw (way-length tail l, way-length tail r) z

    pub count_all : n ≤ i → n ≡ length (same_heads s (way tail l) (way tail r))
    count_all q =
        let m = least in
        let a = length-drop i (way tail l) in
        let b = length-drop i (way tail r) in
        let e = ap length (heads-none s (drop i (way tail l)) (drop i (way tail r)) (omega arith)) in
        let j = k.sum in
        let h = heads-short s (way tail l) (way tail r) in
        omega arith

    module _ (h : i < n) {a b : ℕ} (p : a ≡ get_or (way tail l) i 0) (q : b ≡ get_or (way tail r) i 0) (x : Bool) (f : x ≡ same s a b) where
      one : drop i (way tail l) ≡ a ∷ drop (i + 1) (way tail l)
      one = let m = least in drop_head (way tail l) i (omega arith) ∙ ap (λ (y : ℕ). y ∷ drop (i + 1) (way tail l)) (sym p)

      other : drop i (way tail r) ≡ b ∷ drop (i + 1) (way tail r)
      other = let m = least in drop_head (way tail r) i (omega arith) ∙ ap (λ (y : ℕ). y ∷ drop (i + 1) (way tail r)) (sym q)

      pub count_stop : not x ≡ true → i ≡ length (same_heads s (way tail l) (way tail r))
      count_stop d =
          let e : length (same_heads s (drop i (way tail l)) (drop i (way tail r))) ≡ 0 =
          rw (one, other) (ap length (heads-stop s a b (drop (i + 1) (way tail l)) (drop (i + 1) (way tail r)) (sym f ∙ not-true x d))) in
          let j = k.sum in
          omega arith

      pub count_turn : not x ≡ false → Counted (i + 1)
      count_turn d =
          let e : length (same_heads s (drop i (way tail l)) (drop i (way tail r))) ≡ suc (length (same_heads s (drop (i + 1) (way tail l)) (drop (i + 1) (way tail r)))) =
          rw (one, other) (ap length (heads-more s a b (drop (i + 1) (way tail l)) (drop (i + 1) (way tail r)) (sym f ∙ not-false x d))) in
          let j = k.sum in
          record { sum = omega arith }

pub below_left : (n a b i : ℕ) → n ≡ min a b → i < n → i < a
below_left n a b i e h = omega arith

pub below_right : (n a b i : ℕ) → n ≡ min a b → i < n → i < b
below_right n a b i e h = omega arith

-- lists compared by their same heads counted
module _ (s : Store) (l r : List ℕ) where
  pub unequal-lengths : (length l ≡ length r → ⊥) → false ≡ nf_equal s l r
  unequal-lengths d = decide (nf_equal s l r) (λ h. absurd (d (equal-lengths s l r h))) sym

  pub equal-counted : (n : ℕ) → n ≡ length (same_heads s (way false l) (way false r)) → length l ≡ length r → eqb n (length l) ≡ nf_equal s l r
  unfolding way
  equal-counted n e h = rw e (heads-all s l r h)

-- WHETHER A PAIR NEEDS A REASON

-- the pairs of two lists that are the same throughout, the first i of which need no reason
pub record Needing (m : Lent) (c : State) (ps : List (ℕ × ℕ)) (i : ℕ) : Type 0 where
  pub is : any (needs_reason (store_of m c)) (drop i ps) ≡ any (needs_reason (store_of m c)) ps

module _ (m : Lent) (c : State) (s : Store) (l r : List ℕ) (tail : Bool) (h : nf_equal s (way tail l) (way tail r) ≡ true) where
  abbrev pairs : List (ℕ × ℕ)
  pairs = same_heads s (way tail l) (way tail r)

  all-pairs : length pairs ≡ length l
  all-pairs = equal-heads s (way tail l) (way tail r) h ∙ way-length tail l

  pub needing_end : {i : ℕ} → Needing m c pairs i → length l ≤ i → Needs m c pairs false
  unfolding any
  needing_end {i} g z = record { is = rw (drop_of_length-le pairs {i = i} (let k = all-pairs in omega arith)) at g.is }

  pub equal-within : {i : ℕ} → i < length l → i < length r
  equal-within f = let e = equal-lengths s (way tail l) (way tail r) h in let x = way-length tail l in let y = way-length tail r in omega arith

  module _ {i : ℕ} (f : i < length l) {a b : ℕ} (p : a ≡ get_or (way tail l) i 0) (q : b ≡ get_or (way tail r) i 0) where
    placed : get_or pairs i (0, 0) ≡ (a, b)
    placed = rw (p, q) (heads-at s (way tail l) (way tail r) i (let k = all-pairs in omega arith))

    pub equal-same : all (is_string s) l ≡ true → all (is_string s) r ≡ true → same s a b ≡ true
    equal-same x y =
        let k = all-pairs in
        let m : Match s (a, b) = rw placed at (every_at pairs i (0, 0) (off_heads s (way tail l) (way tail r) (way_every tail (all_every _ l x)) (way_every tail (all_every _ r y))).matched (omega arith)) in
        m.alike

    module _ (g : Needing m c pairs i) (x : Bool) (e : x ≡ needs_reason (store_of m c) (a, b)) where
      opened : any (needs_reason (store_of m c)) ((a, b) ∷ drop (i + 1) pairs) ≡ any (needs_reason (store_of m c)) pairs
      opened =
          let k = all-pairs in
          ap (any (needs_reason (store_of m c))) (ap (λ (y : ℕ × ℕ). y ∷ drop (i + 1) pairs) (sym placed) ∙ rw (add-one i) (sym (drop-cons pairs i (0, 0) (omega arith)))) ∙ g.is

      pub needing_stop : x ≡ true → Needs m c pairs true
      unfolding any
      needing_stop z = record { is = rw (sym e ∙ z) at opened }

      pub needing_turn : x ≡ false → Needing m c pairs (i + 1)
      unfolding any
      needing_turn z = record { is = rw (sym e ∙ z) at opened }

-- WHAT IS STRIPPED

-- x and y are the same throughout, and ps are their pairs
pub record Throughout (s : Store) (x y : List ℕ) (ps : List (ℕ × ℕ)) : Type 0 where
  pub equal : nf_equal s x y ≡ true
  pub pairs : same_heads s x y ≡ ps

through : (s : Store) (x y : List ℕ) (n : ℕ) → n ≡ length (same_heads s x y) → Throughout s (take n x) (take n y) (same_heads s x y)
through s x y n e = rw e (record { equal = alone-equal s x y; pairs = heads-alone s x y })

pub through-length : {s : Store} (tail : Bool) (l r : List ℕ) {ps : List (ℕ × ℕ)} → Throughout s (way tail l) (way tail r) ps → length l ≡ length r
through-length {s} tail l r p = sym (way-length tail l) ∙ equal-lengths s (way tail l) (way tail r) p.equal ∙ way-length tail r

-- what is left of a list of string terms from a place on
pub part-strings : (p : ℕ → Bool) (l : List ℕ) (i : ℕ) → all p l ≡ true → all p (part l i (length l)) ≡ true
part-strings p l i h = all_take p (length l - i) (drop i l) (all_drop p i l h)

module _ (l r : List ℕ) where
  pub heads-least : (s : Store) (n : ℕ) → n ≡ length (same_heads s (way false l) (way false r)) → (n ≤ length l) × (n ≤ length r)
  unfolding way
  heads-least s n e = let k = heads-short s l r in (omega arith, omega arith)

  tails_are : (s : Store) (f : ℕ) → same_heads s (way true (part l f (length l))) (way true (part r f (length r))) ≡ same_tails s f l r
  unfolding same_tails way
  tails_are s f = rw (part-whole l f, part-whole r f)

  pub tails-least : (s : Store) (f n : ℕ) → n ≡ length (same_heads s (way true (part l f (length l))) (way true (part r f (length r)))) → (n ≤ length l) × (n ≤ length r)
  tails-least s f n e = let i = ap length (tails_are s f) in let k = tails-short s f l r in (omega arith, omega arith)

  -- what is left by its places
  pub found : (s : Store) (f n : ℕ) → f ≡ length (same_heads s (way false l) (way false r)) → n ≡ length (same_heads s (way true (part l f (length l))) (way true (part r f (length r))))
      → Finds s l r (record { from = f; lhs = length l - n; rhs = length r - n })
  unfolding rest way
  found s f n p i =
      let q = i ∙ ap length (tails_are s f) in
      let a = heads-short s l r in
      let b = tails-short s f l r in
      record {
        heads = p;
        left = ap (λ (x : ℕ). length l - x) q;
        right = ap (λ (x : ℕ). length r - x) q;
        is = places q ∙ pair_is (inner-part l f n (omega arith)) (inner-part r f n (omega arith));
        inside = (omega arith, omega arith, omega arith, omega arith);
      }
    where
      pair_is : {x x' y y' : List ℕ} → x ≡ x' → y ≡ y' → ◌≡◌ {A = List ℕ × List ℕ} (x, y) (x', y')
      pair_is i j = rw (i, j)

      places : n ≡ length (same_tails s f l r) → rest s l r ≡ (inner f n l, inner f n r)
      places q = rw (q, p)

  module _ {s : Store} (x : Rest) (f : Finds s l r x) where
    pub heads_through : Throughout s (way false (take x.from l)) (way false (take x.from r)) (same_heads s l r)
    heads_through = rw (way-front (take x.from l), way-front (take x.from r)) (through s l r x.from f.heads)

    pub tails_through : Throughout s (way true (part l x.lhs (length l))) (way true (part r x.rhs (length r))) (same_tails s x.from l r)
    unfolding same_tails
    tails_through =
        let a = heads-short s l r in
        let b = tails-short s x.from l r in
        let n = length (same_tails s x.from l r) in
        rw (part-back l x.from n x.lhs (let k = f.inside in omega arith) f.left, part-back r x.from n x.rhs (let k = f.inside in omega arith) f.right)
        (rw (way_back (drop x.from l), way_back (drop x.from r)) (through s (reverse (drop x.from l)) (reverse (drop x.from r)) n refl))

-- HEADS, THEN TAILS

module _ (t e h ks l r : List ℕ) {c : State} {rs : List ℕ} (x : Rest) (f : Finds (read_in t h c) l r x) (ready : Ready (lent t e h rs ks) c) (strings : all (is_string (read_in t h c)) l ≡ true)
    (others : all (is_string (read_in t h c)) r ≡ true) where
  abbrev heads : List (ℕ × ℕ)
  heads = same_heads (read_in t h c) l r

  abbrev tails : List (ℕ × ℕ)
  tails = same_tails (read_in t h c) x.from l r

  -- the pairs of two parts, explained as matches
  said : (tail : Bool) (p q : List ℕ) → all (is_string (read_in t h c)) p ≡ true → all (is_string (read_in t h c)) q ≡ true → {ps : List (ℕ × ℕ)}
      → Throughout (read_in t h c) (way tail p) (way tail q) ps → {d : State} {rs' : List ℕ} → Going t e h ks c rs d rs'
      → explain_matches ps (store_of (lent t e h rs' ks) d) ≡ nf_explain (way tail p) (way tail q) (store_of (lent t e h rs' ks) d)
  said tail p q u v z {d} {rs'} g =
      ap (λ (m : List (ℕ × ℕ)). explain_matches m (store_of (lent t e h rs' ks) d)) (sym z.pairs)
      ∙ pairs_match (read_in t h c) (way tail p) (way tail q) z.equal (store_of (lent t e h rs' ks) d) (going_same t e h ks g) g.ready.audited
      (way_every tail (all_every _ _ (going_strings t e h ks g p u)))
      (way_every tail (all_every _ _ (going_strings t e h ks g q v)))

  -- heads and then tails
  both-said : {o : Out (Unit {0})} → nf_explain (way false (take x.from l)) (way false (take x.from r)) (store_of (lent t e h rs ks) c) ≡ o
      → explain_matches (matches (read_in t h c) l r) (store_of (lent t e h rs ks) c) ≡ and_then (λ (u : Unit {0}). explain_matches tails) o
  both-said {o} q =
      ap (λ (n : ℕ). explain_matches (heads ++ same_tails (read_in t h c) n l r) (store_of (lent t e h rs ks) c)) (sym f.heads)
      ∙ matches-append heads tails (store_of (lent t e h rs ks) c)
      ∙ ap (and_then (λ (u : Unit {0}). explain_matches tails)) (said false (take x.from l) (take x.from r) (all_take _ x.from l strings) (all_take _ x.from r others) (heads_through l r x f) (going_none t e h ks ready) ∙ q)

  abbrev first : State → Out (Unit {0}) → List ℕ → Type 0
  first d o rs₁ = Working (nf_explain (way false (take x.from l)) (way false (take x.from r))) (lent t e h rs ks) (lent t e h rs₁ ks) d o

  module _ (rs₁ : List ℕ) where
    pub both-refused : (k : Refusal) → first c (added (Err k) (lent t e h rs₁ ks)) rs₁
        → Working (explain_matches (matches (read_in t h c) l r)) (lent t e h rs ks) (lent t e h rs₁ ks) c (added (Err k) (lent t e h rs₁ ks))
    both-refused k w = working_stopped (both-said w.says) w.kept

    module _ (d : State) (w : first c (added (Ok d) (lent t e h rs₁ ks)) rs₁) where
      pub heads-going : Going t e h ks c rs d rs₁
      heads-going = record {
        ready = w.ready d tt refl;
        added =
            (explain-equal-gives (way false (take x.from l)) (way false (take x.from r)) (store_of (lent t e h rs ks) c) ready.audited
            (way-all _ false _ (all_take _ x.from l strings)) (way-all _ false _ (all_take _ x.from r others)) (store_of (lent t e h rs₁ ks) d) tt w.says).added;
        kept = w.kept.store;
      }

      pub both-explained : (rs₂ : List ℕ) (o : Result State Refusal)
          → Working (nf_explain (way true (part l x.lhs (length l))) (way true (part r x.rhs (length r)))) (lent t e h rs₁ ks) (lent t e h rs₂ ks) d (added o (lent t e h rs₂ ks))
          → Working (explain_matches (matches (read_in t h c) l r)) (lent t e h rs ks) (lent t e h rs₂ ks) c (added o (lent t e h rs₂ ks))
      both-explained rs₂ o v = record {
        says = both-said w.says ∙ said true (part l x.lhs (length l)) (part r x.rhs (length r)) (part-strings _ l x.lhs strings) (part-strings _ r x.rhs others) (tails_through l r x f) heads-going ∙ v.says;
        kept = keeps-terms (kept_down t e h ks heads-going rs₂ v.kept.store) refl;
        ready = v.ready;
      }

-- WHETHER A MATCH NEEDS A REASON

module _ (t e h rs ks l r : List ℕ) (c : State) (x : Rest) (f : Finds (read_in t h c) l r x) where
  abbrev lent_now : Lent
  lent_now = lent t e h rs ks

  both_needed : (b : Bool) → b ≡ any (needs_reason (store_of lent_now c)) (same_heads (read_in t h c) l r ++ same_tails (read_in t h c) x.from l r)
      → Asked lent_now c l r x.from x.lhs x.rhs b
  both_needed b q = record {
    is = λ z. q
        ∙ ap (λ (n : ℕ). any (needs_reason (store_of lent_now c)) (same_heads (read_in t h c) l r ++ same_tails (read_in t h c) n l r)) f.heads
        ∙ ap (any (needs_reason (store_of lent_now c))) (sym (matches-by (store_of lent_now c) (read_in t h c) (same_read t e h ks rs c) l r));
  }

  module _ (b : Bool) (p : Needs lent_now c (same_heads (read_in t h c) (way false (take x.from l)) (way false (take x.from r))) b) where
    heads_need : b ≡ any (needs_reason (store_of lent_now c)) (same_heads (read_in t h c) l r)
    heads_need = p.is ∙ ap (any (needs_reason (store_of lent_now c))) (heads_through l r x f).pairs

    pub asked-heads : b ≡ true → Asked lent_now c l r x.from x.lhs x.rhs true
    asked-heads z = both_needed true (sym (any_append (needs_reason (store_of lent_now c)) (same_heads (read_in t h c) l r) (same_tails (read_in t h c) x.from l r) ∙ or_left _ _ (sym heads_need ∙ z)))

    pub asked-tails : b ≡ false → (d : Bool) → Needs lent_now c (same_heads (read_in t h c) (way true (part l x.lhs (length l))) (way true (part r x.rhs (length r)))) d
        → Asked lent_now c l r x.from x.lhs x.rhs d
    asked-tails z d q =
        both_needed d (q.is ∙ ap (any (needs_reason (store_of lent_now c))) (tails_through l r x f).pairs
        ∙ sym (any_append (needs_reason (store_of lent_now c)) (same_heads (read_in t h c) l r) (same_tails (read_in t h c) x.from l r)
        ∙ ap (λ (y : Bool). y || any (needs_reason (store_of lent_now c)) (same_tails (read_in t h c) x.from l r)) (sym heads_need ∙ z)))

-- STEP 1

module _ (t e h ks l r : List ℕ) (c : State) (rs rs₁ : List ℕ) (x : Rest) (f : Finds (read_in t h c) l r x) where
  abbrev entry : Store
  entry = store_of (lent t e h rs ks) c

  abbrev given : Result State Refusal → Type 0
  given y = Working (explain_matches (matches (read_in t h c) l r)) (lent t e h rs ks) (lent t e h rs₁ ks) c (added y (lent t e h rs₁ ks))

  explained : (y : Result State Refusal) → given y → Working (explain_matches (matches entry l r)) (lent t e h rs ks) (lent t e h rs₁ ks) c (added y (lent t e h rs₁ ks))
  explained y w = working_is (ap (λ (m : List (ℕ × ℕ)). explain_matches m entry) (matches-by entry (read_in t h c) (same_read t e h ks rs c) l r)) w

  stripping : (y : Result State Refusal) → given y → Working (strip l r) (lent t e h rs ks) (lent t e h rs₁ ks) c (and_then (λ u. give (rest entry l r)) (added y (lent t e h rs₁ ks)))
  unfolding strip
  stripping y w = working_is refl (working_answer (λ u. give (rest entry l r)) (λ u s s' x i. one_store i) (explained y w))

  pub strip-refused : (k : Refusal) → given (Err k) → Strips (lent t e h rs ks) (lent t e h rs₁ ks) c l r (Err k)
  strip-refused k w = record { is = stripping (Err k) w; inside = tt; needs = tt }

  pub strip-parts : (d : State) → given (Ok d) → (b : Bool) → Asked (lent t e h rs ks) c l r x.from x.lhs x.rhs b → Strips (lent t e h rs ks) (lent t e h rs₁ ks) c l r (Ok (record { counts = d; rest = x; needed = b }))
  strip-parts d w b a = record {
    is = working_at (ap (ok (store_of (lent t e h rs₁ ks) d)) (rest-by entry (read_in t h c) (same_read t e h ks rs c) l r ∙ f.is)) (stripping (Ok d) w);
    inside = f.inside;
    needs = a;
  }
