-- A list from its front on or from its end on: its length, its atoms, its parts.
use mathlib.Core.Path.{◌≡◌, refl, sym, ap, ◌∙◌}
use mathlib.Core.Bool.{Bool, true, false}
use mathlib.Core.List.{List, [], ◌∷◌, ◌++◌, append_assoc, reverse, reverse-append, reverse-cons, reverse-reverse}
use Prim.Native.Nat.{ℕ, suc, ◌-◌, ◌≤◌, ◌<◌}
use native.Mathlib.Omega.{arith}
use lib.ListN.{length, take, drop, get_or, length-drop, length-reverse, take-append-drop}
use lib.Seq.{take_at, drop_at, get_or_at, split_at}
use Rattle.records.specs.Lists.{all, Every, none_left, and}
use Rattle.records.proofs.Lists.{all_every, every_all, every_append}
use Rattle.sides.specs.Working.Stripping.{way}

pub way-front : (l : List ℕ) → way false l ≡ l
unfolding way
way-front l = refl

pub way_back : (l : List ℕ) → way true l ≡ reverse l
unfolding way
way_back l = refl

pub way-length : (tail : Bool) (l : List ℕ) → length (way tail l) ≡ length l
unfolding way
way-length false l = refl
way-length true l = length-reverse l

pub way_twice : (tail : Bool) (l : List ℕ) → way tail (way tail l) ≡ l
unfolding way
way_twice false l = refl
way_twice true l = reverse-reverse l

-- ATOMS

pub way-first : (l : List ℕ) (i : ℕ) → get_or (way false l) i 0 ≡ get_or l i 0
unfolding way
way-first l i = refl

pub way-last : (l : List ℕ) (i : ℕ) → i < length l → get_or (way true l) i 0 ≡ get_or l (length l - 1 - i) 0
unfolding way
way-last l i h =
    let j = length l - 1 - i in
    let d = length-drop (suc j) l in
    ap (λ (x : List ℕ). get_or (reverse x) i 0) (split_at l j 0 (omega arith))
    ∙ ap (λ (x : List ℕ). get_or x i 0)
    (reverse-append (take j l) (get_or l j 0 ∷ drop (suc j) l) ∙ ap (λ (x : List ℕ). x ++ reverse (take j l)) (reverse-cons (get_or l j 0) (drop (suc j) l))
    ∙ append_assoc (reverse (drop (suc j) l)) (get_or l j 0 ∷ []) (reverse (take j l)))
    ∙ get_or_at (reverse (drop (suc j) l)) (get_or l j 0) (reverse (take j l)) 0 i (rw (length-reverse (drop (suc j) l)) (omega arith))

-- as the code reads them
module _ (tail : Bool) (l : List ℕ) (i : ℕ) where
  pub read_first : tail ≡ false → get_or l i 0 ≡ get_or (way tail l) i 0
  read_first e = rw e (sym (way-first l i))

  pub read-last : tail ≡ true → i < length l → get_or l (length l - 1 - i) 0 ≡ get_or (way tail l) i 0
  read-last e h = rw e (sym (way-last l i h))

pub every_reverse : {A : Type 0} {P : A → Type 0} {l : List A} → Every P l → Every P (reverse l)
every_reverse none_left = none_left
every_reverse (and {a} {l} p k) = rw (reverse-cons a l) (every_append (every_reverse k) (and p none_left))

pub way_every : {P : ℕ → Type 0} (tail : Bool) {l : List ℕ} → Every P l → Every P (way tail l)
unfolding way
way_every false k = k
way_every true k = every_reverse k

pub way-all : (p : ℕ → Bool) (tail : Bool) (l : List ℕ) → all p l ≡ true → all p (way tail l) ≡ true
way-all p tail l e = every_all (way_every tail (all_every p l e))

-- PARTS

pub way-append : (l m : List ℕ) → way true (l ++ m) ≡ way true m ++ way true l
unfolding way
way-append l m = reverse-append l m

module _ (l : List ℕ) (n : ℕ) (h : n ≤ length l) where
  parted : way true l ≡ way true (drop (length l - n) l) ++ way true (take (length l - n) l)
  parted = ap (way true) (sym (take-append-drop (length l - n) l)) ∙ way-append (take (length l - n) l) (drop (length l - n) l)

  counted : length (way true (drop (length l - n) l)) ≡ n
  counted = let d = length-drop (length l - n) l in way-length true (drop (length l - n) l) ∙ omega arith

  -- the first n from the end on are the last n
  pub way-take : take n (way true l) ≡ way true (drop (length l - n) l)
  way-take = ap (take n) parted ∙ take_at (way true (drop (length l - n) l)) (way true (take (length l - n) l)) n counted

  pub way-drop : drop n (way true l) ≡ way true (take (length l - n) l)
  way-drop = ap (drop n) parted ∙ drop_at (way true (drop (length l - n) l)) (way true (take (length l - n) l)) n counted
