-- Histories with one event more at the end: what stands, what is cut, and the table of a mark.
use mathlib.Core.Path.{◌≡◌, refl, ap}
use mathlib.Core.List.{List, [], ◌∷◌, ◌++◌}
use mathlib.Core.Option.{Option}
use Prim.Native.Nat.{ℕ, zero, suc, ◌-◌, ◌≤◌, ◌<◌}
use native.Mathlib.Omega.{arith}
use Rattle.records.specs.Lists.{one_more}
use Rattle.records.specs.Store.{Term}
use Rattle.history.specs.History.{Event, joined, marked, standing, cut_at, marked_at}

-- how many marks stand
unfoldable pub marks_in : List Event → ℕ
marks_in [] = 0
marks_in (joined a b ∷ h) = marks_in h
marks_in (marked ts ∷ h) = suc (marks_in h)

pub marks-join : (h : List Event) (a b : ℕ) → marks_in (one_more h (joined a b)) ≡ marks_in h
unfolding marks_in
marks-join [] a b = refl
marks-join (joined c d ∷ h) a b = marks-join h a b
marks-join (marked ts ∷ h) a b = ap suc (marks-join h a b)

pub marks_mark : (h : List Event) (us : Option (List Term)) → marks_in (one_more h (marked us)) ≡ suc (marks_in h)
unfolding marks_in
marks_mark [] us = refl
marks_mark (joined c d ∷ h) us = marks_mark h us
marks_mark (marked ts ∷ h) us = ap suc (marks_mark h us)

pub stands-join : (h : List Event) (a b : ℕ) → standing (one_more h (joined a b)) ≡ one_more (standing h) (a, b)
unfolding standing
stands-join [] a b = refl
stands-join (joined c d ∷ h) a b = ap (λ (l : List (ℕ × ℕ)). (c, d) ∷ l) (stands-join h a b)
stands-join (marked ts ∷ h) a b = stands-join h a b

pub stands_mark : (h : List Event) (us : Option (List Term)) → standing (one_more h (marked us)) ≡ standing h
unfolding standing
stands_mark [] us = refl
stands_mark (joined c d ∷ h) us = ap (λ (l : List (ℕ × ℕ)). (c, d) ∷ l) (stands_mark h us)
stands_mark (marked ts ∷ h) us = stands_mark h us

-- what comes after a mark does not matter to it
pub cut_early : (i : ℕ) (h m : List Event) → 0 < i → i ≤ marks_in h → cut_at i (h ++ m) ≡ cut_at i h
unfolding cut_at marks_in
cut_early i [] m l k = absurd (omega arith)
cut_early i (joined a b ∷ h) m l k = ap (λ (e : List Event). joined a b ∷ e) (cut_early i h m l k)
cut_early zero (marked ts ∷ h) m l k = absurd (omega arith)
cut_early (suc zero) (marked ts ∷ h) m l k = refl
cut_early (suc (suc i)) (marked ts ∷ h) m l k = ap (λ (e : List Event). marked ts ∷ e) (cut_early (suc i) h m (omega arith) (omega arith))

pub marked_early : (i : ℕ) (h m : List Event) → 0 < i → i ≤ marks_in h → marked_at i (h ++ m) ≡ marked_at i h
unfolding marked_at marks_in
marked_early i [] m l k = absurd (omega arith)
marked_early i (joined a b ∷ h) m l k = marked_early i h m l k
marked_early zero (marked ts ∷ h) m l k = absurd (omega arith)
marked_early (suc zero) (marked ts ∷ h) m l k = refl
marked_early (suc (suc i)) (marked ts ∷ h) m l k = marked_early (suc i) h m (omega arith) (omega arith)

-- the last mark
pub cut-last : (h : List Event) (us : Option (List Term)) → cut_at (suc (marks_in h)) (one_more h (marked us)) ≡ h
unfolding cut_at marks_in
cut-last [] us = refl
cut-last (joined a b ∷ h) us = ap (λ (e : List Event). joined a b ∷ e) (cut-last h us)
cut-last (marked ts ∷ h) us = ap (λ (e : List Event). marked ts ∷ e) (cut-last h us)

pub marked-last : (h : List Event) (us : Option (List Term)) → marked_at (suc (marks_in h)) (one_more h (marked us)) ≡ us
unfolding marked_at marks_in
marked-last [] us = refl
marked-last (joined a b ∷ h) us = marked-last h us
marked-last (marked ts ∷ h) us = marked-last h us

-- AFTER GOING BACK

pub marks-cut : (i : ℕ) (h : List Event) → 0 < i → i ≤ marks_in h → marks_in (cut_at i h) ≡ i - 1
unfolding cut_at marks_in
marks-cut i [] l k = absurd (omega arith)
marks-cut i (joined a b ∷ h) l k = marks-cut i h l k
marks-cut zero (marked o ∷ h) l k = absurd (omega arith)
marks-cut (suc zero) (marked o ∷ h) l k = refl
marks-cut (suc (suc i)) (marked o ∷ h) l k = let e = marks-cut (suc i) h (omega arith) (omega arith) in omega arith

-- an earlier mark stands as it did
pub marked-cut : (i j : ℕ) (h : List Event) → 0 < j → j < i → marked_at j (cut_at i h) ≡ marked_at j h
unfolding cut_at marked_at
marked-cut i j [] l k = refl
marked-cut i j (joined a b ∷ h) l k = marked-cut i j h l k
marked-cut zero j (marked o ∷ h) l k = absurd (omega arith)
marked-cut (suc zero) j (marked o ∷ h) l k = absurd (omega arith)
marked-cut (suc (suc i)) zero (marked o ∷ h) l k = absurd (omega arith)
marked-cut (suc (suc i)) (suc zero) (marked o ∷ h) l k = refl
marked-cut (suc (suc i)) (suc (suc j)) (marked o ∷ h) l k = marked-cut (suc i) (suc j) h (omega arith) (omega arith)

pub cut-cut : (i j : ℕ) (h : List Event) → 0 < j → j < i → cut_at j (cut_at i h) ≡ cut_at j h
unfolding cut_at
cut-cut i j [] l k = refl
cut-cut i j (joined a b ∷ h) l k = ap (λ (e : List Event). joined a b ∷ e) (cut-cut i j h l k)
cut-cut zero j (marked o ∷ h) l k = absurd (omega arith)
cut-cut (suc zero) j (marked o ∷ h) l k = absurd (omega arith)
cut-cut (suc (suc i)) zero (marked o ∷ h) l k = absurd (omega arith)
cut-cut (suc (suc i)) (suc zero) (marked o ∷ h) l k = refl
cut-cut (suc (suc i)) (suc (suc j)) (marked o ∷ h) l k = ap (λ (e : List Event). marked o ∷ e) (cut-cut (suc i) (suc j) h (omega arith) (omega arith))
