-- Tables with terms appended that are alone: they are determined by the terms that they have more.
use mathlib.Core.Path.{◌≡◌, refl, sym, ap, ◌∙◌}
use mathlib.Core.List.{List, [], ◌∷◌, ◌++◌, append_assoc, append-nil}
use Prim.Native.Nat.{ℕ, zero, suc, ◌+◌, ◌-◌, ◌≤◌, ◌<◌}
use native.Mathlib.Omega.{arith}
use lib.ListN.{length, get_or, drop, length-append, length-drop}
use lib.Seq.{drop-length, drop-append-le, get_or-drop}
use Rattle.records.specs.Lists.{one_more}
use Rattle.records.specs.Store.{Term, no_term, term_in}
use Rattle.records.specs.Make.{own}
use Rattle.history.specs.History.{each_alone, with_later}
use Rattle.classes.proofs.Alike.{Like}

-- ts and then terms that are alone, one after the other
pub data Appended (ts : List Term) : List Term → Type 0 where
  nothing : Appended ts ts
  one_appended : {us : List Term} (k a b : ℕ) → Appended ts us → Appended ts (one_more us (own (suc (length us)) k a b))

appended-long : {ts us : List Term} → Appended ts us → length ts ≤ length us
appended-long nothing = omega arith
appended-long (one_appended {us = us} k a b p) = let l = appended-long p in let e = length-append us (own (suc (length us)) k a b ∷ []) in omega arith

alone-last : (n m k a b : ℕ) (l : List Term) → m ≡ n + length l → each_alone n (one_more l (own m k a b)) ≡ one_more (each_alone n l) (own m k a b)
unfolding each_alone
alone-last n m k a b [] e = let q : n ≡ m = omega arith in ap (λ (z : ℕ). own z k a b ∷ []) q
alone-last n m k a b (x ∷ l) e = ap (λ (t : List Term). own n x.kind x.first x.second ∷ t) (alone-last (suc n) m k a b l (omega arith))

appended-is : {ts us : List Term} → Appended ts us → us ≡ with_later ts us
unfolding each_alone
appended-is {ts} nothing = sym (append-nil ts) ∙ ap (λ (l : List Term). ts ++ each_alone (suc (length ts)) l) (sym (drop-length ts))
appended-is {ts} (one_appended {us = us} k a b p) =
    let x = own (suc (length us)) k a b in
    let h = appended-long p in
    let e = length-drop (length ts) us in
    ap (λ (l : List Term). one_more l x) (appended-is p)
    ∙ append_assoc ts (each_alone (suc (length ts)) (drop (length ts) us)) (x ∷ [])
    ∙ ap (λ (l : List Term). ts ++ l) (sym (alone-last (suc (length ts)) (suc (length us)) k a b (drop (length ts) us) (omega arith)))
    ∙ ap (λ (l : List Term). ts ++ each_alone (suc (length ts)) l) (sym (drop-append-le (length ts) us (x ∷ []) h))

-- only what they are counts
abbrev what : Term → Term
what x = own 0 x.kind x.first x.second

alone-same : (n : ℕ) (l m : List Term) → length l ≡ length m → ((i : ℕ) → i < length l → what (get_or l i no_term) ≡ what (get_or m i no_term)) → each_alone n l ≡ each_alone n m
unfolding each_alone
alone-same n [] [] e f = refl
alone-same n [] (y ∷ m) e f = absurd (omega arith)
alone-same n (x ∷ l) [] e f = absurd (omega arith)
alone-same n (x ∷ l) (y ∷ m) e f =
    let p = ap (λ (z : Term). own n z.kind z.first z.second) (f zero (omega arith)) in
    let q = alone-same (suc n) l m (omega arith) (λ i k. f (suc i) (omega arith)) in cc

-- so a table of the same terms says what they are
pub later-is : {ts us vs : List Term} → Appended ts us → Like vs us → us ≡ with_later ts vs
unfolding term_in
later-is {ts} {us} {vs} p l = appended-is p ∙ ap (λ (m : List Term). ts ++ m) (alone-same (suc (length ts)) (drop (length ts) us) (drop (length ts) vs)
    (length-drop (length ts) us ∙ ap (λ (n : ℕ). n - length ts) l.long ∙ sym (length-drop (length ts) vs))
    (λ i h. ap what (get_or-drop (length ts) us i no_term) ∙ each (length ts + i) ∙ sym (ap what (get_or-drop (length ts) vs i no_term))))
  where
    each : (j : ℕ) → what (get_or us j no_term) ≡ what (get_or vs j no_term)
    each j =
        let p = l.words (λ x. x.kind) (record { edges = λ y e. refl; classes = λ y c. refl }) (suc j) in
        let q = l.words (λ x. x.first) (record { edges = λ y e. refl; classes = λ y c. refl }) (suc j) in
        let r = l.words (λ x. x.second) (record { edges = λ y e. refl; classes = λ y c. refl }) (suc j) in cc
