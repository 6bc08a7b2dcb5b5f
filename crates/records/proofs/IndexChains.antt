-- Chains over plain functions: one that holds the terms of a bucket in order is that of the lowest terms, and the other way round.
use mathlib.Core.Path.{◌≡◌, refl, sym, ap, ◌∙◌}
use mathlib.Core.Bool.{true}
use mathlib.Core.List.Memᴰ
use mathlib.Core.List.{List, [], ◌∷◌, Memᴰ}
use mathlib.Core.Logic.{⊎_elim}
use Prim.Native.Nat.{ℕ, zero, suc, ◌+◌, ◌≤◌, ◌<◌}
use native.Mathlib.Nat.{eq-or-lt_of_le}
use native.Mathlib.Omega.{arith}
use lib.ListN.{length}
use lib.Dec.{ltb}
use borrow.Author.Tests.{ltb-true, ltb-false}
use Rattle.records.specs.Lists.{Every, none_left, and}
use Rattle.records.specs.Store.{within}
use Rattle.records.proofs.Lists.{decide, within-is}
use Rattle.records.specs.Index.{next_in}
use Rattle.records.specs.Chained.{Chain, ends, goes, Ascending, last, above}
use Rattle.records.proofs.IndexNexts.{Lowest, nothing, lowest, next-lowest, next_is}

-- CHAINS

-- from one number there is one chain
pub chain-one : {next : ℕ → ℕ} {t : ℕ} {l m : List ℕ} → Chain next t l → Chain next t m → l ≡ m
chain-one (ends e) (ends f) = refl
chain-one (ends e) (goes d c) = absurd (d e)
chain-one (goes d c) (ends e) = absurd (d e)
chain-one {t} (goes d c) (goes f k) = ap (λ (l : List ℕ). t ∷ l) (chain-one c k)

-- ORDER

pub ascending_first : {u t : ℕ} {l : List ℕ} → Ascending u (t ∷ l) → u < t
ascending_first (above h a) = h

pub ascending_rest : {u t : ℕ} {l : List ℕ} → Ascending u (t ∷ l) → Ascending t l
ascending_rest (above h a) = a

pub ascending_above : {u x : ℕ} {l : List ℕ} → Ascending u l → Memᴰ x l → u < x
ascending_above last m = absurd (Memᴰ.not-nil m)
ascending_above (above h a) m = ⊎_elim (λ e. omega arith) (λ k. let i = ascending_above a k in omega arith) (Memᴰ.cases_cons m)

-- an ascending list of numbers above u, none above n, is no longer than n less u: a chain is no longer than there are terms
pub ascending_short : (n : ℕ) {u : ℕ} {l : List ℕ} → Ascending u l → ((t : ℕ) → Memᴰ t l → t ≤ n) → u ≤ n → u + length l ≤ n
ascending_short n last f h = omega arith
ascending_short n (above {t = t} k a) f h =
    let i = ascending_short n a (λ x m. f x (Memᴰ.tail m)) (f t (Memᴰ.head refl)) in omega arith

-- MEMBERS

-- the list is that of the terms above u, of n, that are in bucket b, in order
pub record Held (f : ℕ → ℕ) (n u b : ℕ) (l : List ℕ) : Type 0 where
  pub ascends : Ascending u l
  pub inside : (t : ℕ) → Memᴰ t l → t ≤ n
  pub each : (t : ℕ) → u < t → t ≤ n → f t ≡ b → Memᴰ t l
  pub no_other : (t : ℕ) → Memᴰ t l → f t ≡ b

module _ {f : ℕ → ℕ} {n u b : ℕ} where
  held_none : ((t : ℕ) → u < t → t ≤ n → f t ≡ b → ⊥) → Held f n u b []
  held_none g = record {
    ascends = last;
    inside = λ t m. absurd (Memᴰ.not-nil m);
    each = λ t h k e. absurd (g t h k e);
    no_other = λ t m. absurd (Memᴰ.not-nil m);
  }

  module _ {x : ℕ} {l : List ℕ} where
    held_more : u < x → x ≤ n → f x ≡ b → ((t : ℕ) → u < t → t < x → f t ≡ b → ⊥) → Held f n x b l → Held f n u b (x ∷ l)
    held_more h k q g r = record {
      ascends = above h r.ascends;
      inside = λ t m. ⊎_elim (λ e. rw e k) (λ i. r.inside t i) (Memᴰ.cases_cons m);
      each = λ t a c e. decide (ltb t x) (λ i. absurd (g t a (ltb-true t x i) e))
          (λ i. ⊎_elim (λ j. Memᴰ.head (sym j)) (λ j. Memᴰ.tail (r.each t j c e)) (eq-or-lt_of_le (ltb-false t x i)));
      no_other = λ t m. ⊎_elim (λ e. ap f e ∙ q) (λ i. r.no_other t i) (Memᴰ.cases_cons m);
    }

    -- the first is the lowest, and the others are those above it
    pub held_first : Held f n u b (x ∷ l) → Lowest f n u b x
    held_first r =
        let h = ascending_first r.ascends in
        let k = r.inside x (Memᴰ.head refl) in
        lowest h k (r.no_other x (Memᴰ.head refl))
        (λ t a c e. ⊎_elim (λ i. omega arith) (λ m. let i = ascending_above (ascending_rest r.ascends) m in omega arith) (Memᴰ.cases_cons (r.each t a (omega arith) e)))

    pub held-rest : Held f n u b (x ∷ l) → Held f n x b l
    held-rest r =
        let h = ascending_first r.ascends in
        record {
          ascends = ascending_rest r.ascends;
          inside = λ t m. r.inside t (Memᴰ.tail m);
          each = λ t a c e. ⊎_elim (λ i. absurd (omega arith)) (λ m. m) (Memᴰ.cases_cons (r.each t (omega arith) c e));
          no_other = λ t m. r.no_other t (Memᴰ.tail m);
        }

-- THE DETERMINED INDEX IS CHAINED

-- the chain from x on has the terms above u in bucket b
pub record Onward (f next : ℕ → ℕ) (n u b x : ℕ) : Type 0 where
  pub members : List ℕ
  pub walked : Chain next x members
  pub held : Held f n u b members

module _ (f next : ℕ → ℕ) (n : ℕ) (nexts : (t : ℕ) → within n t ≡ true → next t ≡ next_in f n t (f t)) where
  onward-none : (u b x : ℕ) → x ≡ 0 → ((t : ℕ) → u < t → t ≤ n → f t ≡ b → ⊥) → Onward f next n u b x
  onward-none u b x e g = record { members = []; walked = ends e; held = held_none g }

  -- k more terms at most
  onward : (k u b x : ℕ) → n ≤ u + k → Lowest f n u b x → Onward f next n u b x
  onward zero u b x h w = go w
    where
      go : Lowest f n u b x → Onward f next n u b x
      go (nothing e g) = onward-none u b x e g
      go (lowest a c q g) = absurd (omega arith)
  onward (suc k) u b x h w = go (onward k x b (next x)) w
    where
      go : (n ≤ x + k → Lowest f n x b (next x) → Onward f next n x b (next x)) → Lowest f n u b x → Onward f next n u b x
      go ih (nothing e g) = onward-none u b x e g
      go ih (lowest a c q g) =
          let e : next x ≡ next_in f n x b = nexts x (within-is n x (omega arith) c) ∙ ap (next_in f n x) q in
          let r = ih (omega arith) (rw e (next-lowest f n x b)) in
          let d : x ≡ 0 → ⊥ = λ z. omega arith in
          record { members = x ∷ r.members; walked = goes d r.walked; held = held_more a c q g r.held }

  pub chain_held : (b x : ℕ) → x ≡ next_in f n 0 b → Onward f next n 0 b x
  chain_held b x e = onward n 0 b x (omega arith) (rw e (next-lowest f n 0 b))

-- WHAT IS CHAINED IS DETERMINED

pub record Determined (f next : ℕ → ℕ) (n u b x : ℕ) (l : List ℕ) : Type 0 where
  pub here : x ≡ next_in f n u b
  pub later : Every (λ t. next t ≡ next_in f n t b) l

pub held-determined : (f : ℕ → ℕ) {next : ℕ → ℕ} (n u b : ℕ) {x : ℕ} {l : List ℕ} → Chain next x l → Held f n u b l → Determined f next n u b x l
held-determined f n u b {x} (ends e) r = record { here = next_is f n u b x (nothing e (λ t a c q. Memᴰ.not-nil (r.each t a c q))); later = none_left }
held-determined f n u b {x} (goes d c) r =
    let i = held-determined f n x b c (held-rest r) in record { here = next_is f n u b x (held_first r); later = and i.here i.later }
