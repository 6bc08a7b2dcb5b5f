-- Walking the chain of a bucket: from a term on it is a chain of higher terms, so the walk ends, and what is met first in it is the first of all.
use Rattle.std.specs.Prelude.{if◌then◌else◌}
use mathlib.Core.Path.{◌≡◌, refl, sym, ap, ◌∙◌}
use mathlib.Core.Bool.{Bool, true, false}
use mathlib.Core.List.{List, ◌∷◌, Memᴰ}
use mathlib.Core.Option.{some}
use Prim.Native.Nat.{ℕ, suc, ◌+◌, ◌-◌, ◌≤◌, ◌<◌}
use native.Mathlib.Omega.{arith}
use lib.ListN.{length}
use lib.Dec.{eqb}
use borrow.Author.Tests.{eq-eqb, ne_eqb}
use Rattle.records.specs.Lists.{first_of}
use Rattle.records.specs.Store.{within, or_none}
use Rattle.records.specs.View.{buckets, term_place, term_words, head_at, next_at}
use Rattle.records.specs.Index.{IndexOf}
use Rattle.records.specs.Chained.{Chain, ends, goes, Ascending}
use Rattle.records.specs.Working.Indexing.{Walkable, FirstIn, Reached, at_head, after_last}
use Rattle.records.proofs.Lists.{within-is, within-high}
use Rattle.records.proofs.IndexChains.{chain-one, ascending_first, ascending_rest}
use Rattle.records.proofs.IndexLaws.{chain_bucket}

-- THE REST OF A CHAIN

-- from t on the chain is of terms up to n, each above the one before and all above `low`
pub record Onwards (l : List ℕ) (n t : ℕ) : Type 0 where
  pub members : List ℕ
  pub walked : Chain (next_at l) t members
  pub low : ℕ
  pub ascends : Ascending low members
  pub inside : (x : ℕ) → Memᴰ x members → x ≤ n

abbrev pub from_head : {l : List ℕ} {n b : ℕ} → Walkable l n b → Onwards l n (head_at l b)
from_head w = record { members = w.members; walked = w.walked; low = 0; ascends = w.ascends; inside = w.inside }

-- how many terms can still be met
abbrev pub to_meet : ℕ → ℕ → ℕ
to_meet n t = if eqb t 0 then 0 else (suc n - t)

meet_none : (n t : ℕ) → t ≡ 0 → to_meet n t ≡ 0
meet_none n t e = rw (eq-eqb t 0 e)

meet_some : (n t : ℕ) → (t ≡ 0 → ⊥) → to_meet n t ≡ suc n - t
meet_some n t d = rw (ne_eqb t 0 d)

-- one term, and the rest
pub record Split (l : List ℕ) (n t : ℕ) (ts : List ℕ) : Type 0 where
  pub rest : List ℕ
  pub is : ts ≡ t ∷ rest
  pub walked : Chain (next_at l) (next_at l t) rest
  pub ascends : Ascending t rest
  pub here : t ≤ n
  pub inside : (x : ℕ) → Memᴰ x rest → x ≤ n

split : {l : List ℕ} {n t u : ℕ} {ts : List ℕ} → (t ≡ 0 → ⊥) → Chain (next_at l) t ts → Ascending u ts → ((x : ℕ) → Memᴰ x ts → x ≤ n) → Split l n t ts
split d (ends e) a i = absurd (d e)
split {t = t} d (goes {l = r} k c) a i = record {
  rest = r;
  is = refl;
  walked = c;
  ascends = ascending_rest a;
  here = i t (Memᴰ.head refl);
  inside = λ x m. i x (Memᴰ.tail m);
}

module _ {l : List ℕ} {n t : ℕ} (o : Onwards l n t) where
  pub split_off : (t ≡ 0 → ⊥) → Split l n t o.members
  split_off d = split d o.walked o.ascends o.inside

  module _ (d : t ≡ 0 → ⊥) where
    abbrev pub onwards_next : Onwards l n (next_at l t)
    onwards_next = let s = split_off d in record { members = s.rest; walked = s.walked; low = t; ascends = s.ascends; inside = s.inside }

    pub onwards-inside : t ≤ n
    onwards-inside = (split_off d).here

    -- the walk ends: the next is none, or a higher term
    pub meet_fewer : to_meet n (next_at l t) < to_meet n t
    meet_fewer = go (split_off d).walked (split_off d).ascends (split_off d).inside
      where
        go : {r : List ℕ} → Chain (next_at l) (next_at l t) r → Ascending t r → ((x : ℕ) → Memᴰ x r → x ≤ n) → to_meet n (next_at l t) < to_meet n t
        go (ends e) a i =
            let k = onwards-inside in
            let p = meet_none n (next_at l t) e in
            let q = meet_some n t d in omega arith
        go (goes z c) a i =
            let k = onwards-inside in
            let h = ascending_first a in
            let j = i (next_at l t) (Memᴰ.head refl) in
            let p = meet_some n (next_at l t) z in
            let q = meet_some n t d in omega arith

-- THE FIRST THAT PASSES

-- the first of the whole chain of bucket b is the first of the chain from t on
pub record Walking (l : List ℕ) (n b : ℕ) (p : ℕ → Bool) (t : ℕ) : Type 0 where
  pub onwards : Onwards l n t
  pub first : FirstIn l b p (or_none (first_of p onwards.members))

module _ {l : List ℕ} {n b : ℕ} (p : ℕ → Bool) where
  pub walk_from : Walkable l n b → (t : ℕ) → t ≡ head_at l b → Walking l n b p t
  walk_from w t e = rw e (record { onwards = from_head w; first = λ ts c. ap (λ (m : List ℕ). or_none (first_of p m)) (chain-one w.walked c) })

  module _ {t : ℕ} (w : Walking l n b p t) where
    module _ (d : t ≡ 0 → ⊥) (x : Bool) (is : x ≡ p t) where
      met : (o : ℕ) → or_none (elim x [ true ↦ some t | false ↦ first_of p (split_off w.onwards d).rest ]) ≡ o → FirstIn l b p o
      unfolding first_of
      met o e ts c =
          sym (ap (λ (y : Bool). or_none (elim y [ true ↦ some t | false ↦ first_of p (split_off w.onwards d).rest ])) (sym is) ∙ e)
          ∙ sym (ap (λ (m : List ℕ). or_none (first_of p m)) (split_off w.onwards d).is) ∙ w.first ts c

      pub walk-met : x ≡ true → FirstIn l b p t
      walk-met e = met t (rw e)

      pub walk-next : x ≡ false → (u : ℕ) → u ≡ next_at l t → Walking l n b p u
      walk-next e u q = rw q (record { onwards = onwards_next w.onwards d; first = met _ (rw e) })

    pub walk_none : t ≡ 0 → FirstIn l b p 0
    unfolding first_of
    walk_none e ts c = go w.onwards.walked (w.first ts c)
      where
        go : {m : List ℕ} → Chain (next_at l) t m → or_none (first_of p m) ≡ or_none (first_of p ts) → 0 ≡ or_none (first_of p ts)
        go (ends z) q = q
        go (goes d c) q = absurd (d e)

-- THE END OF A CHAIN

-- the word at `place` names t, and is the head of bucket b or the ninth word of one of its terms
pub data Standing (l : List ℕ) (n b t : ℕ) : ℕ → Type 0 where
  on_head : t ≡ head_at l b → Standing l n b t b
  on_term : (u : ℕ) → within n u ≡ true → t ≡ next_at l u → ((f : ℕ → ℕ) → IndexOf f n l → f u ≡ b) → Standing l n b t (term_place u 8)

pub record EndWalk (l : List ℕ) (n b place t : ℕ) : Type 0 where
  pub onwards : Onwards l n t
  pub standing : Standing l n b t place
  pub lies : (f : ℕ → ℕ) → IndexOf f n l → (x : ℕ) → Memᴰ x onwards.members → f x ≡ b

module _ {l : List ℕ} {n b : ℕ} where
  pub end-from : b < buckets → Walkable l n b → (t : ℕ) → t ≡ head_at l b → EndWalk l n b b t
  end-from h w t e = rw e (record { onwards = from_head w; standing = on_head refl; lies = λ f i. chain_bucket f n l i b h w.members w.walked })

  module _ {place t : ℕ} (w : EndWalk l n b place t) where
    module _ (d : t ≡ 0 → ⊥) where
      pub end-inside : t ≤ n
      end-inside = onwards-inside w.onwards d

      here-lies : (f : ℕ → ℕ) → IndexOf f n l → f t ≡ b
      here-lies f i = let s = split_off w.onwards d in w.lies f i t (rw s.is (Memᴰ.head refl))

      rest-lies : (f : ℕ → ℕ) → IndexOf f n l → (x : ℕ) → Memᴰ x (split_off w.onwards d).rest → f x ≡ b
      rest-lies f i x m = let s = split_off w.onwards d in w.lies f i x (rw s.is (Memᴰ.tail m))

      pub end-next : (u : ℕ) → u ≡ next_at l t → EndWalk l n b (term_place t 8) u
      end-next u e = rw e (record {
        onwards = onwards_next w.onwards d;
        standing = on_term t (within-is n t (omega arith) end-inside) refl here-lies;
        lies = rest-lies;
      })

      pub end-fewer : (u : ℕ) → u ≡ next_at l t → to_meet n u < to_meet n t
      end-fewer u e = rw e (meet_fewer w.onwards d)

    pub end-reached : t ≡ 0 → Reached l n b place
    end-reached e = go w.standing
      where
        go : {q : ℕ} → Standing l n b t q → Reached l n b q
        go (on_head h) = at_head (sym h ∙ e)
        go (on_term u v h g) = after_last u v (sym h ∙ e) g

-- the place of that word is within the slice
pub reached-room : {l : List ℕ} {n b place : ℕ} → b < buckets → term_words (n + 1) ≤ length l → Reached l n b place → place < length l
reached-room h r (at_head e) = omega arith
reached-room h r (after_last t w e g) = let k = within-high _ t w in omega arith
