-- The ways of flattening: the loop over a chain.
use mathlib.Core.Path.{◌≡◌, refl, sym, ap, subst, ◌∙◌}
use mathlib.Core.Bool.{Bool, true, false}
use mathlib.Core.List.{List, [], ◌∷◌, ◌++◌, append-nil, append_assoc}
use Prim.Native.Nat.{ℕ, suc, ◌≤◌, ◌<◌}
use native.Mathlib.Omega.{arith}
use lib.ListN.{length, take, length-append, length-take}
use borrow.Author.Tests.{eqb-true}
use Rattle.records.specs.Lists.{concat_map, firsts, Every, and}
use Rattle.records.specs.Store.{Store, within, kind, is_term, cell_in, is_concat, chain, parts}
use Rattle.records.specs.View.{cell_at, term_at}
use Rattle.records.proofs.Lists.{table-length}
use Rattle.records.proofs.Chains.{chain-is, chain-none}
use Rattle.records.proofs.Views.{first-at, value-at, next_at_lem}
use Rattle.records.proofs.Grown.{kind-term}
use Rattle.held.proofs.Linking.{Words}
use Rattle.normalize.specs.Normalize.{atoms}
use Rattle.records.specs.Rules.{list_limit}
use Rattle.normalize.specs.Working.Flat.{bare, Nested, Appended}
use Rattle.normalize.proofs.Atoms.{atoms-plain, nested_atoms}

module _ (l : List ℕ) (n : ℕ) (e : List ℕ) (m : ℕ) where
  abbrev s : Store
  s = bare l n e m

  pub one-atom : (out out' : List ℕ) (count t r : ℕ) (b : Bool) → b ≡ is_concat s t → b ≡ false → Appended out out' count (t ∷ []) r → Appended out out' count (atoms s t) r
  one-atom out out' count t r b i d a = rw (atoms-plain s t (sym i ∙ d)) a

  -- what is left of the chain, after the atoms so far, is what is asked
  pub record Left (out₀ out : List ℕ) (count t at k : ℕ) : Type 0 where
    pub from : k ≤ list_limit
    pub words : take k out ++ concat_map (λ x. atoms s x) (firsts (chain s at)) ≡ take count out₀ ++ atoms s t
    pub lower : Every (λ p. p < t) (firsts (chain s at))

  cells_are : length s.cells ≡ m
  cells_are = table-length (λ i. cell_at e (suc i)) m

  counted : (t : ℕ) → is_term s t ≡ true → within n t ≡ true
  counted t h = rw (table-length (λ i. term_at l (suc i)) n) at h

  within_cells : (at : ℕ) (b : Bool) → within m at ≡ b → within (length s.cells) at ≡ b
  within_cells at b h = rw cells_are h

  module _ (nested : Nested s) where
    pub begin : (out : List ℕ) (count t at : ℕ) (b : Bool) → b ≡ is_concat s t → b ≡ true → at ≡ (term_at l t).first → count ≤ list_limit → Left out out count t at count
    begin out count t at b i d f h =
        let q : is_concat s t ≡ true = sym i ∙ d in
        let p : firsts (chain s at) ≡ parts s t = ap (λ (x : ℕ). firsts (chain s x)) (first-at l n t at (counted t (kind-term s t 2 (eqb-true (kind s t) 3 q))) f) in
        record {
          from = h;
          words = ap (λ (w : List ℕ). take count out ++ w) (ap (concat_map (λ x. atoms s x)) p ∙ sym (nested_atoms s nested t q));
          lower = subst (Every (λ p. p < t)) (sym p) (nested.lower t q);
        }

    -- the part at a cell, and the chain of its next
    firsts_is : (at x y : ℕ) → within m at ≡ true → x ≡ (cell_in s.cells at).value → y ≡ (cell_in s.cells at).next → firsts (chain s at) ≡ x ∷ firsts (chain s y)
    unfolding firsts
    firsts_is at x y h i j = ap firsts (chain-is s.cells at nested.ascends (within_cells at true h)) ∙ rw (← i, ← j)

    module _ {out₀ out : List ℕ} {count t at k : ℕ} (p : Left out₀ out count t at k) where
      pub ended : (b : Bool) → b ≡ within m at → b ≡ false → Appended out₀ out count (atoms s t) k
      unfolding concat_map firsts
      ended b i j =
          let e = chain-none s.cells at (within_cells at false (sym i ∙ j)) in
          record {
            fits = λ h. sym (append-nil (take k out)) ∙ (rw e at p.words);
            passes = λ h. let f = p.from in absurd (omega arith);
          }

      module _ {x o y : ℕ} (w : Words e m at x o y) where
        abbrev rest : List ℕ
        rest = firsts (chain s (cell_in s.cells at).next)

        parts_are : firsts (chain s at) ≡ x ∷ rest
        parts_are = firsts_is at x _ (sym w.counted) (value-at e m at x (sym w.counted) w.value) refl

        head_lower : (q : List ℕ) → Every (λ p. p < t) (x ∷ q) → x < t
        head_lower q (and h z) = h

        rest_lower : (q : List ℕ) → Every (λ p. p < t) (x ∷ q) → Every (λ p. p < t) q
        rest_lower q (and h z) = z

        pub part_lower : x < t
        part_lower = head_lower _ (subst (Every (λ p. p < t)) parts_are p.lower)

        words_are : take k out ++ (atoms s x ++ concat_map (λ z. atoms s z) rest) ≡ take count out₀ ++ atoms s t
        unfolding concat_map
        words_are = rw parts_are at p.words

        pub part_passes : (out' : List ℕ) (r : ℕ) → count ≤ length out₀ → k ≤ length out → Appended out out' k (atoms s x) r → list_limit < r → Appended out₀ out' count (atoms s t) r
        part_passes out' r h h' a z =
            let q = ap length words_are in
            let f = length-append (take k out) (atoms s x ++ concat_map (λ z. atoms s z) rest) in
            let g = length-append (atoms s x) (concat_map (λ z. atoms s z) rest) in
            let d = length-append (take count out₀) (atoms s t) in
            let u = length-take k out in
            let u' = length-take count out₀ in
            let o = a.passes z in
            record { fits = λ o'. absurd (omega arith); passes = λ o'. omega arith }

        next_is : y ≡ (cell_in s.cells at).next
        next_is = next_at_lem e m at y (sym w.counted) w.next

        pub part_done : (out' : List ℕ) (r : ℕ) → Appended out out' k (atoms s x) r → r ≤ list_limit → Left out₀ out' count t y r
        part_done out' r a z = record {
          from = z;
          words = rw (a.fits z, next_is) (append_assoc (take k out) (atoms s x) (concat_map (λ z. atoms s z) rest) ∙ words_are);
          lower = rw next_is (rest_lower _ (subst (Every (λ p. p < t)) parts_are p.lower));
        }

        pub chain_falls : length (chain s y) < length (chain s at)
        chain_falls = let q = ap length (chain-is s.cells at nested.ascends (within_cells at true (sym w.counted))) in let f = ap (λ (q : ℕ). length (chain s q)) next_is in omega arith
