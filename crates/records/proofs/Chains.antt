-- Chains without fuel: where each next ascends, a chain is its first cell and the chain of its next.
use mathlib.Core.Path.{◌≡◌, refl, sym, ap, ◌∙◌}
use mathlib.Core.Bool.{true, false}
use mathlib.Core.List.{List, [], ◌∷◌, ◌++◌, map}
use mathlib.Core.Logic.{◌⊎◌, inl, inr, ⊎_elim}
use Prim.Native.Nat.{ℕ, zero, suc, ◌+◌, ◌-◌, ◌≤◌, ◌<◌}
use native.Mathlib.Omega.{arith}
use lib.ListN.{length, get_or, length-append, length-map, get_or-append}
use lib.Dec.{leb}
use lib.Seq.{get_or-append-add, get_or_at, append_snoc}
use borrow.Author.Tests.{leb-true, leb-false}
use Rattle.records.specs.Lists.{firsts}
use Rattle.records.specs.Store.{Cell, no_cell, cell_in, within, chain_by, chain_in}
use Rattle.records.specs.Make.{chain_from}
use Rattle.records.specs.Working.Audited.{Next, last, later, Ascends}
use Rattle.records.proofs.Lists.{decide, clash, within_low, within-high, within-is, within-zero, within-past}

-- ONE CELL

-- the two values of a cell
abbrev pub values_at : List Cell → ℕ → ℕ × ℕ
values_at cs c = ((cell_in cs c).value, (cell_in cs c).other)

pub none-by : (cs : List Cell) (n c : ℕ) → within (length cs) c ≡ false → chain_by n cs c ≡ []
unfolding chain_by
none-by cs zero c e = refl
none-by cs (suc n) c e = rw (e, chain_by)

pub one-by : (cs : List Cell) (n c : ℕ) → within (length cs) c ≡ true → chain_by (suc n) cs c ≡ values_at cs c ∷ chain_by n cs (cell_in cs c).next
unfolding chain_by
one-by cs n c e = rw (e, chain_by)

-- 0, or a number past the cells, starts no chain
pub chain-none : (cs : List Cell) (c : ℕ) → within (length cs) c ≡ false → chain_in cs c ≡ []
chain-none cs c e = none-by cs (length cs) c e

none-zero : (n c : ℕ) → within n c ≡ false → c ≤ n → c ≡ 0
unfolding within
none-zero n zero e h = refl
none-zero n (suc c) e h = let z = within-is n (suc c) (omega arith) h in clash z e

-- CELLS ADDED

-- ds has the cells of cs, and perhaps more
pub record Extends (cs ds : List Cell) : Type 0 where
  pub longer : length cs ≤ length ds
  pub same : (c : ℕ) → c ≤ length cs → cell_in ds c ≡ cell_in cs c

-- fuel that is enough gives the same chain, however much it is
module _ (cs ds : List Cell) (up : Ascends cs) (ext : Extends cs ds) where
  enough : (n k c : ℕ) → within (length cs) c ≡ true → length cs < n + c → length cs < k + c → chain_by n ds c ≡ chain_by k cs c
  enough zero k c w p q = let h = within-high (length cs) c w in absurd (omega arith)
  enough (suc n) zero c w p q = let h = within-high (length cs) c w in absurd (omega arith)
  enough (suc n) (suc k) c w p q = one-by ds n c inside ∙ go (enough n k) (up c w) ∙ sym (one-by cs k c w)
    where
      high : c ≤ length cs
      high = within-high (length cs) c w

      inside : within (length ds) c ≡ true
      inside = within-is (length ds) c (within_low (length cs) c w) (let l = ext.longer in let h = high in omega arith)

      now : cell_in ds c ≡ cell_in cs c
      now = ext.same c high

      go : ((x : ℕ) → within (length cs) x ≡ true → length cs < n + x → length cs < k + x → chain_by n ds x ≡ chain_by k cs x) → Next cs c → values_at ds c ∷ chain_by n ds (cell_in ds c).next ≡ values_at cs c ∷ chain_by k cs (cell_in cs c).next
      go ih (last e) = rw now (ap (λ (l : List (ℕ × ℕ)). values_at cs c ∷ l) (none-by ds n _ (within-zero _ _ e) ∙ sym (none-by cs k _ (within-zero _ _ e))))
      go ih (later a b) = rw now (ap (λ (l : List (ℕ × ℕ)). values_at cs c ∷ l) (ih _ (within-is _ _ (omega arith) b) (omega arith) (omega arith)))

  pub chain-extends : (c : ℕ) → c ≤ length cs → chain_in ds c ≡ chain_in cs c
  chain-extends c h = decide (within (length cs) c)
      (λ w. let l = within_low (length cs) c w in let m = ext.longer in enough (length ds) (length cs) c w (omega arith) (omega arith))
      (λ w. none-by ds (length ds) c (within-zero (length ds) c (none-zero (length cs) c w h)) ∙ sym (none-by cs (length cs) c w))

pub extends-refl : (cs : List Cell) → Extends cs cs
extends-refl cs = record { longer = omega arith; same = λ c h. refl }

pub extends-append : (cs ds : List Cell) → Extends cs (cs ++ ds)
unfolding cell_in
extends-append cs ds = record { longer = simp length-append (omega arith); same = same }
  where
    same : (c : ℕ) → c ≤ length cs → cell_in (cs ++ ds) c ≡ cell_in cs c
    same zero h = refl
    same (suc c) h = get_or-append cs ds no_cell c h

-- a chain is its first cell and the chain of its next
pub chain-is : (cs : List Cell) (c : ℕ) → Ascends cs → within (length cs) c ≡ true → chain_in cs c ≡ values_at cs c ∷ chain_in cs (cell_in cs c).next
chain-is cs c up w =
    let l = within_low (length cs) c w in
    enough cs cs up (extends-refl cs) (length cs) (suc (length cs)) c w (omega arith) (omega arith) ∙ one-by cs (length cs) c w

-- A CHAIN MADE

-- its values, each with second value 0
abbrev pub plain : List ℕ → List (ℕ × ℕ)
plain l = map (λ a. (a, 0)) l

pub plain-firsts : (l : List ℕ) → firsts (plain l) ≡ l
unfolding firsts
plain-firsts [] = refl
plain-firsts (a ∷ l) = rw (plain-firsts l)

pub plain-length : (l : List ℕ) → length (plain l) ≡ length l
plain-length l = length-map l (λ a. (a, 0))

pub from-length : (c : ℕ) (l : List ℕ) → length (chain_from c l) ≡ length l
unfolding chain_from
from-length c [] = refl
from-length c (a ∷ []) = refl
from-length c (a ∷ b ∷ l) = ap suc (from-length (suc c) (b ∷ l))

-- the i-th cell made ends the chain or names the cell after it
from_next : (c : ℕ) (l : List ℕ) (i : ℕ) → i < length l → ((get_or (chain_from c l) i no_cell).next ≡ 0) ⊎ (((get_or (chain_from c l) i no_cell).next ≡ suc c + i) × (suc i < length l))
unfolding chain_from
from_next c [] i h = absurd (omega arith)
from_next c (a ∷ []) zero h = inl refl
from_next c (a ∷ []) (suc i) h = absurd (omega arith)
from_next c (a ∷ b ∷ l) zero h = inr (omega arith, omega arith)
from_next c (a ∷ b ∷ l) (suc i) h =
    ⊎_elim (λ e. inl e) (λ e. let p = e.0 in let q = e.1 in inr (omega arith, omega arith)) (from_next (suc c) (b ∷ l) i (omega arith))

-- the cell after those of cs
at_end : (cs : List Cell) (d : Cell) (ds : List Cell) (c : ℕ) → suc (length cs) ≡ c → cell_in (cs ++ d ∷ ds) c ≡ d
unfolding cell_in
at_end cs d ds zero e = absurd (omega arith)
at_end cs d ds (suc c) e = get_or_at cs d ds no_cell c (omega arith)

end-within : (cs : List Cell) (d : Cell) (ds : List Cell) (c : ℕ) → suc (length cs) ≡ c → within (length (cs ++ d ∷ ds)) c ≡ true
end-within cs d ds c e = let l = length-append cs (d ∷ ds) in within-is _ c (omega arith) (omega arith)

made_by : (cs : List Cell) (l : List ℕ) (n c : ℕ) → suc (length cs) ≡ c → length l ≤ n → chain_by n (cs ++ chain_from c l) c ≡ plain l
unfolding chain_from
made_by cs [] n c e h = none-by (cs ++ []) n c (let k = length-append cs [] in within-past _ c (omega arith))
made_by cs (a ∷ l) zero c e h = absurd (omega arith)
made_by cs (a ∷ []) (suc n) c e h =
    let d : Cell = record { value = a; other = 0; next = 0 } in
    one-by (cs ++ d ∷ []) n c (end-within cs d [] c e)
    ∙ rw (at_end cs d [] c e) (ap (λ (m : List (ℕ × ℕ)). (a, 0) ∷ m) (none-by (cs ++ d ∷ []) n 0 (within-zero _ 0 refl)))
made_by cs (a ∷ b ∷ l) (suc n) c e h =
    let d : Cell = record { value = a; other = 0; next = suc c } in
    let k = length-append cs (d ∷ []) in
    let rest = made_by (cs ++ d ∷ []) (b ∷ l) n (suc c) (omega arith) (omega arith) in
    one-by (cs ++ d ∷ chain_from (suc c) (b ∷ l)) n c (end-within cs d _ c e)
    ∙ rw (at_end cs d (chain_from (suc c) (b ∷ l)) c e) (ap (λ (m : List (ℕ × ℕ)). (a, 0) ∷ m) (rw append_snoc at rest))

pub chain-made : (cs : List Cell) (l : List ℕ) → chain_in (cs ++ chain_from (suc (length cs)) l) (suc (length cs)) ≡ plain l
chain-made cs l = let k = length-append cs (chain_from (suc (length cs)) l) in let m = from-length (suc (length cs)) l in made_by cs l _ _ refl (omega arith)

-- the cells after those of cs
cell-new : (cs ds : List Cell) (i c : ℕ) → c ≡ suc (length cs + i) → cell_in (cs ++ ds) c ≡ get_or ds i no_cell
unfolding cell_in
cell-new cs ds i c e = rw e (get_or-append-add cs ds i no_cell)

-- a chain made keeps the cells ascending
pub ascends-made : (cs : List Cell) (l : List ℕ) → Ascends cs → Ascends (cs ++ chain_from (suc (length cs)) l)
ascends-made cs l up c w = decide (leb c (length cs)) (λ h. old (leb-true _ _ h)) (λ h. new (c - suc (length cs)) (let k = leb-false c (length cs) h in omega arith))
  where
    size : length (cs ++ chain_from (suc (length cs)) l) ≡ length cs + length l
    size = length-append cs (chain_from (suc (length cs)) l) ∙ (let m = from-length (suc (length cs)) l in omega arith)

    carry : Next cs c → cell_in (cs ++ chain_from (suc (length cs)) l) c ≡ cell_in cs c → Next (cs ++ chain_from (suc (length cs)) l) c
    carry (last e) s = last (rw s e)
    carry (later a b) s = let z = size in later (rw s a) (rw s (omega arith))

    old : c ≤ length cs → Next (cs ++ chain_from (suc (length cs)) l) c
    old h = carry (up c (within-is _ c (within_low _ c w) h)) ((extends-append cs _).same c h)

    new : (i : ℕ) → c ≡ suc (length cs + i) → Next (cs ++ chain_from (suc (length cs)) l) c
    new i h =
        let z = size in
        let t = within-high _ c w in
        let s = cell-new cs (chain_from (suc (length cs)) l) i c h in
        ⊎_elim (λ e. last (rw s e)) (λ e. let p = e.0 in let q = e.1 in later (rw s (omega arith)) (rw s (omega arith))) (from_next (suc (length cs)) l i (omega arith))
