-- Each way through one step along a chain (src/chains.rt), and that a step is a step of the chain.
use mathlib.Core.Path.{◌≡◌, refl, sym, ap, subst, ◌∙◌}
use mathlib.Core.Bool.{Bool, true, false, ◌||◌}
use mathlib.Core.List.{List}
use mathlib.Core.Logic.{◌⊎◌, ⊎_elim}
use Prim.Native.Nat.{ℕ, suc, ◌<◌, ◌≤◌}
use native.Mathlib.Omega.{arith}
use lib.ListN.{length}
use lib.Dec.{eqb, ltb}
use borrow.Author.Tests.{lt-ltb, le-ltb, eq-eqb, ne_eqb, eqb-false, ltb-false}
use Rattle.records.specs.Store.{Cell, cell_in, within, chain_in}
use Rattle.records.specs.View.{cell_at, cells_view}
use Rattle.records.specs.Working.Audited.{Next, last, later, Ascends}
use Rattle.records.proofs.Lists.{table-length, decide, clash, within_low, within-high, within-is}
use Rattle.records.proofs.Views.{cell-is}
use Rattle.records.proofs.Chains.{chain-is, chain-none}
use Rattle.held.specs.declared.chains.Link.{Link}
use Rattle.held.specs.declared.chains.Link.TheVariants as link
use Rattle.held.specs.Links.{link_of, link_in, values_from}

-- ONE CELL

of_zero : (c : ℕ) (e : Cell) → e.next ≡ 0 → link_of c e ≡ link.Cell e.value e.other e.next
unfolding link_of
of_zero c e h = rw (eq-eqb e.next 0 h)

of-later : (c : ℕ) (e : Cell) → c < e.next → link_of c e ≡ link.Cell e.value e.other e.next
unfolding link_of
of-later c e h = rw (ne_eqb e.next 0 (λ z. absurd (omega arith)), lt-ltb c e.next h)

of-back : (c : ℕ) (e : Cell) → (e.next ≡ 0 → ⊥) → e.next ≤ c → link_of c e ≡ link.Back
unfolding link_of
of-back c e z h = rw (ne_eqb e.next 0 z, le-ltb c e.next h)

of-cell : (c : ℕ) (e : Cell) → eqb e.next 0 || ltb c e.next ≡ true → link_of c e ≡ link.Cell e.value e.other e.next
unfolding link_of
of-cell c e h = rw h

of_else : (c : ℕ) (e : Cell) → eqb e.next 0 || ltb c e.next ≡ false → link_of c e ≡ link.Back
unfolding link_of
of_else c e h = rw h

of-within : (cs : List Cell) (c : ℕ) → 0 < c → c ≤ length cs → link_in cs c ≡ link_of c (cell_in cs c)
unfolding link_in
of-within cs c p h = rw (ne_eqb c 0 (λ z. absurd (omega arith)), le-ltb (length cs) c h)

of-past : (cs : List Cell) (c : ℕ) → (c ≡ 0 → ⊥) → length cs < c → link_in cs c ≡ link.Absent
unfolding link_in
of-past cs c z h = rw (ne_eqb c 0 z, lt-ltb (length cs) c h)

-- THE WAYS THROUGH `link_at`

pub link-end : (l : List ℕ) (n c : ℕ) → c ≡ 0 → link.End ≡ link_in (cells_view l n) c
unfolding link_in
link-end l n c e = rw (eq-eqb c 0 e)

pub link-past : (l : List ℕ) (n c w : ℕ) → (c ≡ 0 → ⊥) → w ≡ c → n < w → link.Absent ≡ link_in (cells_view l n) c
link-past l n c w z e h = sym (of-past (cells_view l n) c z (rw (table-length (λ i. cell_at l (suc i)) n) (omega arith)))

module _ (l : List ℕ) (n c w x : ℕ) (z : c ≡ 0 → ⊥) (e : w ≡ c) (h : w ≤ n) (p : x ≡ (cell_at l c).next) where
  here : link_in (cells_view l n) c ≡ link_of c (cell_at l c)
  here = of-within (cells_view l n) c (omega arith) (rw (table-length (λ i. cell_at l (suc i)) n) (omega arith)) ∙ ap (link_of c) (cell-is l n c (omega arith) (omega arith))

  pub link-cell : (a b : ℕ) → ((x ≡ 0 → ⊥) × (c < x)) ⊎ (x ≡ 0) → a ≡ (cell_at l c).value → b ≡ (cell_at l c).other
      → link.Cell a b x ≡ link_in (cells_view l n) c
  link-cell a b o u v = (λ i. link.Cell (u i) (v i) (p i)) ∙ sym (here ∙ ⊎_elim later_lem none_lem o)
    where
      later_lem : (x ≡ 0 → ⊥) × (c < x) → link_of c (cell_at l c) ≡ link.Cell (cell_at l c).value (cell_at l c).other (cell_at l c).next
      later_lem q = of-later c (cell_at l c) (subst (λ (y : ℕ). c < y) p q.1)

      none_lem : x ≡ 0 → link_of c (cell_at l c) ≡ link.Cell (cell_at l c).value (cell_at l c).other (cell_at l c).next
      none_lem q = of_zero c (cell_at l c) (sym p ∙ q)

  pub link-back : (x ≡ 0 → ⊥) → x ≤ c → link.Back ≡ link_in (cells_view l n) c
  link-back y o = sym (here ∙ of-back c (cell_at l c) (λ q. y (p ∙ q)) (subst (λ (y : ℕ). y ≤ c) p o))

-- A STEP OF THE CHAIN

-- where each next ascends, a step gives its cell's values and the rest of the chain follows from its next
module _ (cs : List Cell) (c : ℕ) (up : Ascends cs) where
  inside : within (length cs) c ≡ true → link_in cs c ≡ link.Cell (cell_in cs c).value (cell_in cs c).other (cell_in cs c).next
  inside w = of-within cs c (within_low (length cs) c w) (within-high (length cs) c w) ∙ go (up c w)
    where
      go : Next cs c → link_of c (cell_in cs c) ≡ link.Cell (cell_in cs c).value (cell_in cs c).other (cell_in cs c).next
      go (last e) = of_zero c (cell_in cs c) e
      go (later a b) = of-later c (cell_in cs c) a

  -- 0, or a number past the cells
  outside : within (length cs) c ≡ false → values_from cs (link_in cs c) ≡ values_from cs link.End
  unfolding link_in
  outside w = decide (eqb c 0) (λ t. rw t) (λ f. decide (ltb (length cs) c) (λ t. rw (f, t)) (λ g.
      let z = eqb-false c 0 f in let h = ltb-false (length cs) c g in clash (within-is (length cs) c (omega arith) h) w))

  pub chain-step : chain_in cs c ≡ values_from cs (link_in cs c)
  chain-step = decide (within (length cs) c) (λ w. chain-is cs c up w ∙ ap (values_from cs) (sym (inside w))) (λ w. chain-none cs c w ∙ sym (outside w))

-- WHAT A STEP TELLS OF THE STORE

-- a cell that a step gave
pub record Here (cs : List Cell) (c v o x : ℕ) : Type 0 where
  pub counted : within (length cs) c ≡ true
  pub value : v ≡ (cell_in cs c).value
  pub other : o ≡ (cell_in cs c).other
  pub next : x ≡ (cell_in cs c).next

-- the words that a step hands out, and 0 where it gives no cell
abbrev word_1 : Link → ℕ
word_1 (link.Cell v o x) = v
word_1 link.End = 0
word_1 link.Absent = 0
word_1 link.Back = 0

abbrev word_2 : Link → ℕ
word_2 (link.Cell v o x) = o
word_2 link.End = 0
word_2 link.Absent = 0
word_2 link.Back = 0

abbrev word_3 : Link → ℕ
word_3 (link.Cell v o x) = x
word_3 link.End = 0
word_3 link.Absent = 0
word_3 link.Back = 0

abbrev pub is_cell : Link → Bool
is_cell (link.Cell v o x) = true
is_cell link.End = false
is_cell link.Absent = false
is_cell link.Back = false

-- what a `match` finds where it is no cell
pub other_tag : (r : Link) → ((v o x : ℕ) → r ≡ link.Cell v o x → ⊥) → is_cell r ≡ false
other_tag (link.Cell v o x) k = absurd (k v o x refl)
other_tag link.End k = refl
other_tag link.Absent k = refl
other_tag link.Back k = refl

-- a cell is given only where one is counted
no_cell_lem : (cs : List Cell) (c : ℕ) → within (length cs) c ≡ false → is_cell (link_in cs c) ≡ false
unfolding link_in
no_cell_lem cs c w = decide (eqb c 0) (λ t. rw t) (λ f. decide (ltb (length cs) c) (λ t. rw (f, t)) (λ g.
    let z = eqb-false c 0 f in let h = ltb-false (length cs) c g in clash (within-is (length cs) c (omega arith) h) w))

pub step-here : (cs : List Cell) (c v o x : ℕ) → link.Cell v o x ≡ link_in cs c → Here cs c v o x
step-here cs c v o x e = decide (within (length cs) c) found (λ w. clash (sym (ap is_cell e)) (no_cell_lem cs c w))
  where
    found : within (length cs) c ≡ true → Here cs c v o x
    found w =
        let q = e ∙ of-within cs c (within_low (length cs) c w) (within-high (length cs) c w) in
        decide (eqb (cell_in cs c).next 0 || ltb c (cell_in cs c).next)
        (λ t. let k = q ∙ of-cell c (cell_in cs c) t in record { counted = w; value = ap word_1 k; other = ap word_2 k; next = ap word_3 k })
        (λ f. clash (sym (ap is_cell q)) (ap is_cell (of_else c (cell_in cs c) f)))

-- where each next ascends, any other outcome says that no cell is counted at c
pub step-none : (cs : List Cell) (c : ℕ) → Ascends cs → is_cell (link_in cs c) ≡ false → within (length cs) c ≡ false
step-none cs c up e = decide (within (length cs) c) (λ w. clash (ap is_cell (inside cs c up w)) e) (λ w. w)

-- the same by the words of the slice, as the readers of records give them
pub record Words (l : List ℕ) (n c v o x : ℕ) : Type 0 where
  pub counted : true ≡ within n c
  pub value : v ≡ (cell_at l c).value
  pub other : o ≡ (cell_at l c).other
  pub next : x ≡ (cell_at l c).next

module _ (l : List ℕ) (n c : ℕ) where
  count_is_lem : length (cells_view l n) ≡ n
  count_is_lem = table-length (λ i. cell_at l (suc i)) n

  pub step_words_lem : (v o x : ℕ) → link.Cell v o x ≡ link_in (cells_view l n) c → Words l n c v o x
  step_words_lem v o x e = record { counted = sym w; value = h.value ∙ ap (λ (y : Cell). y.value) cell; other = h.other ∙ ap (λ (y : Cell). y.other) cell; next = h.next ∙ ap (λ (y : Cell). y.next) cell }
    where
      h : Here (cells_view l n) c v o x
      h = step-here (cells_view l n) c v o x e

      w : within n c ≡ true
      w = rw count_is_lem at h.counted

      cell : cell_in (cells_view l n) c ≡ cell_at l c
      cell = cell-is l n c (within_low n c w) (within-high n c w)

  pub words-none : Ascends (cells_view l n) → is_cell (link_in (cells_view l n) c) ≡ false → false ≡ within n c
  words-none up e = sym (rw count_is_lem at (step-none (cells_view l n) c up e))
