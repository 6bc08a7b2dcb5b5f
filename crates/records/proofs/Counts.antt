-- Counts of which none is lower, and slices that agree up to them.
use mathlib.Core.Path.{◌≡◌, ap}
use mathlib.Core.List.{List}
use Prim.Native.Nat.{ℕ, suc, ◌≤◌}
use native.Mathlib.Omega.{arith}
use lib.ListN.{length, get_or}
use Rattle.records.specs.declared.State.{State}
use Rattle.records.specs.Lists.{table}
use Rattle.records.specs.Store.{Term, Cell, Store, Room, count}
use Rattle.records.specs.View.{Lent, store_of, term_at, cell_at, pair_at}
use Rattle.records.proofs.Lists.{table_same, table-length}
use Rattle.records.proofs.Views.{table_is}

-- counts that are no higher
pub record Below (c d : State) : Type 0 where
  pub terms : c.terms ≤ d.terms
  pub cells : c.cells ≤ d.cells
  pub chars : c.chars ≤ d.chars
  pub reasons : c.reasons ≤ d.reasons
  pub keys : c.keys ≤ d.keys

-- no count of the store is lower
pub record Higher (s s' : Store) : Type 0 where
  pub terms : count s ≤ count s'
  pub cells : length s.cells ≤ length s'.cells
  pub chars : length s.chars ≤ length s'.chars
  pub reasons : length s.reasons ≤ length s'.reasons
  pub keys : length s.keys ≤ length s'.keys

pub higher-none : (s : Store) → Higher s s
higher-none s = record { terms = omega arith; cells = omega arith; chars = omega arith; reasons = omega arith; keys = omega arith }

pub higher-then : {s s₁ s₂ : Store} → Higher s s₁ → Higher s₁ s₂ → Higher s s₂
higher-then p q =
    let a = p.terms in let b = p.cells in let c = p.chars in let d = p.reasons in let e = p.keys in
    let a₁ = q.terms in let b₁ = q.cells in let c₁ = q.chars in let d₁ = q.reasons in let e₁ = q.keys in
    record { terms = omega arith; cells = omega arith; chars = omega arith; reasons = omega arith; keys = omega arith }

pub higher-below : (m m' : Lent) (c d : State) → Higher (store_of m c) (store_of m' d) → Below c d
higher-below m m' c d x =
    let t₁ = table-length (λ i. term_at m.terms (suc i)) c.terms in
    let t₂ = table-length (λ i. term_at m'.terms (suc i)) d.terms in
    let e₁ = table-length (λ i. cell_at m.cells (suc i)) c.cells in
    let e₂ = table-length (λ i. cell_at m'.cells (suc i)) d.cells in
    let h₁ = table-length (λ i. get_or m.chars i 0) c.chars in
    let h₂ = table-length (λ i. get_or m'.chars i 0) d.chars in
    let r₁ = table-length (pair_at m.reasons) c.reasons in
    let r₂ = table-length (pair_at m'.reasons) d.reasons in
    let k₁ = table-length (pair_at m.keys) c.keys in
    let k₂ = table-length (pair_at m'.keys) d.keys in
    let t = x.terms in let e = x.cells in let h = x.chars in let r = x.reasons in let k = x.keys in
    record { terms = omega arith; cells = omega arith; chars = omega arith; reasons = omega arith; keys = omega arith }

table-lower : {A : Type 0} (f g : ℕ → A) (k n : ℕ) → k ≤ n → table f n ≡ table g n → table f k ≡ table g k
table-lower f g k n h e = table_same f g k (λ i l. table_is f g n i e (omega arith))

same_store : {t t' : List Term} {e e' : List Cell} {h h' : List ℕ} {r r' k k' : List (ℕ × ℕ)} {n : ℕ} {o o' : Room} → t ≡ t' → e ≡ e' → h ≡ h' → r ≡ r' → k ≡ k' → o ≡ o'
    → ◌≡◌ {A = Store} (record { terms = t; cells = e; chars = h; reasons = r; keys = k; names = n; room = o }) (record { terms = t'; cells = e'; chars = h'; reasons = r'; keys = k'; names = n; room = o' })
same_store p q i j l z = cc

-- slices that agree up to some counts agree up to lower ones, such as those of an earlier store
pub agree-below : (m₀ m m' : Lent) (c d : State) → Higher (store_of m₀ c) (store_of m d) → store_of m' d ≡ store_of m d → store_of m' c ≡ store_of m c
agree-below m₀ m m' c d x e =
    let b = higher-below m₀ m c d x in
    let t = table-lower (λ i. term_at m'.terms (suc i)) (λ i. term_at m.terms (suc i)) _ _ b.terms (ap (λ (s : Store). s.terms) e) in
    let l = table-lower (λ i. cell_at m'.cells (suc i)) (λ i. cell_at m.cells (suc i)) _ _ b.cells (ap (λ (s : Store). s.cells) e) in
    let h = table-lower (λ i. get_or m'.chars i 0) (λ i. get_or m.chars i 0) _ _ b.chars (ap (λ (s : Store). s.chars) e) in
    let r = table-lower (pair_at m'.reasons) (pair_at m.reasons) _ _ b.reasons (ap (λ (s : Store). s.reasons) e) in
    let k = table-lower (pair_at m'.keys) (pair_at m.keys) _ _ b.keys (ap (λ (s : Store). s.keys) e) in
    same_store t l h r k (ap (λ (s : Store). s.room) e)
