-- The rule of a term by its kind, and of every record (src/rules.rt).
use mathlib.Core.Path.{◌≡◌, refl, sym, ◌∙◌}
use mathlib.Core.Bool.{Bool, false, ◌&&◌}
use mathlib.Core.List.{List, []}
use Prim.Native.Nat.{ℕ}
use borrow.Author.Tests.{ne_eqb}
use Rattle.records.specs.declared.State.{State}
use Rattle.records.specs.Lists.{all}
use Rattle.records.specs.Store.{Store, term}
use Rattle.records.specs.View.{lent, store_of, pairs_view}
use Rattle.records.specs.Rules.{text_rule, named, name_rule, part_rule, concat_rule, length_rule, is_equatable, equation_rule, term_rule, cell_rule, key_rule, each_term, each_cell}
use Rattle.records.proofs.Lists.{or_none_lem}

module _ (s : Store) (t k : ℕ) (r : Bool) (e : k ≡ (term s t).kind) where
  pub term-constant : k ≡ 1 → r ≡ text_rule s t → r ≡ term_rule s t
  unfolding term_rule
  term-constant z q = rw (sym e ∙ z) (simp or_none_lem q)

  pub term-variable : k ≡ 2 → r ≡ (text_rule s t && name_rule s t) → r ≡ term_rule s t
  unfolding term_rule
  term-variable z q = rw (sym e ∙ z) (simp or_none_lem q)

  pub term-concat : k ≡ 3 → r ≡ concat_rule s t → r ≡ term_rule s t
  unfolding term_rule
  term-concat z q = rw (sym e ∙ z) (simp or_none_lem q)

  pub term-length : k ≡ 4 → r ≡ length_rule s t → r ≡ term_rule s t
  unfolding term_rule
  term-length z q = rw (sym e ∙ z) (simp or_none_lem q)

  pub term-equation : k ≡ 5 → r ≡ equation_rule s t → r ≡ term_rule s t
  unfolding term_rule
  term-equation z q = rw (sym e ∙ z) q

pub term-other : (s : Store) (t k : ℕ) → k ≡ (term s t).kind → (k ≡ 1 → ⊥) → (k ≡ 2 → ⊥) → (k ≡ 3 → ⊥) → (k ≡ 4 → ⊥) → (k ≡ 5 → ⊥) → false ≡ term_rule s t
unfolding term_rule
term-other s t k e a b c d f = rw (← e, ne_eqb k 1 a, ne_eqb k 2 b, ne_eqb k 3 c, ne_eqb k 4 d, ne_eqb k 5 f)

-- A rule reads no more of the store than the slices that its function takes

module _ (l e h : List ℕ) (c : State) where
  abbrev two : Store
  two = store_of (lent l [] h [] []) c

  abbrev three : Store
  three = store_of (lent l e h [] []) c

  pub variable-of : (t : ℕ) → (text_rule two t && name_rule two t) ≡ (text_rule three t && name_rule three t)
  unfolding text_rule name_rule named
  variable-of t = refl

  pub concat_of_lem : (t : ℕ) → concat_rule (store_of (lent l e [] [] []) c) t ≡ concat_rule three t
  unfolding concat_rule part_rule
  concat_of_lem t = refl

  pub length_of_term : (t : ℕ) → length_rule (store_of (lent l [] [] [] []) c) t ≡ length_rule three t
  unfolding length_rule
  length_of_term t = refl

  pub equation_of_lem : (t : ℕ) → equation_rule (store_of (lent l [] [] [] []) c) t ≡ equation_rule three t
  unfolding equation_rule is_equatable
  equation_of_lem t = refl

-- EVERY RECORD

module _ (l e h r k : List ℕ) (c : State) where
  abbrev whole : Store
  whole = store_of (lent l e h r k) c

  abbrev terms_pass : Bool
  terms_pass = each_term whole (term_rule whole)

  abbrev cells_pass : Bool
  cells_pass = each_cell whole (cell_rule whole)

  abbrev keys_pass : Bool
  keys_pass = all (key_rule whole) (pairs_view k c.keys)

  pub terms-of : each_term (store_of (lent l e h [] []) c) (term_rule (store_of (lent l e h [] []) c)) ≡ terms_pass
  unfolding term_rule text_rule name_rule named concat_rule part_rule length_rule equation_rule is_equatable
  terms-of = refl

  pub cells_of : each_cell (store_of (lent [] e [] [] []) c) (cell_rule (store_of (lent [] e [] [] []) c)) ≡ cells_pass
  unfolding cell_rule
  cells_of = refl

  pub keys_of : all (key_rule (store_of (lent l [] [] [] []) c)) (pairs_view k c.keys) ≡ keys_pass
  unfolding key_rule
  keys_of = refl
