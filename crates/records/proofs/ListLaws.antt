-- A list of string terms, as the calls take it, and where it stays one.
use mathlib.Core.Path.{◌≡◌, sym, ap, ◌∙◌}
use mathlib.Core.Bool.{true}
use mathlib.Core.List.{List}
use Prim.Native.Nat.{ℕ, ◌≤◌}
use native.Mathlib.Omega.{arith}
use lib.ListN.{length}
use lib.Dec.{leb}
use borrow.Author.Tests.{leb-true}
use Rattle.records.specs.declared.State.{State}
use Rattle.records.specs.Lists.{all}
use Rattle.records.specs.Store.{Term, Store, within, term_in, is_string}
use Rattle.records.specs.View.{Lent, store_of}
use Rattle.records.specs.Rules.{list_limit, is_list}
use Rattle.records.specs.Calls.{KeepsStore}
use Rattle.records.proofs.Lists.{both_left, both_right, both_true, all_every, every_all, every_map, within_low, within-high}
use Rattle.records.proofs.Views.{term_is}
use Rattle.records.proofs.Counts.{Higher, higher-below}
use Rattle.records.proofs.Climbs.{string-within}
use Rattle.records.proofs.Grown.{Strings}

module _ (s : Store) (l : List ℕ) (e : is_list s l ≡ true) where
  pub list-short : length l ≤ list_limit
  list-short = leb-true (length l) list_limit (both_left (leb (length l) list_limit) (all (is_string s) l) e)

  pub list-strings : all (is_string s) l ≡ true
  list-strings = both_right (leb (length l) list_limit) _ e

  pub list_every : Strings s l
  list_every = all_every (is_string s) l list-strings

-- where what was counted is kept and no count is lower, a string term stays one
module _ (m m' : Lent) (c d : State) (higher : Higher (store_of m c) (store_of m' d)) (kept : KeepsStore m m' c) where
  pub string-stays : (v : ℕ) → is_string (store_of m c) v ≡ true → is_string (store_of m' d) v ≡ true
  string-stays v h =
      let z = string-within m c v h in
      let low = within_low c.terms v z in
      let high = within-high c.terms v z in
      let b = (higher-below m m' c d higher).terms in
      ap (λ (x : Term). within 3 x.kind)
      (term_is m'.terms d.terms v low (omega arith) ∙ sym (term_is m'.terms c.terms v low high) ∙ ap (λ (s : Store). term_in s.terms v) kept)
      ∙ h

  pub list-stays : (l : List ℕ) → is_list (store_of m c) l ≡ true → is_list (store_of m' d) l ≡ true
  list-stays l h = both_true _ _ (both_left (leb (length l) list_limit) _ h) (every_all (every_map string-stays (list_every (store_of m c) l h)))
