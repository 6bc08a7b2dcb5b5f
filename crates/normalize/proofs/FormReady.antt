-- What a form requires follows from an audited store and from arguments that pass.
use mathlib.Core.Path.{◌≡◌}
use mathlib.Core.Bool.{true}
use mathlib.Core.List.{List}
use Prim.Native.Nat.{ℕ}
use Rattle.records.specs.declared.State.{State}
use Rattle.records.specs.Store.{Store, is_string}
use Rattle.records.specs.View.{Lent, store_of}
use Rattle.records.specs.Rules.{is_list}
use Rattle.records.specs.Working.Audited.{Ready}
use Rattle.records.proofs.Lists.{both_left, both_right}
use Rattle.normalize.specs.Normalize.{form_arguments}
use Rattle.normalize.specs.Working.Flat.{bare, Nested}
use Rattle.normalize.proofs.Atoms.{recorded_nested}

module _ {m : Lent} {c : State} (ready : Ready m c) where
  abbrev s : Store
  s = store_of m c

  pub ready_nested : Nested (bare m.terms c.terms m.cells c.cells)
  ready_nested = let n = recorded_nested s ready.audited.recorded in record { ascends = n.ascends; lower = n.lower }

  pub known-list : (known : List ℕ) (t : ℕ) → form_arguments known t s ≡ true → is_list s known ≡ true
  known-list known t e = both_left (is_list s known) _ e

  pub term-string : (known : List ℕ) (t : ℕ) → form_arguments known t s ≡ true → is_string s t ≡ true
  term-string known t e = both_right (is_list s known) _ e
