-- Adding a key: the ways through, over the store that is seen.
use mathlib.Core.Path.{◌≡◌, refl}
use mathlib.Core.Bool.{Bool, true, false}
use mathlib.Core.List.{List}
use Prim.Native.Nat.{ℕ, ◌+◌, min, max}
use native.Mathlib.Numerals.{add-one}
use lib.ListN.{length}
use lib.Dec.{ltb}
use Rattle.records.specs.declared.State.{State}
use Rattle.records.specs.Lists.{one_more}
use Rattle.records.specs.Store.{ok, stop}
use Rattle.records.specs.View.{lent, store_of, pair_at, pairs_view, key_room, one_key}
use Rattle.records.specs.Rules.{key_rule}
use Rattle.records.specs.Make.{add_key, ordered}
use Rattle.records.specs.Working.Audited.{Ready}
use Rattle.records.specs.Working.Puts.{PairPut}
use Rattle.records.specs.Working.Doing.{Working}
use Rattle.records.proofs.Lists.{table-length}
use Rattle.records.proofs.Kept.{key_audited}
use Rattle.records.proofs.IndexStores.{keeps_same, keeps-terms}
use Rattle.records.proofs.Passed.{ready-beside}
use Rattle.records.proofs.Doing.{working_left, working_stopped}

-- KEYS

module _ (t e h r k : List ℕ) (c : State) (ready : Ready (lent t e h r k) c) (a b : ℕ) (good : key_rule (store_of (lent t e h r k) c) (ordered a b) ≡ true) (fits : Bool) (p : fits ≡ ltb c.keys (key_room k)) where
  pub key_added : (k' : List ℕ) (x y : ℕ) (d : State) → x ≡ min a b → y ≡ max a b → PairPut k k' c.keys x y → length k' ≡ length k → fits ≡ true → d ≡ one_key c
      → Working (add_key a b) (lent t e h r k) (lent t e h r k') c (ok (store_of (lent t e h r k') d) tt)
  unfolding add_key
  key_added k' x y d o u w n f q =
      let g : pairs_view k' (c.keys + 1) ≡ one_more (pairs_view k c.keys) (x, y) = rw add-one w.grown in
      let e₁ : store_of (lent t e h r k') c ≡ store_of (lent t e h r k) c = rw (w.kept, n) in
      let says : add_key a b (store_of (lent t e h r k) c) ≡ ok (store_of (lent t e h r k') d) tt = rw (table-length (pair_at k) c.keys, ← p, f, q, n, g, o, u) in
      working_left (ready-beside ready e₁ refl (key_audited a b (store_of (lent t e h r k) c) (store_of (lent t e h r k') d) ready.audited good says) (rw q (record { terms = refl; cells = refl; chars = refl })))
      says (keeps-terms e₁ refl)

  pub key_refused : fits ≡ false → Working (add_key a b) (lent t e h r k) (lent t e h r k) c (stop 8)
  unfolding add_key
  key_refused f = working_stopped (rw (table-length (pair_at k) c.keys, ← p, f)) keeps_same
