-- Part of the way through a call: the slices and counts so far, what their store is to the one at entry, that what was counted at entry
-- is kept, and that they are what the next working function requires.
use mathlib.Core.Path.{ap, ◌∙◌}
use Rattle.records.specs.declared.State.{State}
use Rattle.records.specs.Store.{Out, ok, Work, and_then, ◌>>=◌}
use Rattle.records.specs.View.{Lent, store_of}
use Rattle.records.specs.Working.Audited.{Ready}
use Rattle.records.specs.Working.Doing.{Keeps, Working}
use Rattle.records.proofs.IndexStores.{keeps_same, keeps_then}
use Rattle.records.proofs.LaterStores.{Later, later-none, later_then, later-higher}

pub record Carried (m₀ : Lent) (c₀ : State) (m : Lent) (c : State) : Type 0 where
  pub later : Later (store_of m₀ c₀) (store_of m c)
  pub kept : Keeps m₀ m c₀
  pub ready : Ready m c

pub carried_none : {m : Lent} {c : State} → Ready m c → Carried m c m c
carried_none r = record { later = later-none r.audited; kept = keeps_same; ready = r }

module _ {m₀ m : Lent} {c₀ c : State} (x : Carried m₀ c₀ m c) where
  pub carried-kept : (m' : Lent) → Keeps m m' c → Keeps m₀ m' c₀
  carried-kept m' e = keeps_then (later-higher x.later) x.kept e

  pub carried-then : (m' : Lent) (c' : State) → Keeps m m' c → Later (store_of m c) (store_of m' c') → Ready m' c' → Carried m₀ c₀ m' c'
  carried-then m' c' e l r = record { later = later_then x.later l; kept = carried-kept m' e; ready = r }

  -- the call goes on from there
  pub carried_on : {A B : Type 0} {w : Work A} (f : A → Work B) {a : A} → Working w m₀ m c₀ (ok (store_of m c) a) → {m' : Lent} {o : Out B} → Working (f a) m m' c o → Working (w >>= f) m₀ m' c₀ o
  carried_on f w {m'} v = record { says = ap (and_then f) w.says ∙ v.says; kept = carried-kept m' v.kept; ready = v.ready }
