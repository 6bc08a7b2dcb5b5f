-- How a form ends: what holds of its end without a stop, and that it stops only with 6, 7 or 8.
use Rattle.records.specs.Store.{Store, Out}
use Rattle.records.proofs.Outcomes.{EndsBy}

abbrev pub Ends : {A : Type 0} → (Store → A → Type 0) → Out A → Type 0
Ends P o = EndsBy 8 P o
