-- How wordeq ends: what holds of its end without a stop, and that it stops only with 6 to 9.
use Prim.Native.Nat.{ℕ}
use Rattle.records.specs.Store.{Store, Out}
use Rattle.records.proofs.Outcomes.{Refused, EndsBy}

-- a refusal of wordeq, met while working
abbrev pub RefusedAtWork : ℕ → Type 0
RefusedAtWork n = Refused 9 n

abbrev pub Ends : {A : Type 0} → (Store → A → Type 0) → Out A → Type 0
Ends P o = EndsBy 9 P o
