-- Work in sequence and by cases: what an end without a stop says of each part.
use Rattle.std.specs.Prelude.{if◌then◌else◌}
use mathlib.Core.Path.{◌≡◌, refl}
use mathlib.Core.Bool.{Bool, true, false}
use Prim.Native.Nat.{ℕ}
use native.Mathlib.Omega.{arith}
use Rattle.records.specs.Store.{Store, Out, ok, stop, Work, and_then}

pub stop-not : {A : Type 0} {n : ℕ} {s : Store} {a : A} {X : Type 0} → ◌≡◌ {A = Out A} (stop n) (ok s a) → X
stop-not e = let z : ◌≡◌ {A = ℕ} 0 1 = cc in absurd (omega arith)

pub one_store : {A : Type 0} {s s' : Store} {a b : A} → ok s a ≡ ok s' b → s ≡ s'
one_store e = cc

pub record Came {A B : Type 0} (f : A → Work B) (o : Out A) (s' : Store) (b : B) : Type 0 where
  pub mid : Store
  pub value : A
  pub is : o ≡ ok mid value
  pub rest : f value mid ≡ ok s' b

-- work in sequence that ends well: its first half ended well, and its second from there
pub came : {A B : Type 0} (f : A → Work B) (o : Out A) {s' : Store} {b : B} → and_then f o ≡ ok s' b → Came f o s' b
came f (ok s a) e = record { mid = s; value = a; is = refl; rest = e }
came f (stop n) e = stop-not e

-- the same for a goal: what comes between is a variable, so that goals stay small
pub via : {A B X : Type 0} (f : A → Work B) (o : Out A) {s' : Store} {b : B} → and_then f o ≡ ok s' b → ((s : Store) (a : A) → o ≡ ok s a → f a s ≡ ok s' b → X) → X
via f (ok s a) e k = k s a refl e
via f (stop n) e k = stop-not e

-- work chosen by a test
pub branch : {A X : Type 0} (b : Bool) (m n : Work A) {s s' : Store} {y : A} → (b ≡ true → m s ≡ ok s' y → X) → (b ≡ false → n s ≡ ok s' y → X) → (if b then m else n) s ≡ ok s' y → X
branch true m n f g e = f refl e
branch false m n f g e = g refl e
