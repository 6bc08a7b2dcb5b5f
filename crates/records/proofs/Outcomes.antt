-- How work ends: what holds of its end without a stop, and that it stops only with a number from 6 to the last of its refusals.
use Rattle.std.specs.Prelude.{if◌then◌else◌}
use mathlib.Core.Path.{◌≡◌, refl, subst}
use mathlib.Core.Bool.{Bool, true, false}
use Prim.Native.Nat.{ℕ, ◌≤◌}
use native.Mathlib.Omega.{arith}
use Rattle.records.specs.Store.{Store, Out, ok, stop, Work, and_then}
use Rattle.records.proofs.Works.{stop-not}

-- a refusal met while working
pub record Refused (last n : ℕ) : Type 0 where
  pub from : 6 ≤ n
  pub to : n ≤ last

-- one number, and among more refusals
pub refused-by : {last n : ℕ} (k : ℕ) → 6 ≤ k → k ≤ last → n ≡ k → Refused last n
refused-by k p q e = record { from = omega arith; to = omega arith }

pub refused_wider : {last more n : ℕ} → last ≤ more → Refused last n → Refused more n
refused_wider h k = let i = k.to in record { from = k.from; to = omega arith }

module _ {A : Type 0} where
  pub record EndsBy (last : ℕ) (P : Store → A → Type 0) (o : Out A) : Type 0 where
    pub given : (s : Store) (a : A) → o ≡ ok s a → P s a
    pub stopped : (n : ℕ) → o ≡ stop n → Refused last n

module _ {A : Type 0} {last : ℕ} where
  pub ends-give : {P : Store → A → Type 0} {s : Store} {a : A} → P s a → EndsBy last P (ok s a)
  ends-give {P} {s} {a} h = record { given = λ s₁ b e. at (cc) (cc); stopped = λ n e. (let z : ◌≡◌ {A = ℕ} 0 1 = cc in absurd (omega arith)) }
    where
      at : {s₁ : Store} {b : A} → s ≡ s₁ → a ≡ b → P s₁ b
      at {s₁} p q = subst (λ (x : A). P s₁ x) q (subst (λ (x : Store). P x a) p h)

  -- of work that stops with one number only
  pub ends_by : {P : Store → A → Type 0} {o : Out A} (k : ℕ) → 6 ≤ k → k ≤ last → ((s : Store) (a : A) → o ≡ ok s a → P s a) → ((n : ℕ) → o ≡ stop n → n ≡ k) → EndsBy last P o
  ends_by k p q f g = record { given = f; stopped = λ n e. (let z = g n e in record { from = omega arith; to = omega arith }) }

  pub ends_if : {P : Store → A → Type 0} (b : Bool) (m n : Work A) {s : Store} → (b ≡ true → EndsBy last P (m s)) → (b ≡ false → EndsBy last P (n s)) → EndsBy last P ((if b then m else n) s)
  ends_if true m n f g = f refl
  ends_if false m n f g = g refl

  pub ends-map : {P Q : Store → A → Type 0} {o : Out A} → ((s : Store) (a : A) → P s a → Q s a) → EndsBy last P o → EndsBy last Q o
  ends-map f e = record { given = λ s a i. f s a (e.given s a i); stopped = e.stopped }

  -- among more refusals
  pub ends_wider : {more : ℕ} {P : Store → A → Type 0} {o : Out A} → last ≤ more → EndsBy last P o → EndsBy more P o
  ends_wider h e = record { given = e.given; stopped = λ n q. (let k = e.stopped n q in let i = k.to in record { from = k.from; to = omega arith }) }

module _ {A B : Type 0} {last : ℕ} where
  pub ends-then : {P : Store → A → Type 0} {Q : Store → B → Type 0} (f : A → Work B) (o : Out A) → EndsBy last P o → ((s : Store) (a : A) → P s a → EndsBy last Q (f a s)) → EndsBy last Q (and_then f o)
  ends-then f (ok s a) e k = k s a (e.given s a refl)
  ends-then f (stop n) e k = record { given = λ s a q. stop-not q; stopped = λ m q. e.stopped m (cc) }
