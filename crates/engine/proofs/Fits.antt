-- Pairs that explain walks: two terms of one tree, the stamps of their path below a number.
use mathlib.Core.Path.{◌≡◌}
use mathlib.Core.List.{List, [], ◌∷◌}
use Prim.Native.Nat.{ℕ, ◌≤◌, ◌<◌}
use native.Mathlib.Omega.{arith}
use Rattle.records.specs.Lists.{Every, none_left, and}
use Rattle.records.specs.Store.{Store, term, chain, path}
use Rattle.records.specs.Working.Audited.{Audited, Congruent}
use Rattle.records.proofs.Lists.{every_map, every_both}
use Rattle.records.proofs.Readings.{pairs-terms}
use Rattle.engine.specs.Explain.{highest, height}
use Rattle.engine.proofs.Paths.{Together, together-turned, path_turned, path_joins}

pub record Fit (s : Store) (m : ℕ) (p : ℕ × ℕ) : Type 0 where
  pub together : Together s p
  pub stamps : Every (λ e. (term s e).stamp < m) (path s p.0 p.1)

-- HEIGHTS

highest-low : (s : Store) (m : ℕ) {l : List ℕ} → Every (λ e. (term s e).stamp < m) l → highest s.terms l ≤ m
unfolding highest
highest-low s m none_left = omega arith
highest-low s m (and h k) = let i = highest-low s m k in omega arith

pub highest-high : (s : Store) (m : ℕ) (l : List ℕ) → highest s.terms l ≤ m → Every (λ e. (term s e).stamp < m) l
unfolding highest
highest-high s m [] h = none_left
highest-high s m (e ∷ l) h = let i : (term s e).stamp < m = omega arith in and i (highest-high s m l (omega arith))

-- a pair fits below m exactly where its height is at most m
pub fit-height : {s : Store} {m : ℕ} {p : ℕ × ℕ} → Fit s m p → height s p ≤ m
fit-height {s} {m} f = highest-low s m f.stamps

pub height-fit : {s : Store} (m : ℕ) {p : ℕ × ℕ} → Together s p → height s p ≤ m → Fit s m p
height-fit {s} m t h = record { together = t; stamps = highest-high s m _ h }

pub fit-more : {s : Store} {m n : ℕ} {p : ℕ × ℕ} → m ≤ n → Fit s m p → Fit s n p
fit-more h f = record { together = f.together; stamps = every_map (λ e l. omega arith) f.stamps }

pub fit-turned : {s : Store} {m a b : ℕ} → Audited s → Fit s m (a, b) → Fit s m (b, a)
fit-turned {s} {m} {a} {b} d f = record { together = together-turned f.together; stamps = path_turned s d (a, b) f.together f.stamps }

-- no stamp is below 0, so the path is empty
pub fit-zero : {s : Store} {p : ℕ × ℕ} → Audited s → Fit s 0 p → p.0 ≡ p.1
fit-zero {s} {p} d f = path_joins s d (λ (x : ℕ). x) p f.together (every_map (λ e l. absurd (omega arith)) f.stamps)

-- THE PAIRS OF A CONGRUENCE EDGE

pub pairs-fit : (s : Store) → Audited s → (t : ℕ) → Congruent s t → Every (Fit s (term s t).stamp) (chain s (term s t).label_value)
pairs-fit s d t c =
    every_map (λ p q. record { together = record { left = q.0.0; right = q.0.1; tree = q.1.tree }; stamps = q.1.stamps })
    (every_both (pairs-terms s d.recorded t c) c.falls)
