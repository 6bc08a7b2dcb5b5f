-- The equation of walk without its height: a height beyond the pair's changes nothing.
use Rattle.std.specs.Prelude.{if◌then◌else◌}
use mathlib.Core.Path.{◌≡◌, refl, sym, ap, ◌∙◌}
use mathlib.Core.Bool.{Bool, true, false, ◌||◌}
use mathlib.Core.List.{List, ◌∷◌, ◌++◌}
use Prim.Native.Nat.{ℕ, zero, suc, ◌≤◌, ◌<◌}
use native.Mathlib.Omega.{arith}
use lib.Dec.{eqb}
use borrow.Author.Tests.{eq-eqb}
use Rattle.records.specs.Lists.{Every, none_left, and}
use Rattle.records.specs.Store.{Store, Work, and_then, give, term, is_term, path, is_edge}
use Rattle.records.specs.Make.{with_reasons, ordered}
use Rattle.records.specs.Working.Audited.{Audited, Label, asserted, interface, congruence, definitional}
use Rattle.records.proofs.Lists.{every_both}
use Rattle.engine.specs.Explain.{Seen, was_seen, each, edge, walk, walked, height}
use Rattle.engine.proofs.Paths.{Together, path_edges}
use Rattle.engine.proofs.Fits.{Fit, fit-zero, fit-more, fit-height, height-fit, highest-high, pairs-fit}
use Rattle.engine.proofs.Cites.{citing-same}
use Rattle.records.proofs.LaterStores.{Added}
use Rattle.engine.proofs.Run.{Run, EqualOrSeen, Accounted, edge-run, walk-run}

module _ (s : Store) where
  -- two works do the same at each store with the terms, cells and room of s
  abbrev pub Same : Work Seen → Work Seen → Type 0
  Same f g = (rs : List (ℕ × ℕ)) → f (with_reasons s rs) ≡ g (with_reasons s rs)

  each_same : {A : Type 0} (f g : A → Seen → Work Seen) (Q : A → Type 0) (J : A → List (ℕ × ℕ) → Seen → Type 0)
      → ((a : A) → Q a → (seen : Seen) → Run s (f a seen) seen (J a)) → ((a : A) → Q a → (seen : Seen) → Same (f a seen) (g a seen))
      → {l : List A} → Every Q l → (seen : Seen) → Same (each f l seen) (each g l seen)
  unfolding each
  each_same f g Q J good same none_left seen rs = refl
  each_same f g Q J good same (and {a = a} {l = l} q k) seen rs =
      let x = good a q seen in
      ap (and_then (each f l)) (x.is s.room.reasons rs) ∙ citing-same s (each f l) (each g l) x.cited x.after (each_same f g Q J good same k x.after) rs
      ∙ ap (and_then (each g l)) (sym (x.is s.room.reasons rs) ∙ same a q seen rs)

-- one level of walk, each pair below walked with its own height
abbrev pub level : Store → ℕ × ℕ → Seen → Work Seen
level s p seen = if eqb p.0 p.1 || was_seen p seen then give seen else each (edge walked) (path s p.0 p.1) (ordered p.0 p.1 ∷ seen)

module _ (s : Store) (d : Audited s) where
  -- the edge's pairs are walked below its stamp
  edge_same : (h : ℕ) (g : ℕ × ℕ → Seen → Work Seen) (t : ℕ) → is_term s t ≡ true → is_edge s t ≡ true → (term s t).stamp ≤ h
      → ((q : ℕ × ℕ) → Fit s (term s t).stamp q → (seen : Seen) → Same s (walk h q seen) (g q seen)) → (seen : Seen) → Same s (edge (walk h) t seen) (edge g t seen)
  unfolding edge
  edge_same h g t i e b same seen rs = go (d.classed.labels t i e)
    where
      go : Label s t → edge (walk h) t seen (with_reasons s rs) ≡ edge g t seen (with_reasons s rs)
      go (asserted k n) = rw k
      go (interface k n) = rw k
      go (congruence k) =
          rw k (each_same s (walk h) g (Fit s (term s t).stamp) (λ p l v. EqualOrSeen v p) (λ p f. walk-run s d h p (fit-more b f)) same (pairs-fit s d t (d.congruences t e k)) seen rs)
      go (definitional k n) = rw k

  level-same : (h : ℕ) (g : ℕ × ℕ → Seen → Work Seen) (p : ℕ × ℕ) → Fit s (suc h) p
      → ((m : ℕ) → m < height s p → (q : ℕ × ℕ) → Fit s m q → (seen : Seen) → Same s (walk h q seen) (g q seen))
      → (seen : Seen) → Same s (each (edge (walk h)) (path s p.0 p.1) seen) (each (edge g) (path s p.0 p.1) seen)
  level-same h g p f same =
      each_same s (edge (walk h)) (edge g) (λ t. ((is_term s t ≡ true) × (is_edge s t ≡ true)) × ((term s t).stamp < height s p)) (λ t l v. Accounted s l v t)
      (λ t q. edge-run s d h (walk-run s d h) t q.0.0 q.0.1 (low t q.1))
      (λ t q. edge_same h g t q.0.0 q.0.1 (low t q.1) (same (term s t).stamp q.1))
      (every_both (path_edges s d p f.together) (highest-high s (height s p) (path s p.0 p.1) (omega arith)))
    where
      low : (t : ℕ) → (term s t).stamp < height s p → (term s t).stamp ≤ h
      low t l = let m = fit-height f in omega arith

  -- any height that is enough does the same
  pub walk_enough : (h k : ℕ) (p : ℕ × ℕ) → Fit s h p → Fit s k p → (seen : Seen) → Same s (walk h p seen) (walk k p seen)
  unfolding walk
  walk_enough zero zero p f g seen rs = refl
  walk_enough zero (suc k) p f g seen rs = rw (eq-eqb p.0 p.1 (fit-zero d f))
  walk_enough (suc h) zero p f g seen rs = rw (eq-eqb p.0 p.1 (fit-zero d g))
  walk_enough (suc h) (suc k) p f g seen rs = go (eqb p.0 p.1 || was_seen p seen)
      (level-same h (walk k) p f (λ m l q i. walk_enough h k q (fit-more (let a = fit-height f in omega arith) i) (fit-more (let a = fit-height g in omega arith) i)) (ordered p.0 p.1 ∷ seen) rs)
    where
      go : (b : Bool) → each (edge (walk h)) (path s p.0 p.1) (ordered p.0 p.1 ∷ seen) (with_reasons s rs) ≡ each (edge (walk k)) (path s p.0 p.1) (ordered p.0 p.1 ∷ seen) (with_reasons s rs)
          → (if b then give seen else each (edge (walk h)) (path s p.0 p.1) (ordered p.0 p.1 ∷ seen)) (with_reasons s rs)
          ≡ (if b then give seen else each (edge (walk k)) (path s p.0 p.1) (ordered p.0 p.1 ∷ seen)) (with_reasons s rs)
      go true e = refl
      go false e = e

  level-is : (h : ℕ) (p : ℕ × ℕ) → Fit s h p → (seen : Seen) → Same s (walk h p seen) (level s p seen)
  unfolding walk walked
  level-is zero p f seen rs = rw (eq-eqb p.0 p.1 (fit-zero d f))
  level-is (suc h) p f seen rs = go (eqb p.0 p.1 || was_seen p seen)
      (level-same h walked p f (λ m l q i. walk_enough h (height s q) q (fit-more (let a = fit-height f in omega arith) i) (height-fit (height s q) i.together (omega arith))) (ordered p.0 p.1 ∷ seen) rs)
    where
      go : (b : Bool) → each (edge (walk h)) (path s p.0 p.1) (ordered p.0 p.1 ∷ seen) (with_reasons s rs) ≡ each (edge walked) (path s p.0 p.1) (ordered p.0 p.1 ∷ seen) (with_reasons s rs)
          → (if b then give seen else each (edge (walk h)) (path s p.0 p.1) (ordered p.0 p.1 ∷ seen)) (with_reasons s rs)
          ≡ (if b then give seen else each (edge walked) (path s p.0 p.1) (ordered p.0 p.1 ∷ seen)) (with_reasons s rs)
      go true e = refl
      go false e = e

  pub walked_same : (p : ℕ × ℕ) → Together s p → (seen : Seen) → Same s (walked p seen) (level s p seen)
  unfolding walked
  walked_same p t seen rs = level-is (height s p) p (height-fit (height s p) t (omega arith)) seen rs

-- the equation without the height, in a store with more reasons than the one that was audited
pub walk_is : {s s₁ : Store} → Audited s → Added s s₁ → (p : ℕ × ℕ) → Together s p → (seen : Seen) → walked p seen s₁ ≡ level s₁ p seen s₁
walk_is {s} d a p t seen = rw a.is (walked_same s d p t seen (s.reasons ++ a.more))
