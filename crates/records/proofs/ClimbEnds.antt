-- Ends of climbs that are kept by number.
use mathlib.Core.Path.{◌≡◌, refl, sym, ap, ◌∙◌}
use mathlib.Core.Bool.{true}
use mathlib.Core.List.{List}
use Prim.Native.Nat.{ℕ, ◌+◌, ◌≤◌, ◌<◌}
use native.Mathlib.Omega.{arith}
use lib.ListN.{set, get_or, replicate, length-set, length-replicate, get_or-replicate}
use lib.Seq.{get_or-set_same, get_or-set_other}
use lib.Dec.{eqb}
use borrow.Author.Tests.{eqb-true, eqb-false}
use Rattle.records.specs.declared.State.{State}
use Rattle.records.specs.Store.{Store, within, climb, class_up, forest_up, root, top}
use Rattle.records.specs.View.{term_limit, termed}
use Rattle.records.specs.Rules.{ends_rule, label_rule}
use Rattle.records.specs.Working.Leaves.{alike_at, alone_at, class_test}
use Rattle.records.specs.Working.Audited.{Closed, Rooted}
use Rattle.records.specs.Working.ClimbEnds.{End, Ends, Kept, Tested}
use Rattle.records.proofs.Lists.{decide, within-high}
use Rattle.records.proofs.Climbs.{climb_add, Climbing, view_count}
use Rattle.records.proofs.Repeats.{climb_one, climb_enough}
use Rattle.records.proofs.Refines.ClassLaws.{root_ends, top-ends, root_alike, top-alike, Four, four-of, root-here, top-here}

-- a number of a term is a place of a table
pub term_place_lem : (n t : ℕ) → n ≤ term_limit → within n t ≡ true → t < 513
term_place_lem n t h w = let q = within-high n t w in omega arith

module _ (up : ℕ → ℕ) (n : ℕ) where
  -- t ends where a number ends that it leads to
  pub climbing_kept : (t x i r : ℕ) → Closed up n → within n t ≡ true → Climbing up n t x i → End up n x r → r ≡ climb up n t
  climbing_kept t x i r h w p e =
      let f : climb up (i + n) t ≡ r = climb_add up i n t ∙ ap (climb up n) p.led ∙ e.reached in
      let g : up (climb up (i + n) t) ≡ climb up (i + n) t = ap up f ∙ e.self ∙ sym f in
      sym f ∙ climb_one up (i + n) n t g (climb_enough up n t h w (i + n) g)

  module _ (l : n ≤ term_limit) where
    pub ends-none : Ends up n (replicate 513 0)
    ends-none = record { size = length-replicate {A = ℕ} 513 0; entries = λ t w k. absurd (k (get_or-replicate 513 t 0 0 (term_place_lem n t l w))) }

    pub ends_more : (table : List ℕ) (t r : ℕ) → within n t ≡ true → End up n t r → Ends up n table → Ends up n (set table t r)
    ends_more table t r w e k =
        record { size = length-set table t r ∙ k.size; entries = λ x v q. decide (eqb x t) (λ f. same x (eqb-true x t f)) (λ f. other x (eqb-false x t f) v q) }
      where
        same : (x : ℕ) → x ≡ t → End up n x (get_or (set table t r) x 0)
        same x z = rw (z, get_or-set_same table t r 0 (let p = term_place_lem n t l w in let u = k.size in omega arith)) e

        other : (x : ℕ) → (x ≡ t → ⊥) → within n x ≡ true → (get_or (set table t r) x 0 ≡ 0 → ⊥) → End up n x (get_or (set table t r) x 0)
        other x d v q = let g = get_or-set_other table t x r 0 d in rw g (k.entries x v (λ z. q (g ∙ z)))

-- THE TABLES OF THE AUDIT

pub kept-none : (s : Store) (n : ℕ) → n ≤ term_limit → Kept s n (replicate 513 0) (replicate 513 0)
kept-none s n h = record { classes = ends-none _ _ h; trees = ends-none _ _ h }

-- where t's test has passed, its two roots are their own parents, and each is the end of the other's table too
module _ (l : List ℕ) (c : State) (t r q : ℕ) (h : Rooted (termed l c) c.terms t r q) (e : class_test (termed l c) t ≡ true) where
  abbrev s : Store
  s = termed l c

  passes : Four (ends_rule s t) (alike_at s t) (label_rule s t) (alone_at s t)
  unfolding class_test
  passes = four-of _ _ _ _ e

  class-end : (x : ℕ) → root s x ≡ root s t → End (class_up s.terms) c.terms x r
  class-end x f = record { reached = rw (view_count l c.terms) at (f ∙ sym h.root_is); self = rw h.root_is (root_ends s t passes.one) }

  tree-end : (x : ℕ) → top s x ≡ top s t → End (forest_up s.terms) c.terms x q
  tree-end x f = record { reached = rw (view_count l c.terms) at (f ∙ sym h.top_is); self = rw h.top_is (top-ends s t passes.one) }

  pub tested_more : (roots tops roots' tops' : List ℕ) → c.terms ≤ term_limit → Kept s c.terms roots tops → roots' ≡ set (set roots t r) q r → tops' ≡ set (set tops t q) r q → Tested s c.terms t true roots' tops'
  tested_more roots tops roots' tops' b k f g = record {
    is = sym e;
    kept = record {
      classes = rw f (ends_more _ _ b _ q r (top-here l c t r q h) (class-end q (rw h.top_is (root_alike s t passes.two))) (ends_more _ _ b roots t r h.here (class-end t refl) k.classes));
      trees = rw g (ends_more _ _ b _ r q (root-here l c t r q h) (tree-end r (rw h.root_is (top-alike s t passes.two))) (ends_more _ _ b tops t q h.here (tree-end t refl) k.trees));
    };
  }
