-- A root put under a term of another tree: two numbers lead to one root exactly where they did, or where one led to the one root and the
-- other to the other.
use mathlib.Core.Path.{◌≡◌, sym, ◌∙◌}
use mathlib.Core.Bool.{true}
use Prim.Native.Nat.{ℕ}
use native.Mathlib.Decide.{ℕ_discrete}
use Rattle.records.specs.Store.{within, climb}
use Rattle.records.proofs.Climbs.{climb-stays}
use Rattle.classes.proofs.MovedClimbs.{Moved, other-walk, moved_root}

-- what joining a and b makes of a division: t and u are together where they were, or one was with a and the other with b
pub data Joint (f : ℕ → ℕ) (a b t u : ℕ) : Type 0 where
  were : f t ≡ f u → Joint f a b t u
  across : f t ≡ f a → f u ≡ f b → Joint f a b t u
  back : f t ≡ f b → f u ≡ f a → Joint f a b t u

-- named by other terms of the two
pub joint_at : {f : ℕ → ℕ} {a b c d t u : ℕ} → f a ≡ f c → f b ≡ f d → Joint f a b t u → Joint f c d t u
joint_at e g (were p) = were p
joint_at e g (across p q) = across (p ∙ e) (q ∙ g)
joint_at e g (back p q) = back (p ∙ g) (q ∙ e)

-- told by another division that has together what this one has
pub joint_map : {f g : ℕ → ℕ} {a b t u : ℕ} (n : ℕ) → ((x y : ℕ) → within n x ≡ true → within n y ≡ true → f x ≡ f y → g x ≡ g y)
    → within n a ≡ true → within n b ≡ true → within n t ≡ true → within n u ≡ true → Joint f a b t u → Joint g a b t u
joint_map n h wa wb wt wu (were p) = were (h _ _ wt wu p)
joint_map n h wa wb wt wu (across p q) = across (h _ _ wt wa p) (h _ _ wu wb q)
joint_map n h wa wb wt wu (back p q) = back (h _ _ wt wb p) (h _ _ wu wa q)

module _ {up up' : ℕ → ℕ} {n child parent : ℕ} (m : Moved up up' n child parent) (t u : ℕ) (wt : within n t ≡ true) (wu : within n u ≡ true) where
  self : climb up n child ≡ child
  self = climb-stays up n child m.self

  pub joint_moved : Joint (climb up n) child parent t u → climb up' n t ≡ climb up' n u
  joint_moved (were e) = go (ℕ_discrete (climb up n t) child)
    where
      go : Dec (climb up n t ≡ child) → climb up' n t ≡ climb up' n u
      go (yes q) = moved_root m t wt q ∙ sym (moved_root m u wu (sym e ∙ q))
      go (no d) = other-walk m n t wt d ∙ e ∙ sym (other-walk m n u wu (λ q. d (e ∙ q)))
  joint_moved (across e g) = moved_root m t wt (e ∙ self) ∙ sym g ∙ sym (other-walk m n u wu (λ q. m.apart (sym g ∙ q)))
  joint_moved (back e g) = other-walk m n t wt (λ q. m.apart (sym e ∙ q)) ∙ e ∙ sym (moved_root m u wu (g ∙ self))

  pub moved_joint : climb up' n t ≡ climb up' n u → Joint (climb up n) child parent t u
  moved_joint e = go (ℕ_discrete (climb up n t) child) (ℕ_discrete (climb up n u) child)
    where
      go : Dec (climb up n t ≡ child) → Dec (climb up n u ≡ child) → Joint (climb up n) child parent t u
      go (yes p) (yes q) = were (p ∙ sym q)
      go (yes p) (no q) = across (p ∙ sym self) (sym (other-walk m n u wu q) ∙ sym e ∙ moved_root m t wt p)
      go (no p) (yes q) = back (sym (other-walk m n t wt p) ∙ e ∙ moved_root m u wu q) (q ∙ sym self)
      go (no p) (no q) = were (sym (other-walk m n t wt p) ∙ e ∙ other-walk m n u wu q)
