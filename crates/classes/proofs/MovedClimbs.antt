-- Following parents once a root, `child`, has been put under `parent`, which another root is above.
use mathlib.Core.Path.{◌≡◌, refl, sym, ap, ◌∙◌}
use mathlib.Core.Bool.{true}
use Prim.Native.Nat.{ℕ, zero, suc}
use native.Mathlib.Decide.{ℕ_discrete}
use Rattle.records.specs.Store.{within, climb}
use Rattle.records.specs.Working.Audited.{Closed}
use Rattle.records.proofs.Climbs.{climb-stays, climb-up}
use Rattle.records.proofs.Repeats.{climb_one, climb_enough}

-- a step that is changed at c alone leads from each of n numbers to one of them, where it does so at c
pub closed-put : {up up' : ℕ → ℕ} {n c p : ℕ} → Closed up n → within n p ≡ true → up' c ≡ p → ((t : ℕ) → (t ≡ c → ⊥) → up' t ≡ up t) → Closed up' n
closed-put {up} {up'} {n} {c} {p} h w e f = record { stays = λ t i. go t i (ℕ_discrete t c) }
  where
    go : (t : ℕ) → within n t ≡ true → Dec (t ≡ c) → within n (up' t) ≡ true
    go t i (yes q) = ap (within n) (ap up' q ∙ e) ∙ w
    go t i (no d) = ap (within n) (f t d) ∙ h.stays t i

-- what putting a root under another tree's term does to the step up
pub record Moved (up up' : ℕ → ℕ) (n child parent : ℕ) : Type 0 where
  pub closed : Closed up n
  pub ends : (t : ℕ) → within n t ≡ true → up (climb up n t) ≡ climb up n t
  pub self : up child ≡ child
  pub at : up' child ≡ parent
  pub away : (t : ℕ) → (t ≡ child → ⊥) → up' t ≡ up t
  pub here : within n parent ≡ true
  pub apart : climb up n parent ≡ child → ⊥

module _ {up up' : ℕ → ℕ} {n child parent : ℕ} (m : Moved up up' n child parent) where
  pub moved-closed : Closed up' n
  moved-closed = closed-put m.closed m.here m.at m.away

  other-not : (t : ℕ) → (climb up n t ≡ child → ⊥) → t ≡ child → ⊥
  other-not t o e = o (ap (climb up n) e ∙ climb-stays up n child m.self)

  one_up : (t : ℕ) → within n t ≡ true → climb up n (up t) ≡ climb up n t
  one_up t w = climb-up up n t (m.ends t w)

  other-up : (t : ℕ) → within n t ≡ true → (climb up n t ≡ child → ⊥) → climb up n (up t) ≡ child → ⊥
  other-up t w o e = o (sym (one_up t w) ∙ e)

  -- a walk in another tree is as it was
  pub other-walk : (k t : ℕ) → within n t ≡ true → (climb up n t ≡ child → ⊥) → climb up' k t ≡ climb up k t
  unfolding climb
  other-walk zero t w o = refl
  other-walk (suc k) t w o = ap (climb up' k) (m.away t (other-not t o)) ∙ other-walk k (up t) (m.closed.stays t w) (other-up t w o)

  -- one in the child's tree goes on to the parent's root
  record Leads (t : ℕ) : Type 0 where
    steps : ℕ
    is : climb up' steps t ≡ climb up n parent

  from_child : (t : ℕ) → t ≡ child → Leads t
  unfolding climb
  from_child t e = record { steps = suc n; is = ap (climb up' n) (ap up' e ∙ m.at) ∙ other-walk n parent m.here m.apart }

  leads : (k t : ℕ) → climb up k t ≡ child → Leads t
  unfolding climb
  leads zero t e = from_child t e
  leads (suc k) t e = go (ℕ_discrete t child) (leads k (up t) e)
    where
      go : Dec (t ≡ child) → Leads (up t) → Leads t
      go (yes q) l = from_child t q
      go (no d) l = record { steps = suc l.steps; is = ap (climb up' l.steps) (m.away t d) ∙ l.is }

  root_stays : up' (climb up n parent) ≡ climb up n parent
  root_stays = m.away (climb up n parent) m.apart ∙ m.ends parent m.here

  leads_end : (t : ℕ) (l : Leads t) → up' (climb up' l.steps t) ≡ climb up' l.steps t
  leads_end t l = rw l.is root_stays

  pub moved_ends : (t : ℕ) → within n t ≡ true → up' (climb up' n t) ≡ climb up' n t
  moved_ends t w = go (ℕ_discrete (climb up n t) child)
    where
      go : Dec (climb up n t ≡ child) → up' (climb up' n t) ≡ climb up' n t
      go (yes e) = let l = leads n t e in climb_enough up' n t moved-closed w l.steps (leads_end t l)
      go (no o) = rw (other-walk n t w o) (m.away (climb up n t) o ∙ m.ends t w)

  -- the root of a term of the child's tree
  pub moved_root : (t : ℕ) → within n t ≡ true → climb up n t ≡ child → climb up' n t ≡ climb up n parent
  moved_root t w e = let l = leads n t e in climb_one up' n l.steps t (moved_ends t w) (leads_end t l) ∙ l.is
