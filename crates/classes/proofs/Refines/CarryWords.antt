-- The loop over words: a record written, and each way through the loop.
use mathlib.Core.Path.{◌≡◌, sym, ap, subst, ◌∙◌}
use mathlib.Core.Bool.{true}
use mathlib.Core.List.{List}
use Prim.Native.Nat.{ℕ, suc, ◌+◌, ◌-◌, ◌<◌, ◌≤◌}
use native.Mathlib.Omega.{arith}
use lib.ListN.{length, set}
use Rattle.records.specs.Store.{Term, term_in, within, forest_up}
use Rattle.records.specs.View.{term_at, terms_view, term_words}
use Rattle.records.specs.Make.{with_class}
use Rattle.records.specs.Working.Audited.{Closed}
use Rattle.records.specs.Working.Puts.{TermSet}
use Rattle.records.proofs.Lists.{clash, within-high}
use Rattle.records.proofs.IndexStores.{left-then}
use Rattle.records.proofs.Climbs.{view_term, view_count}
use Rattle.classes.specs.Joins.{Edge, edge, turned, bearing, put_edge, put_class}
use Rattle.classes.specs.Working.Carries.{carry_by, TermsBecome}
use Rattle.classes.proofs.MovedClimbs.{closed-put}
use Rattle.classes.proofs.Tables.{edge_here, edge-away}
use Rattle.classes.proofs.Refines.Carrying.{carry_root, carry_turn}

-- ONE RECORD

module _ {l l' : List ℕ} {t : ℕ} {x : Term} (p : TermSet l l' t x) (n : ℕ) (w : within n t ≡ true) where
  set-becomes : TermsBecome l l' n (set (terms_view l n) (t - 1) x)
  set-becomes = record { long = p.long; away = λ u h. p.away u (λ e. clash w (ap (within n) (sym e) ∙ h)); is = p.terms n w; index = p.index }

module _ {l l' : List ℕ} {t : ℕ} (n : ℕ) (w : within n t ≡ true) where
  pub edge-becomes : (e : Edge) → TermSet l l' t (bearing (term_at l t) e) → TermsBecome l l' n (put_edge (terms_view l n) t e)
  unfolding put_edge
  edge-becomes e p = subst (λ (x : Term). TermsBecome l l' n (set (terms_view l n) (t - 1) (bearing x e))) (sym (view_term l n t w)) (set-becomes p n w)

  pub class-becomes : (q : ℕ) → TermSet l l' t (with_class (term_at l t) q) → TermsBecome l l' n (put_class (terms_view l n) t q)
  unfolding put_class
  class-becomes q p = subst (λ (x : Term). TermsBecome l l' n (set (terms_view l n) (t - 1) (with_class x q))) (sym (view_term l n t w)) (set-becomes p n w)

pub becomes-then : {l l₁ l₂ : List ℕ} {n : ℕ} {ts us : List Term} → TermsBecome l l₁ n ts → TermsBecome l₁ l₂ n us → TermsBecome l l₂ n us
becomes-then p q = record { long = q.long ∙ p.long; away = λ t h. q.away t h ∙ p.away t h; is = q.is; index = left-then p.index q.index }

-- THE LOOP

-- with i of n + 1 steps made, what is left of it is the whole
pub record Carrying (l₀ l : List ℕ) (n x : ℕ) (e : Edge) (at below k v m i : ℕ) : Type 0 where
  pub counted : i ≤ suc n
  pub here : within n at ≡ true
  pub over : within n below ≡ true
  pub closed : Closed (forest_up (terms_view l n)) n
  pub until : TermsBecome l₀ l n (terms_view l n)
  pub left : carry_by (suc n - i) (terms_view l n) at (edge below k v m) ≡ carry_by (suc n) (terms_view l₀ n) x e

module _ {l₀ l : List ℕ} {n x : ℕ} {e : Edge} {at below k v m i : ℕ} (c : Carrying l₀ l n x e at below k v m i) where
  pub carrying_room : term_words n ≤ length l₀ → term_words at ≤ length l
  carrying_room r = let h = within-high n at c.here in let q = c.until.long in omega arith

  pub carrying_out : n < i → TermsBecome l₀ l n (carry_by (suc n) (terms_view l₀ n) x e)
  unfolding carry_by
  carrying_out h = subst (TermsBecome l₀ l n) (let q : suc n - i ≡ 0 = omega arith in rw q at c.left) c.until

  module _ {l' : List ℕ} (h : i ≤ n) (s : TermSet l l' at (bearing (term_at l at) (edge below k v m))) (above : ℕ) (a : above ≡ (term_at l at).forest_parent) where
    p : TermsBecome l l' n (put_edge (terms_view l n) at (edge below k v m))
    p = edge-becomes n c.here (edge below k v m) s

    one_left : suc n - i ≡ suc (suc n - (i + 1))
    one_left = omega arith

    now : term_in (terms_view l n) at ≡ term_at l at
    now = view_term l n at c.here

    up_is : forest_up (terms_view l n) at ≡ above
    up_is = ap (λ (y : Term). y.forest_parent) now ∙ sym a

    pub carrying_end : above ≡ at → TermsBecome l₀ l' n (carry_by (suc n) (terms_view l₀ n) x e)
    carrying_end q =
        subst (TermsBecome l₀ l' n) (sym (carry_root (suc n - (i + 1)) (terms_view l n) at (edge below k v m) (up_is ∙ q)) ∙ ap (λ (j : ℕ). carry_by j (terms_view l n) at (edge below k v m)) (sym one_left) ∙ c.left)
        (becomes-then c.until p)

    pub carrying_turn : (k₁ v₁ m₁ : ℕ) → (above ≡ at → ⊥) → k₁ ≡ (term_at l at).label_kind → v₁ ≡ (term_at l at).label_value → m₁ ≡ (term_at l at).stamp → Carrying l₀ l' n x e above at k₁ v₁ m₁ (i + 1)
    carrying_turn k₁ v₁ m₁ d ek ev em =
        let its : turned at (term_in (terms_view l n) at) ≡ edge at k₁ v₁ m₁ = ap (turned at) now ∙ (let z = ek in let y = ev in let w = em in cc) in
        record {
          counted = omega arith;
          here = subst (λ (z : ℕ). within n z ≡ true) up_is (c.closed.stays at c.here);
          over = c.here;
          closed = subst (λ (ts : List Term). Closed (forest_up ts) n) (sym p.is) (closed-put c.closed c.over (ap (λ (y : Term). y.forest_parent) (edge_here (terms_view l n) at _ wl)) (λ t z. ap (λ (y : Term). y.forest_parent) (edge-away (terms_view l n) at _ wl t z)));
          until = subst (TermsBecome l₀ l' n) (sym p.is) (becomes-then c.until p);
          left = ap (λ (ts : List Term). carry_by (suc n - (i + 1)) ts above (edge at k₁ v₁ m₁)) p.is
              ∙ ap (λ (z : ℕ). carry_by (suc n - (i + 1)) (put_edge (terms_view l n) at (edge below k v m)) z (edge at k₁ v₁ m₁)) (sym up_is)
              ∙ ap (carry_by (suc n - (i + 1)) (put_edge (terms_view l n) at (edge below k v m)) (forest_up (terms_view l n) at)) (sym its)
              ∙ sym (carry_turn (suc n - (i + 1)) (terms_view l n) at (edge below k v m) (λ z. d (sym up_is ∙ z)))
              ∙ ap (λ (j : ℕ). carry_by j (terms_view l n) at (edge below k v m)) (sym one_left) ∙ c.left;
        }
      where
        wl : within (length (terms_view l n)) at ≡ true
        wl = ap (λ (j : ℕ). within j at) (view_count l n) ∙ c.here
