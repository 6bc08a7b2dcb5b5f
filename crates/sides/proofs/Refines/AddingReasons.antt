-- Work that adds reasons alone, so far: from c and rs to d and rs'.
use mathlib.Core.Path.{◌≡◌, refl, sym, ap, subst, ◌∙◌}
use mathlib.Core.Bool.{true}
use mathlib.Core.List.{List}
use Prim.Native.Nat.{ℕ}
use Rattle.records.specs.declared.State.{State}
use Rattle.records.specs.Lists.{all}
use Rattle.records.specs.Store.{Store, Term, within, term_in, is_string}
use Rattle.records.specs.View.{Lent, lent, store_of, terms_view, read_in}
use Rattle.records.specs.Working.Audited.{Ready}
use Rattle.records.proofs.Counts.{agree-below}
use Rattle.records.proofs.LaterStores.{Added, added_none, added_then, later_added, later-higher}
use Rattle.sides.specs.Wordeq.{same}
use Rattle.sides.specs.Working.Stripping.{Pair}
use Rattle.sides.proofs.Strip.{same-added}

module _ (t e h ks : List ℕ) where
  abbrev at : List ℕ → Lent
  at rs = lent t e h rs ks

  pub record Going (c : State) (rs : List ℕ) (d : State) (rs' : List ℕ) : Type 0 where
    pub ready : Ready (at rs') d
    pub added : Added (store_of (at rs) c) (store_of (at rs') d)
    pub kept : store_of (at rs') c ≡ store_of (at rs) c

  pub going_none : {c : State} {rs : List ℕ} → Ready (at rs) c → Going c rs c rs
  going_none {c} {rs} d = record { ready = d; added = added_none (store_of (at rs) c); kept = refl }

  module _ {c d : State} {rs rs₁ : List ℕ} (g : Going c rs d rs₁) where
    pub terms_kept : terms_view t d.terms ≡ terms_view t c.terms
    terms_kept = ap (λ (x : Store). x.terms) g.added.is

    -- what a later call keeps is kept from the start
    pub kept_down : (rs₂ : List ℕ) → store_of (at rs₂) d ≡ store_of (at rs₁) d → store_of (at rs₂) c ≡ store_of (at rs) c
    kept_down rs₂ k = agree-below (at rs) (at rs₁) (at rs₂) c d (later-higher (later_added g.added g.ready.audited)) k ∙ g.kept

    pub going_then : {d₂ : State} (rs₂ : List ℕ) → Ready (at rs₂) d₂ → Added (store_of (at rs₁) d) (store_of (at rs₂) d₂) → store_of (at rs₂) d ≡ store_of (at rs₁) d → Going c rs d₂ rs₂
    going_then rs₂ r x k = record { ready = r; added = added_then g.added x; kept = kept_down rs₂ k }

    pub going_strings : (l : List ℕ) → all (is_string (read_in t h c)) l ≡ true → all (is_string (read_in t h d)) l ≡ true
    going_strings l i = subst (λ (x : List Term). all (λ a. within 3 (term_in x a).kind) l ≡ true) (sym terms_kept) i

    pub going_pair : (a b : ℕ) → Pair (read_in t h c) a b → Pair (read_in t h d) a b
    going_pair a b p = record { one = string a p.one; other = string b p.other }
      where
        string : (a : ℕ) → is_string (read_in t h c) a ≡ true → is_string (read_in t h d) a ≡ true
        string a i = subst (λ (x : List Term). within 3 (term_in x a).kind ≡ true) (sym terms_kept) i

    pub going_same : (a b : ℕ) → same (store_of (at rs₁) d) a b ≡ same (read_in t h c) a b
    unfolding same
    going_same = same-added g.added
