-- Step 1 in one pass: what is the same goes as it is met, each class match explained there. It is `strip`, since reasons change nothing in what
-- is the same.
use Rattle.std.specs.Prelude.{if◌then◌else◌}
use mathlib.Core.Path.{◌≡◌, refl, sym, ap, ◌∙◌}
use mathlib.Core.Bool.{Bool, true, false, ◌&&◌, ◌||◌}
use mathlib.Core.List.{List, [], ◌∷◌, reverse}
use Prim.Native.Nat.{ℕ}
use lib.ListN.{length, drop}
use lib.Dec.{eqb}
use Rattle.records.specs.Lists.{same_word, and}
use Rattle.records.specs.Store.{Store, Out, ok, stop, Work, and_then, ◌>>=◌, ◌>>◌, give, store, is_constant, text, same_class}
use Rattle.records.specs.Working.Audited.{Audited}
use Rattle.records.proofs.Grown.{Strings, strings-later}
use Rattle.engine.specs.Explain.{explain}
use Rattle.sides.specs.Wordeq.{same, same_heads, same_tails, rest, explain_match, explain_matches, strip}
use Rattle.sides.proofs.Strip.{same-added, match_ends, matches-append, matches-end, off_heads, every_back}

-- one number or two constants of equal characters: on; one class: explained, and on; else this is what is left
unfoldable pub pass_heads : List ℕ → List ℕ → Work (List ℕ × List ℕ)
pass_heads [] r = give ([], r)
pass_heads (a ∷ l) [] = give (a ∷ l, [])
pass_heads (a ∷ l) (b ∷ r) = do
  s ← store
  if eqb a b then pass_heads l r
      else if is_constant s a && is_constant s b then (if same_word (text s a) (text s b) then pass_heads l r else give (a ∷ l, b ∷ r))
      else if same_class s a b then explain a b >> pass_heads l r
      else give (a ∷ l, b ∷ r)

-- 'Strip same heads, then same tails, explaining class matches'
unfoldable pub pass_both : List ℕ → List ℕ → Work (List ℕ × List ℕ)
pass_both l r = do
  (l₁, r₁) ← pass_heads l r
  (l₂, r₂) ← pass_heads (reverse l₁) (reverse r₁)
  give (reverse l₂, reverse r₂)

module _ (a b : ℕ) (l r : List ℕ) (s : Store) where
  abbrev on : Work (List ℕ × List ℕ)
  on = pass_heads l r

  abbrev left : Work (List ℕ × List ℕ)
  left = give (a ∷ l, b ∷ r)

  pass_step : pass_heads (a ∷ l) (b ∷ r) s ≡ (if same s a b then explain_match a b >> on else left) s
  unfolding pass_heads same explain_match
  pass_step = go (eqb a b) (is_constant s a && is_constant s b) (same_word (text s a) (text s b)) (same_class s a b) (explain_match a b >> on) refl
    where
      go : (x y z w : Bool) (m : Work (List ℕ × List ℕ)) → m s ≡ and_then (λ (u : Unit {0}). on) ((if x || y then give tt else explain a b) s)
          → (if x then on else if y then (if z then on else left) else if w then explain a b >> on else left) s ≡ (if x || (if y then z else w) then m else left) s
      go true y z w m i = sym i
      go false true true w m i = sym i
      go false true false w m i = refl
      go false false z true m i = sym i
      go false false z false m i = refl

-- what is left of both lists after n heads, whose explaining ends in o
abbrev without : ℕ → List ℕ → List ℕ → Out (Unit {0}) → Out (List ℕ × List ℕ)
without n l r o = and_then (λ (u : Unit {0}). give (drop n l, drop n r)) o

abbrev explained : List (ℕ × ℕ) → List ℕ → List ℕ → Store → Out (List ℕ × List ℕ)
explained m l r s = without (length m) l r (explain_matches m s)

-- in a store s in which the same is what it is in s₀, such as s₀ with more reasons
abbrev Passes : Store → List ℕ → List ℕ → Type 0
Passes s₀ l r = (s : Store) → ((a b : ℕ) → same s a b ≡ same s₀ a b) → Audited s → Strings s l → Strings s r → pass_heads l r s ≡ explained (same_heads s₀ l r) l r s

pass_heads_lem : (s₀ : Store) (l r : List ℕ) → Passes s₀ l r
unfolding pass_heads same_heads explain_matches
pass_heads_lem s₀ [] r s f d hl hr = refl
pass_heads_lem s₀ (a ∷ l) [] s f d hl hr = refl
pass_heads_lem s₀ (a ∷ l) (b ∷ r) s f d (and p hl) (and q hr) = pass_step a b l r s ∙ go (same s₀ a b) refl (pass_heads_lem s₀ l r)
  where
    each : same s a b ≡ true → Passes s₀ l r → (o : Out (Unit {0})) → explain_match a b s ≡ o
        → and_then (λ (u : Unit {0}). pass_heads l r) o ≡ without (length (same_heads s₀ l r)) l r (and_then (λ (u : Unit {0}). explain_matches (same_heads s₀ l r)) o)
    each e ih (ok s₁ u) i =
        let c = (match_ends a b s d p q e).given s₁ u i in
        ih s₁ (λ x y. same-added c.added x y ∙ f x y) c.audited (strings-later c.grown hl) (strings-later c.grown hr)
    each e ih (stop n) i = refl

    go : (x : Bool) → same s₀ a b ≡ x → Passes s₀ l r
        → (if same s a b then explain_match a b >> pass_heads l r else give (a ∷ l, b ∷ r)) s ≡ explained (elim x [ true ↦ (a, b) ∷ same_heads s₀ l r | false ↦ [] ]) (a ∷ l) (b ∷ r) s
    go true e ih = rw (f a b ∙ e) (each (f a b ∙ e) ih (explain_match a b s) refl)
    go false e ih = rw (f a b ∙ e)

module _ (l r : List ℕ) (s : Store) (d : Audited s) (hl : Strings s l) (hr : Strings s r) where
  abbrev heads : List (ℕ × ℕ)
  heads = same_heads s l r

  abbrev l₁ : List ℕ
  l₁ = reverse (drop (length heads) l)

  abbrev r₁ : List ℕ
  r₁ = reverse (drop (length heads) r)

  abbrev tails : List (ℕ × ℕ)
  tails = same_heads s l₁ r₁

  abbrev turned : List ℕ × List ℕ → Work (List ℕ × List ℕ)
  turned p = give (reverse p.0, reverse p.1)

  abbrev pass_tails : List ℕ × List ℕ → Work (List ℕ × List ℕ)
  pass_tails p = pass_heads (reverse p.0) (reverse p.1) >>= turned

  both : (o : Out (Unit {0})) → explain_matches heads s ≡ o
      → and_then (λ (u : Unit {0}). give (reverse (drop (length tails) l₁), reverse (drop (length tails) r₁))) (and_then (λ (u : Unit {0}). explain_matches tails) o) ≡ and_then pass_tails (without (length heads) l r o)
  both (ok s₁ u) i =
      let c = (matches-end heads s d (off_heads s l r hl hr).matched).given s₁ u i in
      let p = pass_heads_lem s l₁ r₁ s₁ (same-added c.added) c.audited (strings-later c.grown (every_back (length heads) l hl)) (strings-later c.grown (every_back (length heads) r hr)) in
      ends (explain_matches tails s₁) ∙ sym (ap (and_then turned) p)
    where
      ends : (o : Out (Unit {0})) → and_then (λ (u : Unit {0}). give (reverse (drop (length tails) l₁), reverse (drop (length tails) r₁))) o ≡ and_then turned (without (length tails) l₁ r₁ o)
      ends (ok s₂ v) = refl
      ends (stop n) = refl
  both (stop n) i = refl

  pub strip-one-pass : strip l r s ≡ pass_both l r s
  unfolding strip rest same_tails pass_both
  strip-one-pass =
      ap (and_then (λ (u : Unit {0}). give (rest s l r))) (matches-append heads tails s) ∙ both (explain_matches heads s) refl
      ∙ sym (ap (and_then pass_tails) (pass_heads_lem s l r s (λ a b. refl) d hl hr))
