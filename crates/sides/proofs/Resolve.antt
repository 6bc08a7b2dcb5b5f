-- Demand 3 of wordeq: the steps in sequence.
use Rattle.std.specs.Prelude.{if◌then◌else◌}
use mathlib.Core.Path.{◌≡◌, refl, sym, ap, subst, ◌∙◌}
use mathlib.Core.Bool.{Bool, true, false}
use mathlib.Core.List.{List, ◌++◌}
use mathlib.Core.Option.{Option, none, some}
use Prim.Native.Nat.{ℕ, ◌+◌}
use native.Mathlib.Omega.{arith}
use lib.IntN.{ℤ}
use Rattle.records.specs.Lists.{all, any, concat_map}
use Rattle.records.specs.Store.{Store, Out, ok, stop, ◌>>=◌, give, count, is_concat, is_string}
use Rattle.records.specs.Make.{with_reasons}
use Rattle.records.specs.Meaning
use Rattle.records.specs.Meaning.{Words, Reading, Holds, True}
use Rattle.records.specs.Working.Audited.{Audited}
use Rattle.records.proofs.Lists.{all_every, every_all, every_map}
use Rattle.records.proofs.Grown.{Grown, grown-none, holds-before, Strings}
use Rattle.records.proofs.Beside.{reading-beside}
use Rattle.engine.proofs.Sound.{holds_earlier}
use Rattle.normalize.specs.Normalize.{flatten}
use Rattle.normalize.proofs.Atoms.{Flat, flatten-flat, flatten-stops, flatten-atoms}
use Rattle.records.proofs.Outcomes.{ends-give, ends-map, ends_by, ends_if, ends-then}
use Rattle.sides.specs.Wordeq.{Answer, done, saturated, conflict, propagate, split, answer, needs_reason, matches, strip, after, is_bare, or_done, steps, softened, closed, resolve}
use Rattle.sides.specs.Meaning.{Chosen, Sound}
use Rattle.sides.proofs.StepOutcomes.{RefusedAtWork, Ends}
use Rattle.sides.proofs.Cited.{Under}
use Rattle.sides.proofs.Good.{concat_map_local, worth-back, Calm, Good, passes, answers, Step, step_else, step_flip, later-cited}
use Rattle.records.proofs.LaterStores.{Later, later_then, later-cut, variables-added}
use Rattle.sides.proofs.Strip.{Apart, Stripped, strip-still, strip-ends}
use Rattle.sides.proofs.Occurs.{occurs-step}
use Rattle.sides.proofs.Constants.{constants-step, alias-step, empties-step, assigns-step, clashes-step}
use Rattle.sides.proofs.Tile.{tile-step}
use Rattle.sides.proofs.Split.{splits-step}

-- STEPS 2 TO 7

pub after-step : (g : ℤ) (needed : Bool) (l r : List ℕ) → Apart l r → Step needed l r (after g needed l r)
unfolding after
after-step g needed l r n =
    step_else _ _ (step_else _ _ (step_else _ _ (step_else _ _ (step_else _ _ (step_else _ _ (step_else _ _ (step_else _ _ (step_else _ _ (step_else _ _ (step_else _ _
    (occurs-step l r) (step_flip (occurs-step r l)))
    (constants-step l r))
    (alias-step l r)) (empties-step l r)) (step_flip (empties-step r l))) (assigns-step l r)) (step_flip (assigns-step r l)))
    (tile-step l r)) (step_flip (tile-step r l)))
    (clashes-step l r))
    (splits-step g needed l r n)

-- STEPS 1 TO 8

-- what work gives, and that it gives it
pub ends-known : {A : Type 0} {P : Store → A → Type 0} {o : Out A} → Ends P o → Ends (λ s x. P s x × (o ≡ ok s x)) o
ends-known e = record { given = λ s x q. (e.given s x q, q); stopped = e.stopped }

-- a Split adds no reason, and its number is that of the terms made
abbrev pub Counts : Store → Store → Answer → Type 0
Counts s s' done = Unit {0}
Counts s s' saturated = Unit {0}
Counts s s' conflict = Unit {0}
Counts s s' (propagate v y f) = Unit {0}
Counts s s' (split atoms g n) = (s'.reasons ≡ s.reasons) × (count s' ≡ n + count s)

-- a run of the steps
pub record Ran (l r : List ℕ) (s s' : Store) (x : Answer) : Type 0 where
  pub later : Later s s'
  pub sound : Sound s s' l r x
  pub counts : Counts s s' x

data Stepped (l r : List ℕ) (s s' : Store) : Option Answer → Type 0 where
  nothing : Later s s' → Stepped l r s s' none
  something : {x : Answer} → Ran l r s s' x → Stepped l r s s' (some x)

module _ (l r : List ℕ) (s : Store) (hl : Strings s l) (hr : Strings s r) where
  -- what is sound of the stripped sides is sound of the sides
  stepped : (needed : Bool) (s₁ : Store) (v : List ℕ × List ℕ) → Stripped l r s s₁ v → (needed ≡ false → s₁.reasons ≡ s.reasons)
      → (s' : Store) (o : Option Answer) → Good needed v.0 v.1 s₁ s' o → Stepped l r s s' o
  stepped needed s₁ v t a s' none (passes k u e i) = nothing (later_then (later-cited t.cited) k)
  stepped needed s₁ v t a s' (some x) (answers k h c) =
      something (record {
        later = later_then (later-cited t.cited) k;
        sound = worth-back x (λ w. concat_map w l) (λ w. concat_map w r) (λ w. concat_map w v.0) (λ w. concat_map w v.1) t.cited.grown (variables-added t.cited.added) k.grown (concat_map_local s hl) (concat_map_local s hr) sides h;
        counts = counted x c;
      })
    where
      sides : Under s₁ s'.reasons (λ w. concat_map w l ≡ concat_map w r → concat_map w v.0 ≡ concat_map w v.1)
      sides w rd u = t.cited.holds w (t.cited.grown.down w rd) (holds_earlier k.reasons (holds-before t.cited.grown s'.reasons u))

      counted : (x : Answer) → Calm needed v.0 v.1 s₁ s' x → Counts s s' x
      counted done c = tt
      counted saturated c = tt
      counted conflict c = tt
      counted (propagate v y f) c = tt
      counted (split atoms g n) c = (c.reasons ∙ a c.unneeded, c.counts ∙ ap (λ (x : Store). n + count x) t.cited.added.is)

  pub steps-ends : (g : ℤ) → Audited s → Ends (Ran l r s) (steps g l r s)
  unfolding steps
  steps-ends g d = ends-then _ _ (ends-known (strip-ends l r s d hl hr)) (λ s₁ v t. ends-then or_done _ (tried s₁ v t.0 t.1) finished)
    where
      still : (s₁ : Store) (v : List ℕ × List ℕ) → strip l r s ≡ ok s₁ v → any (needs_reason s) (matches s l r) ≡ false → s₁.reasons ≡ s.reasons
      still s₁ v e f = let z = strip-still l r s d hl hr f in let q : s₁ ≡ s = cc in ap (λ (x : Store). x.reasons) q

      tried : (s₁ : Store) (v : List ℕ × List ℕ) → Stripped l r s s₁ v → strip l r s ≡ ok s₁ v
          → Ends (Stepped l r s) ((if is_bare v.0 v.1 then answer done else after g (any (needs_reason s) (matches s l r)) v.0 v.1) s₁)
      tried s₁ v t e =
          ends_if (is_bare v.0 v.1) _ _
          (λ b. ends-give (something (record { later = later-cited t.cited; sound = tt; counts = tt })))
          (λ b. ends-map (stepped _ s₁ v t (still s₁ v e)) (after-step g _ v.0 v.1 t.apart s₁ t.cited.audited t.left t.right))

      finished : (s₂ : Store) (o : Option Answer) → Stepped l r s s₂ o → Ends (Ran l r s) (or_done o s₂)
      finished s₂ none (nothing k) = ends-give (record { later = k; sound = tt; counts = tt })
      finished s₂ (some x) (something k) = ends-give k

-- FLATTENED

record Flattened (l : List ℕ) (s s' : Store) (m : List ℕ) : Type 0 where
  flat : Flat s s' l m
  strings : Strings s m

flatten-ends : (l : List ℕ) (s : Store) → Audited s → Strings s l → Ends (Flattened l s) (flatten l s)
flatten-ends l s d h =
    ends_by 6 (omega arith) (omega arith)
    (λ s' m e. record { flat = flatten-flat l s s' m e; strings = every_map (λ a k. k.string) (flatten-atoms l s s' m d (every_all h) e) })
    (λ n e. (flatten-stops l s n e).0)

module _ (l r m n : List ℕ) (s : Store) (hl : Strings s l) (hr : Strings s r) (fl : (w : Words) → Reading s w → concat_map w l ≡ concat_map w m) (fr : (w : Words) → Reading s w → concat_map w r ≡ concat_map w n) where
  ran-flat : (s' : Store) (x : Answer) → Ran m n s s' x → Ran l r s s' (softened x)
  ran-flat s' x k = soft x k.counts (worth-back x (λ w. concat_map w l) (λ w. concat_map w r) (λ w. concat_map w m) (λ w. concat_map w n) (grown-none s) (λ t e. e) k.later.grown (concat_map_local s hl) (concat_map_local s hr)
      (λ w rd h e. sym (fl w rd) ∙ e ∙ fr w rd) k.sound)
    where
      soft : (x : Answer) → Counts s s' x → Sound s s' l r x → Ran l r s s' (softened x)
      soft done c h = record { later = k.later; sound = h; counts = c }
      soft saturated c h = record { later = k.later; sound = h; counts = c }
      soft conflict c h = record { later = k.later; sound = tt; counts = tt }
      soft (propagate v y f) c h = record { later = k.later; sound = h; counts = c }
      soft (split atoms g n) c h = record { later = k.later; sound = h; counts = c }

-- CLOSED

-- 'other answers return the incoming count'
abbrev pub Incoming : Store → Store → Answer → Type 0
Incoming s s' done = s'.reasons ≡ s.reasons
Incoming s s' saturated = s'.reasons ≡ s.reasons
Incoming s s' conflict = Unit {0}
Incoming s s' (propagate v y f) = Unit {0}
Incoming s s' (split atoms g n) = s'.reasons ≡ s.reasons

-- what resolve gives
pub record Resolved (l r : List ℕ) (s s' : Store) (x : Answer) : Type 0 where
  pub later : Later s s'
  pub sound : Sound s s' l r x
  pub incoming : Incoming s s' x
  pub counts : Counts s s' x

module _ (s₁ : Store) (rs : List (ℕ × ℕ)) where
  true-cut : {w : Words} {a : ℕ} → True s₁ w a → True (with_reasons s₁ rs) w a
  true-cut (Meaning.True.equal k p q e) = Meaning.True.equal k p q e
  true-cut (Meaning.True.long k p q e) = Meaning.True.long k p q e

  chosen-cut : {s : Store} {w : Words} {atoms : List ℕ} → Chosen s s₁ w atoms → Chosen s (with_reasons s₁ rs) w atoms
  chosen-cut c = record {
    words = c.words;
    reading = reading-beside s₁ rs s₁.keys s₁.names c.words c.reading;
    agree = c.agree;
    atom = c.atom;
    listed = c.listed;
    holds = true-cut c.holds;
  }

closed-ends : (l r : List ℕ) (s s₁ : Store) → Audited s → (x : Answer) → Ran l r s s₁ x → Ends (Resolved l r s) (closed s.reasons x s₁)
closed-ends l r s s₁ d done k = ends-give (record { later = later-cut d k.later; sound = tt; incoming = refl; counts = tt })
closed-ends l r s s₁ d saturated k = ends-give (record { later = later-cut d k.later; sound = tt; incoming = refl; counts = tt })
closed-ends l r s s₁ d conflict k = ends-give (record { later = k.later; sound = k.sound; incoming = tt; counts = tt })
closed-ends l r s s₁ d (propagate v y f) k = ends-give (record { later = k.later; sound = k.sound; incoming = tt; counts = tt })
closed-ends l r s s₁ d (split atoms g n) k =
    ends-give (record {
      later = later-cut d k.later;
      sound = λ w rd h e. chosen-cut s₁ s.reasons (k.sound w rd (subst (λ (x : List (ℕ × ℕ)). Holds s x w) (sym k.counts.0) h) e);
      incoming = refl;
      counts = (refl, k.counts.1);
    })

-- RESOLVE

pub resolve-ends : (l r : List ℕ) (g : ℤ) (s : Store) → Audited s → Strings s l → Strings s r → Ends (Resolved l r s) (resolve l r g s)
unfolding resolve
resolve-ends l r g s d hl hr = ends-then _ _ ran (closed-from)
  where
    closed-from : (s₁ : Store) (x : Answer) → Ran l r s s₁ x → Ends (Resolved l r s) (closed s.reasons x s₁)
    closed-from s₁ x k = closed-ends l r s s₁ d x k

    flat : Ends (Ran l r s) ((flatten l >>= λ m. flatten r >>= λ n. steps g m n >>= λ y. give (softened y)) s)
    flat =
        ends-then _ _ (flatten-ends l s d hl) (λ s₁ m f. rw f.flat.same_store
        (ends-then _ _ (flatten-ends r s d hr) (λ s₂ n h. rw h.flat.same_store
        (ends-then _ _ (steps-ends m n s f.strings h.strings g d) (λ s₃ y k. ends-give (ran-flat l r m n s hl hr f.flat.words h.flat.words s₃ y k))))))

    ran : Ends (Ran l r s) ((if any (is_concat s) (l ++ r) then (flatten l >>= λ m. flatten r >>= λ n. steps g m n >>= λ y. give (softened y)) else steps g l r) s)
    ran = ends_if (any (is_concat s) (l ++ r)) _ _ (λ b. flat) (λ b. steps-ends l r s hl hr g d)

module _ (l r : List ℕ) (g : ℤ) (s : Store) (audited : Audited s) (left : all (is_string s) l ≡ true) (right : all (is_string s) r ≡ true) where
  ends : Ends (Resolved l r s) (resolve l r g s)
  ends = resolve-ends l r g s audited (all_every _ l left) (all_every _ r right)

  pub resolve-gives : (s' : Store) (x : Answer) → resolve l r g s ≡ ok s' x → Resolved l r s s' x
  resolve-gives s' x e = ends.given s' x e

  pub resolve-sound : (s' : Store) (x : Answer) → resolve l r g s ≡ ok s' x → Sound s s' l r x
  resolve-sound s' x e = (resolve-gives s' x e).sound

  pub resolve-grows : (s' : Store) (atoms : List ℕ) (h : ℤ) (n : ℕ) → resolve l r g s ≡ ok s' (split atoms h n) → count s' ≡ n + count s
  resolve-grows s' atoms h n e = (resolve-gives s' (split atoms h n) e).counts.1

  pub resolve-kept : (s' : Store) (x : Answer) → resolve l r g s ≡ ok s' x → Audited s'
  resolve-kept s' x e = (resolve-gives s' x e).later.audited

  pub resolve-grown : (s' : Store) (x : Answer) → resolve l r g s ≡ ok s' x → Grown s s'
  resolve-grown s' x e = (resolve-gives s' x e).later.grown

  -- it stops only with 6 to 9
  pub resolve_stops : (n : ℕ) → resolve l r g s ≡ stop n → RefusedAtWork n
  resolve_stops n e = ends.stopped n e
