-- The ways through the steps in sequence: steps 2 to 7 in groups, and step 1 before them.
use Rattle.std.specs.Prelude.{if◌then◌else◌}
use mathlib.Core.Path.{◌≡◌, refl, sym, ap, subst, ◌∙◌}
use mathlib.Core.Bool.{Bool, true, false}
use mathlib.Core.List.{List, []}
use mathlib.Core.Option.{Option, none, some}
use Prim.Native.Nat.{ℕ, ◌-◌, ◌*◌, ◌^◌, ◌≤◌, ◌<◌}
use native.Mathlib.Omega.{arith}
use lib.ListN.{length, drop, length-append, length-take, length-drop}
use lib.IntN.{ℤ}
use lib.Dec.{leb}
use borrow.Author.Tests.{le-leb}
use Rattle.records.specs.declared.State.{State}
use Rattle.std.specs.Prelude.{Result, Ok, Err}
use Rattle.records.specs.declared.refusal.Refusal.{Refusal}
use Rattle.records.specs.Refusal.{number}
use Rattle.records.specs.Lists.{all, any}
use Rattle.records.specs.Store.{Store, Out, ok, stop, and_then, is_string}
use Rattle.records.specs.View.{Lent, store_of, read_in}
use Rattle.records.specs.Rules.{list_limit}
use Rattle.records.specs.Working.Audited.{Ready}
use Rattle.records.specs.Working.Doing.{Working}
use Rattle.records.proofs.Lists.{both_right, both_true, every_all}
use Rattle.records.proofs.Doing.{working_stopped, working_at, working_answer, working_left}
use Rattle.records.proofs.LaterStores.{Added}
use Rattle.sides.specs.declared.StepResult.{StepResult}
use Rattle.sides.specs.declared.StepResult.TheVariants as step
use Rattle.sides.specs.declared.Stripped.{Stripped}
use Rattle.sides.specs.Wordeq.{Answer, done, Tried, answer, ◌or_else◌, clashes, splits, after, is_bare, or_done, matches, needs_reason, strip, steps}
use Rattle.sides.specs.Working.Results.{tried, Tries}
use Rattle.wordeq.specs.Calls.{resolved}
use Rattle.sides.specs.Working.Sides.{Spelled}
use Rattle.wordeq.specs.Working.Heads.{HeadsApart}
use Rattle.sides.specs.Working.Stripping.{part, Strips}
use Rattle.sides.proofs.Strip.{strip-ends}
use Rattle.sides.proofs.Strip as strip
use Rattle.wordeq.proofs.Refines.Heads.{heads-apart}
use Rattle.records.proofs.Counts.{Higher}
use Rattle.records.proofs.IndexStores.{keeps_then}
use Rattle.sides.proofs.ConstantSides.{constants_need, constants-conflict, constants-pass}
use Rattle.sides.proofs.Trying.{Lined, Last, occurs_both, conflicts, propagates, tiles, grouped, both-rises, conflicts-rises, propagates-rises, tiles-rises, after_groups, passed-ready, else_works, else_tries, else_last, else_refused}
use Rattle.records.proofs.ListLaws.{list-short, list_every}
use Rattle.records.proofs.Works.{one_store}
use Rattle.sides.specs.Working.Lacking.{conflicts as lacks}

-- STEPS 2 AND 3

-- what step 3 reads
pub lined_read_in : {l r : List ℕ} {m : Lent} {c : State} → Lined l r m c → Spelled m.terms m.chars c × (length l ≤ list_limit) × (length r ≤ list_limit)
lined_read_in {l} {r} {m} {c} x = constants_need m c l r x.ready x.lists

module _ (l r : List ℕ) {m m₁ : Lent} {c d : State} {o : StepResult} (w : Tries (occurs_both l r) m m₁ c (Ok o)) (e : o ≡ step.Done d) (b : Bool) (h : b ≡ lacks (read_in m₁.terms m₁.chars d) l r) where
  pub conflicts-found : b ≡ true → Tries (conflicts l r) m m₁ c (Ok (step.Conflict d))
  conflicts-found z = else_tries (both-rises l r) w e (constants-conflict m₁ d l r (passed-ready (both-rises l r) w e) b h z)

  pub conflicts-none : b ≡ false → Tries (conflicts l r) m m₁ c (Ok (step.Done d))
  conflicts-none z = else_tries (both-rises l r) w e (constants-pass m₁ d l r (passed-ready (both-rises l r) w e) b h z)

-- STEPS 2 TO 7

module _ (l r : List ℕ) (g : ℤ) (needed : Bool) where
  regrouped : {m m₁ : Lent} {c : State} {o : Out (Option Answer)} → Working (grouped l r g needed) m m₁ c o → Working (after g needed l r) m m₁ c o
  regrouped {m} {m₁} {c} {o} w = subst (λ (x : Tried). Working x m m₁ c o) (after_groups l r g needed) w

  pub after-refused : {m₀ m₁ : Lent} {c : State} {u : Refusal} → Tries (conflicts l r) m₀ m₁ c (Err u) → Working (after g needed l r) m₀ m₁ c (stop (number u))
  after-refused w = regrouped ((else_refused (propagates l r or_else (tiles l r or_else (clashes l r or_else splits g needed l r))) w).is [])

  module _ {m₀ m₁ : Lent} {c : State} {o₁ : StepResult} (w₁ : Tries (conflicts l r) m₀ m₁ c (Ok o₁)) where
    pub after_early : Last o₁ → (k : List ℕ) → Working (after g needed l r) m₀ m₁ c (tried (Ok o₁) m₁ k)
    after_early z k = regrouped ((else_last (propagates l r or_else (tiles l r or_else (clashes l r or_else splits g needed l r))) z w₁).is k)

    module _ {d : State} (e₁ : o₁ ≡ step.Done d) {m₂ : Lent} where
      pub after-refused_2 : {u : Refusal} → Tries (propagates l r) m₁ m₂ d (Err u) → Working (after g needed l r) m₀ m₂ c (stop (number u))
      after-refused_2 w = regrouped ((else_tries (conflicts-rises l r) w₁ e₁ (else_refused (tiles l r or_else (clashes l r or_else splits g needed l r)) w)).is [])

      module _ {o₂ : StepResult} (w₂ : Tries (propagates l r) m₁ m₂ d (Ok o₂)) where
        pub after-known : Last o₂ → (k : List ℕ) → Working (after g needed l r) m₀ m₂ c (tried (Ok o₂) m₂ k)
        after-known z k = regrouped ((else_tries (conflicts-rises l r) w₁ e₁ (else_last (tiles l r or_else (clashes l r or_else splits g needed l r)) z w₂)).is k)

        module _ {e : State} (e₂ : o₂ ≡ step.Done e) {m₃ : Lent} where
          pub after-refused_3 : {u : Refusal} → Tries (tiles l r) m₂ m₃ e (Err u) → Working (after g needed l r) m₀ m₃ c (stop (number u))
          after-refused_3 w =
              regrouped ((else_tries (conflicts-rises l r) w₁ e₁ (else_tries (propagates-rises l r) w₂ e₂
              (else_refused (clashes l r or_else splits g needed l r) w))).is [])

          module _ {o₃ : StepResult} (w₃ : Tries (tiles l r) m₂ m₃ e (Ok o₃)) where
            pub after_tiled : Last o₃ → (k : List ℕ) → Working (after g needed l r) m₀ m₃ c (tried (Ok o₃) m₃ k)
            after_tiled z k =
                regrouped ((else_tries (conflicts-rises l r) w₁ e₁ (else_tries (propagates-rises l r) w₂ e₂
                (else_last (clashes l r or_else splits g needed l r) z w₃))).is k)

            -- the guard is handed on as its bits are read
            pub after-split : {h : ℤ} → h ≡ g → {f : State} {m₄ : Lent} {o : Out (Option Answer)} → o₃ ≡ step.Done f → Working (clashes l r or_else splits h needed l r) m₃ m₄ f o → Working (after g needed l r) m₀ m₄ c o
            after-split q {f} {m₄} {o} e₃ v =
                regrouped (else_works (conflicts-rises l r) w₁ e₁ (else_works (propagates-rises l r) w₂ e₂ (else_works (tiles-rises l r) w₃ e₃
                (subst (λ (z : ℤ). Working (clashes l r or_else splits z needed l r) m₃ m₄ f o) q v))))

-- STEP 1 FIRST

higher-added : {s s₁ : Store} → Added s s₁ → Higher s s₁
higher-added {s} a =
    let n = length-append s.reasons a.more in
    subst (Higher s) (sym a.is) (record { terms = omega arith; cells = omega arith; chars = omega arith; reasons = omega arith; keys = omega arith })

part-short : (l : List ℕ) (i x : ℕ) → length (part l i x) ≤ length l
part-short l i x = let p = length-take (x - i) (drop i l) in let q = length-drop i l in omega arith

-- an answer, or 8. 'Done otherwise.'
finished : (o : Result StepResult Refusal) (m : Lent) (k : List ℕ) → and_then or_done (tried o m k) ≡ resolved o m k
finished (Ok (step.Done c)) m k = refl
finished (Ok (step.Saturated c)) m k = refl
finished (Ok (step.Conflict c)) m k = refl
finished (Ok (step.Propagate c v w f)) m k = refl
finished (Ok (step.Split c n g j)) m k = refl
finished (Err e) m k = refl

or_done_lem : (a : Option Answer) (s s' : Store) (x : Answer) → or_done a s ≡ ok s' x → s ≡ s'
or_done_lem none s s' x e = one_store e
or_done_lem (some y) s s' x e = one_store e

-- what step 1 requires
pub lined_strings : {l r : List ℕ} {m : Lent} {c : State} → Lined l r m c → (all (is_string (read_in m.terms m.chars c)) l ≡ true) × (all (is_string (read_in m.terms m.chars c)) r ≡ true)
lined_strings {l} {r} {m} {c} x = (both_right (leb (length l) list_limit) _ x.lists.left, both_right (leb (length r) list_limit) _ x.lists.right)

module _ (g : ℤ) (l r : List ℕ) {m m₁ : Lent} {c : State} where
  pub steps-refused : {u : Refusal} → Strips m m₁ c l r (Err u) → Working (steps g l r) m m₁ c (stop (number u))
  unfolding steps
  steps-refused w = working_stopped (rw w.is.says) w.is.kept

  module _ {y : Stripped} (w : Strips m m₁ c l r (Ok y)) where
    abbrev d : State
    d = y.counts

    abbrev i : ℕ
    i = y.rest.from

    abbrev p : ℕ
    p = y.rest.lhs

    abbrev q : ℕ
    q = y.rest.rhs

    abbrev f : Bool
    f = y.needed

    pub parts-inside : (i ≤ p) × (p ≤ length l) × (i ≤ q) × (q ≤ length r)
    parts-inside = w.inside

    stripping : Working (strip l r) m m₁ c (ok (store_of m₁ d) (part l i p, part r i q))
    stripping = w.is

    -- for the steps that follow
    parts-ready : Ready m₁ d
    parts-ready = stripping.ready d (part l i p, part r i q) refl

    abbrev rest : Bool → Bool → Out Answer
    rest bare added = and_then or_done ((if bare then answer done else after g added (part l i p) (part r i q)) (store_of m₁ d))

    abbrev asked : Bool
    asked = any (needs_reason (store_of m c)) (matches (store_of m c) l r)

    opened : steps g l r (store_of m c) ≡ rest (is_bare (part l i p) (part r i q)) asked
    unfolding steps
    opened = rw stripping.says

    counted : is_bare (part l i p) (part r i q) ≡ false → f ≡ asked
    counted z = w.needs.is z

    pub steps-bare : (b : Bool) → b ≡ is_bare (part l i p) (part r i q) → b ≡ true → (k : List ℕ) → Working (steps g l r) m m₁ c (resolved (Ok (step.Done d)) m₁ k)
    steps-bare b e z k = working_left parts-ready (opened ∙ ap (λ (x : Bool). rest x asked) (sym e ∙ z)) w.is.kept

    module _ (x : Lined l r m c) where
      off : strip.Stripped l r (store_of m c) (store_of m₁ d) (part l i p, part r i q)
      off = (strip-ends l r (store_of m c) x.ready.audited (list_every (store_of m c) l x.lists.left) (list_every (store_of m c) r x.lists.right)).given
          (store_of m₁ d) (part l i p, part r i q) stripping.says

      -- a place in the lists, in bytes
      pub parts-fit : i * 4 < 2 ^ 64
      parts-fit =
          let a = list-short (store_of m c) l x.lists.left in
          let b = parts-inside.0 in
          let f = parts-inside.1 in
          omega arith

      pub parts_lined : Lined (part l i p) (part r i q) m₁ d
      parts_lined =
          let a = list-short (store_of m c) l x.lists.left in
          let b = list-short (store_of m c) r x.lists.right in
          let f = part-short l i p in
          let h = part-short r i q in
          record {
            ready = parts-ready;
            lists = record {
              left = both_true _ _ (le-leb (length (part l i p)) list_limit (omega arith)) (every_all off.left);
              right = both_true _ _ (le-leb (length (part r i q)) list_limit (omega arith)) (every_all off.right);
            };
          }

      pub parts_apart : HeadsApart (part l i p) (part r i q)
      parts_apart = heads-apart (part l i p) (part r i q) off.apart

      pub steps_after : (b : Bool) → b ≡ is_bare (part l i p) (part r i q) → b ≡ false → {h : ℤ} → h ≡ g → {m₂ : Lent} (o : Result StepResult Refusal) (k : List ℕ) → Working (after h f (part l i p) (part r i q)) m₁ m₂ d (tried o m₂ k) → Working (steps g l r) m m₂ c (resolved o m₂ k)
      steps_after b e z n {m₂} o k v =
          let u = working_at (finished o m₂ k) (working_answer or_done or_done_lem v) in
          record {
            says =
                opened ∙ ap (λ (x : Bool). rest x asked) (sym e ∙ z) ∙ ap (rest false) (sym (counted (sym e ∙ z)))
                ∙ ap (λ (y : ℤ). and_then or_done (after y f (part l i p) (part r i q) (store_of m₁ d))) (sym n) ∙ u.says;
            kept = keeps_then (higher-added off.cited.added) w.is.kept v.kept;
            ready = u.ready;
          }
