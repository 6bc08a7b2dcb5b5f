-- Steps tried one after the other: where a step passes the next goes on from the slices and counts that it left; where it answers, that is
-- the answer.
use mathlib.Core.Path.{◌≡◌, refl, sym, ap, subst, ◌∙◌, fun_ext}
use mathlib.Core.Bool.{Bool, false, not, ◌&&◌, ◌||◌}
use mathlib.Core.List.{List, [], ◌∷◌}
use mathlib.Core.Option.{Option, none, some}
use Prim.Native.Nat.{ℕ, suc}
use native.Mathlib.Omega.{arith}
use lib.ListN.{length}
use lib.IntN.{ℤ}
use Rattle.records.specs.declared.State.{State}
use Rattle.records.specs.Lists.{all, first_of}
use Rattle.records.specs.Store.{Store, Out, ok, and_then, ◌>>=◌, is_constant, is_variable}
use Rattle.records.specs.View.{Lent, store_of}
use Rattle.records.specs.Make.{make_constant}
use Rattle.records.specs.Working.Audited.{Ready}
use Rattle.records.specs.Working.Doing.{Working}
use Rattle.records.proofs.Works.{via, branch}
use Rattle.records.proofs.Doing.{working_at}
use Rattle.engine.specs.Explain.{explain}
use Rattle.std.specs.Prelude.{Result, Ok, Err}
use Rattle.records.specs.declared.refusal.Refusal.{Refusal}
use Rattle.sides.specs.declared.StepResult.{StepResult}
use Rattle.sides.specs.declared.StepResult.TheVariants as step
use Rattle.sides.specs.Wordeq.{Answer, conflict, propagate, Tried, answer, pass, settled, ◌or_else◌, same, fixed, letters, occurrence, occurs_at, occurs, unequal, short, absent, constants, is_plain, alias, empties_at, empties, assigns, fits, explain_all, variables, tile_by, tile, clashes, splits, after}
use Rattle.sides.specs.Working.Results.{BothLists, tried, Tries}
use Rattle.sides.proofs.Orelse.{else_assoc}
use Rattle.records.proofs.Counts.{Higher, higher-none, higher-then}
use Rattle.records.proofs.IndexStores.{keeps_then}
use Rattle.records.proofs.Sequence.{grows-constant}
use Rattle.records.proofs.ListLaws.{list-stays}

-- ORDER

-- steps tried in order are grouped as one likes
pub else_groups : (a b n : Tried) → (a or_else b) or_else n ≡ a or_else (b or_else n)
else_groups a b n = fun_ext (λ s. else_assoc a b s n)

-- WHAT A STEP THAT PASSES LEAVES

-- nothing is taken away
pub record Rises (a : Tried) : Type 0 where
  pub higher : (s s' : Store) → a s ≡ ok s' none → Higher s s'

-- the store is as it was
stays : {A : Type 0} {s s' : Store} {x y : A} → ok s x ≡ ok s' y → Higher s s'
stays {s = s} {s' = s'} e = let q : s ≡ s' = cc in subst (Higher s) q (higher-none s)

answered-not : {X : Type 0} {s s' : Store} {x : Answer} → ◌≡◌ {A = Out (Option Answer)} (ok s (some x)) (ok s' none) → X
answered-not e = let z : ◌≡◌ {A = ℕ} 0 1 = cc in absurd (omega arith)

rises_else : {a b : Tried} → Rises a → Rises b → Rises (a or_else b)
rises_else {a} {b} p q = record { higher = λ s s' e. via (settled b) (a s) e (λ s₁ o i j. go s s' s₁ o i j) }
  where
    go : (s s' s₁ : Store) (o : Option Answer) → a s ≡ ok s₁ o → settled b o s₁ ≡ ok s' none → Higher s s'
    go s s' s₁ none i j = higher-then (p.higher s s₁ i) (q.higher s₁ s' j)
    go s s' s₁ (some x) i j = answered-not j

-- ONE STEP, THEN THE REST

-- what each step requires
pub record Lined (l r : List ℕ) (m : Lent) (c : State) : Type 0 where
  pub ready : Ready m c
  pub lists : BothLists (store_of m c) l r

pub lined : {l r : List ℕ} {m : Lent} {c : State} → Ready m c → BothLists (store_of m c) l r → Lined l r m c
lined x y = record { ready = x; lists = y }

module _ {a : Tried} (g : Rises a) {m m₁ : Lent} {c d : State} {o : StepResult} (w : Tries a m m₁ c (Ok o)) (e : o ≡ step.Done d) where
  passed : Working a m m₁ c (ok (store_of m₁ d) none)
  passed = working_at (ap (λ (x : StepResult). tried (Ok x) m₁ []) e) (w.is [])

  risen : Higher (store_of m c) (store_of m₁ d)
  risen = g.higher (store_of m c) (store_of m₁ d) passed.says

  -- for the next step
  pub passed-ready : Ready m₁ d
  passed-ready = passed.ready d none refl

  pub passed_on : {l r : List ℕ} → BothLists (store_of m c) l r → Lined l r m₁ d
  passed_on {l} {r} x = record {
    ready = passed-ready;
    lists = record { left = list-stays m m₁ c d risen passed.kept.store l x.left; right = list-stays m m₁ c d risen passed.kept.store r x.right };
  }

  -- the next step's answer
  pub else_works : {b : Tried} {m₂ : Lent} {o₂ : Out (Option Answer)} → Working b m₁ m₂ d o₂ → Working (a or_else b) m m₂ c o₂
  else_works {b} {m₂} v = record {
    says = ap (and_then (settled b)) passed.says ∙ v.says;
    kept = keeps_then risen passed.kept v.kept;
    ready = v.ready;
  }

  pub else_tries : {b : Tried} {m₂ : Lent} {o₂ : Result StepResult Refusal} → Tries b m₁ m₂ d o₂ → Tries (a or_else b) m m₂ c o₂
  else_tries v = record { is = λ k. else_works (v.is k) }

-- a step that answers is the last
abbrev pub Last : StepResult → Type 0
Last (step.Done d) = ⊥
Last (step.Saturated d) = Unit {0}
Last (step.Conflict d) = Unit {0}
Last (step.Propagate d v w f) = Unit {0}
Last (step.Split d n g j) = Unit {0}

-- an answer that is not Done, as a `let .. else` tells it
pub last_of : (o : StepResult) → ((d : State) → o ≡ step.Done d → ⊥) → Last o
last_of (step.Done d) h = absurd (h d refl)
last_of (step.Saturated d) h = tt
last_of (step.Conflict d) h = tt
last_of (step.Propagate d v w f) h = tt
last_of (step.Split d n g j) h = tt

settles : (b : Tried) (m : Lent) (o : StepResult) (k : List ℕ) → Last o → and_then (settled b) (tried (Ok o) m k) ≡ tried (Ok o) m k
settles b m (step.Done d) k z = absurd z
settles b m (step.Saturated d) k z = refl
settles b m (step.Conflict d) k z = refl
settles b m (step.Propagate d v w f) k z = refl
settles b m (step.Split d n g j) k z = refl

pub else_last : {a : Tried} (b : Tried) {m m₁ : Lent} {c : State} {o : StepResult} → Last o → Tries a m m₁ c (Ok o) → Tries (a or_else b) m m₁ c (Ok o)
else_last b {m₁ = m₁} {o = o} z w = record { is = λ k. record { says = ap (and_then (settled b)) (w.is k).says ∙ settles b m₁ o k z; kept = (w.is k).kept; ready = (w.is k).ready } }

-- and so is one that is refused
pub else_refused : {a : Tried} (b : Tried) {m m₁ : Lent} {c : State} {e : Refusal} → Tries a m m₁ c (Err e) → Tries (a or_else b) m m₁ c (Err e)
else_refused b w = record { is = λ k. record { says = ap (and_then (settled b)) (w.is k).says; kept = (w.is k).kept; ready = (w.is k).ready } }

-- THE STEPS

pub occurs-rises : (l r : List ℕ) → Rises (occurs l r)
unfolding occurs
occurs-rises [] r = record { higher = λ s s' e. stays e }
occurs-rises (x ∷ y ∷ l) r = record { higher = λ s s' e. stays e }
occurs-rises (x ∷ []) r = record { higher = λ s s' e. branch (is_constant s x) pass (occurs_at x (occurrence s x [] r)) (λ b i. stays i) (λ b i. go s s' (occurrence s x [] r) i) e }
  where
    go : (s s' : Store) (o : Option ℕ) → occurs_at x o s ≡ ok s' none → Higher s s'
    go s s' none e = stays e
    go s s' (some y) e = via (λ u. answer conflict) (explain y x s) e (λ s₁ u i j. answered-not j)

constants-rises : (l r : List ℕ) → Rises (constants l r)
unfolding constants
constants-rises l r = record {
  higher = λ s s' e. branch (unequal s l r || short s l r || short s r l || absent s l r || absent s r l) (answer conflict) pass (λ b i. answered-not i) (λ b i. stays i) e;
}

alias-rises : (l r : List ℕ) → Rises (alias l r)
unfolding alias
alias-rises (a ∷ []) (b ∷ []) = record { higher = λ s s' e. branch (is_plain s a && is_plain s b) (answer (propagate a b false)) pass (λ x i. answered-not i) (λ x i. stays i) e }
alias-rises (a ∷ []) [] = record { higher = λ s s' e. stays e }
alias-rises (a ∷ []) (b ∷ c ∷ r) = record { higher = λ s s' e. stays e }
alias-rises [] r = record { higher = λ s s' e. stays e }
alias-rises (a ∷ c ∷ l) r = record { higher = λ s s' e. stays e }

-- the empty word may have been made
empties-rises : (l r : List ℕ) → Rises (empties l r)
unfolding empties
empties-rises [] [] = record { higher = λ s s' e. stays e }
empties-rises [] (a ∷ []) = record { higher = λ s s' e. stays e }
empties-rises (x ∷ l) r = record { higher = λ s s' e. stays e }
empties-rises [] (a ∷ b ∷ r) = record { higher = λ s s' e. branch (all (is_variable s) (a ∷ b ∷ r)) found pass (λ x i. go s s' i) (λ x i. stays i) e }
  where
    found : Tried
    found = make_constant [] >>= (λ e s₁. empties_at e (first_of (λ v. not (same s₁ v e)) (a ∷ b ∷ r)) s₁)

    at : (t : ℕ) (s s' : Store) (o : Option ℕ) → empties_at t o s ≡ ok s' none → Higher s s'
    at t s s' none e = stays e
    at t s s' (some v) e = answered-not e

    go : (s s' : Store) → found s ≡ ok s' none → Higher s s'
    go s s' e = via (λ t s₁. empties_at t (first_of (λ v. not (same s₁ v t)) (a ∷ b ∷ r)) s₁) (make_constant [] s) e (λ s₁ t i j.
        higher-then ((grows-constant []).higher s s₁ t i) (at t s₁ s' (first_of (λ v. not (same s₁ v t)) (a ∷ b ∷ r)) j))

assigns-rises : (l r : List ℕ) → Rises (assigns l r)
unfolding assigns
assigns-rises [] r = record { higher = λ s s' e. stays e }
assigns-rises (a ∷ b ∷ l) r = record { higher = λ s s' e. stays e }
assigns-rises (a ∷ []) r = record {
  higher = λ s s' e. branch (is_variable s a && fixed s r) (make_constant (letters s r) >>= (λ w. answer (propagate a w false))) pass
      (λ x i. via (λ w. answer (propagate a w false)) (make_constant (letters s r) s) i (λ s₁ t p q. answered-not q)) (λ x i. stays i) e;
}

tile-rises : (l r : List ℕ) → Rises (tile l r)
unfolding tile tile_by
tile-rises l r = record { higher = λ s s' e. branch (fixed s l) (tile_by s l r (variables s r)) pass (λ b i. go s s' (variables s r) i) (λ b i. stays i) e }
  where
    go : (s s' : Store) (vs : List ℕ) → tile_by s l r vs s ≡ ok s' none → Higher s s'
    go s s' [] e = stays e
    go s s' (v ∷ vs) e =
        branch (all (λ u. same s u v) vs && not (fits s (letters s l) r (suc (length vs)))) (λ x. and_then (λ u. answer conflict) (explain_all vs v x)) pass
        (λ b i. via (λ u. answer conflict) (explain_all vs v s) i (λ s₁ u p q. answered-not q)) (λ b i. stays i) e

module _ (l r : List ℕ) where
  -- 2
  abbrev pub occurs_both : Tried
  occurs_both = occurs l r or_else occurs r l

  -- 2 and 3
  abbrev pub conflicts : Tried
  conflicts = occurs_both or_else constants l r

  -- 4
  abbrev pub propagates : Tried
  propagates = alias l r or_else empties l r or_else empties r l or_else assigns l r or_else assigns r l

  -- 5
  abbrev pub tiles : Tried
  tiles = tile l r or_else tile r l

  pub both-rises : Rises occurs_both
  both-rises = rises_else (occurs-rises l r) (occurs-rises r l)

  pub conflicts-rises : Rises conflicts
  conflicts-rises = rises_else both-rises (constants-rises l r)

  pub propagates-rises : Rises propagates
  propagates-rises = rises_else (rises_else (rises_else (rises_else (alias-rises l r) (empties-rises l r)) (empties-rises r l)) (assigns-rises l r)) (assigns-rises r l)

  pub tiles-rises : Rises tiles
  tiles-rises = rises_else (tile-rises l r) (tile-rises r l)

  -- steps 2 to 7 in groups
  abbrev pub grouped : ℤ → Bool → Tried
  grouped g added = conflicts or_else (propagates or_else (tiles or_else (clashes l r or_else splits g added l r)))

  pub after_groups : (g : ℤ) (added : Bool) → grouped g added ≡ after g added l r
  unfolding after
  after_groups g added =
      sym (else_groups conflicts propagates (tiles or_else (clashes l r or_else splits g added l r)))
      ∙ sym (else_groups (conflicts or_else propagates) tiles (clashes l r or_else splits g added l r))
      ∙ sym (else_groups ((conflicts or_else propagates) or_else tiles) (clashes l r) (splits g added l r))
      ∙ ap (λ (x : Tried). x or_else clashes l r or_else splits g added l r)
      (sym (else_groups (conflicts or_else propagates) (tile l r) (tile r l))
      ∙ ap (λ (x : Tried). x or_else tile l r or_else tile r l) flat)
    where
      flat : conflicts or_else propagates ≡ conflicts or_else alias l r or_else empties l r or_else empties r l or_else assigns l r or_else assigns r l
      flat =
          sym (else_groups conflicts (alias l r or_else empties l r or_else empties r l or_else assigns l r) (assigns r l))
          ∙ ap (λ (x : Tried). x or_else assigns r l)
          (sym (else_groups conflicts (alias l r or_else empties l r or_else empties r l) (assigns l r))
          ∙ ap (λ (x : Tried). x or_else assigns l r)
          (sym (else_groups conflicts (alias l r or_else empties l r) (empties r l))
          ∙ ap (λ (x : Tried). x or_else empties r l) (sym (else_groups conflicts (alias l r) (empties l r)))))
