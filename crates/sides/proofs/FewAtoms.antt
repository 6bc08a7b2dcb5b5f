-- A Split lists at most three atoms, its guard is the one handed in, negated, and it makes at most nine terms.
use Rattle.std.specs.Prelude.{if◌then◌else◌}
use mathlib.Core.Path.{◌≡◌, refl, subst}
use mathlib.Core.Bool.{Bool, true, false, not, ◌&&◌, ◌||◌}
use mathlib.Core.List.{List, [], ◌∷◌, ◌++◌}
use mathlib.Core.Option.{Option, none, some}
use Prim.Native.Nat.{ℕ, suc, ◌+◌, ◌≤◌}
use native.Mathlib.Omega.{arith}
use lib.IntN.{ℤ, neg_ℤ}
use lib.ListN.{length}
use Rattle.records.specs.Lists.{all, any, first_of}
use Rattle.records.specs.Store.{Store, Out, ok, stop, Work, and_then, is_constant, is_variable, is_concat, text}
use Rattle.records.specs.Make.{add_key, is_key, is_some, lookup, constant_of, length_of, equation_of, make_constant, make_concat, make_length, make_equation}
use Rattle.records.proofs.Works.{stop-not}
use Rattle.engine.specs.Explain.{explain}
use Rattle.normalize.specs.Normalize.{flatten}
use Rattle.sides.specs.Wordeq.{Answer, done, saturated, conflict, propagate, split, Tried, settled, ◌or_else◌, same, matches, needs_reason, fixed, letters, occurrence, occurs_at, occurs, constants, alias, is_plain, empties_at, empties, assigns, fits, explain_all, variables, tile_by, tile, clashes, differ, one_if_absent, fresh_variable, split_character, split_heads, split_by, splits, after, is_bare, or_done, strip, steps, softened, closed, resolve, unequal, short, absent}
use Rattle.sides.proofs.Counted.{absence}

-- WHAT EVERY VALUE OF A WORK HAS

module _ {A : Type 0} where
  pub record Always (P : A → Type 0) (o : Out A) : Type 0 where
    pub given : (s : Store) (x : A) → o ≡ ok s x → P x

  pub give_has : {P : A → Type 0} {s : Store} {x : A} → P x → Always P (ok s x)
  give_has {P} {s} {x} h = record { given = λ s₁ y e. at cc }
    where
      at : {y : A} → x ≡ y → P y
      at q = subst P q h

  if_has : {P : A → Type 0} (b : Bool) (m n : Work A) {s : Store} → Always P (m s) → Always P (n s) → Always P ((if b then m else n) s)
  if_has true m n f g = f
  if_has false m n f g = g

module _ {A B : Type 0} where
  pub next-has : {P : A → Type 0} {Q : B → Type 0} (f : A → Work B) (o : Out A) → Always P o → ((s : Store) (x : A) → P x → Always Q (f x s)) → Always Q (and_then f o)
  next-has f (ok s x) e k = k s x (e.given s x refl)
  next-has f (stop n) e k = record { given = λ s x q. stop-not q }

  pub then-has : {Q : B → Type 0} (f : A → Work B) (o : Out A) → ((s : Store) (x : A) → Always Q (f x s)) → Always Q (and_then f o)
  then-has f (ok s x) k = k s x
  then-has f (stop n) k = record { given = λ s x q. stop-not q }

-- THE STEPS

module _ (g : ℤ) where
  abbrev pub Few : Answer → Type 0
  Few done = Unit {0}
  Few saturated = Unit {0}
  Few conflict = Unit {0}
  Few (propagate v x f) = Unit {0}
  Few (split l h n) = (length l ≤ 3) × (h ≡ neg_ℤ g) × (n ≤ 9)

  abbrev pub FewIf : Option Answer → Type 0
  FewIf none = Unit {0}
  FewIf (some x) = Few x

  abbrev Step : Tried → Type 0
  Step m = (s : Store) → Always FewIf (m s)

  else_few : (m n : Tried) → Step m → Step n → Step (m or_else n)
  else_few m n f h s = next-has (settled n) (m s) (f s) (λ s₁ o k. go s₁ o k)
    where
      go : (s₁ : Store) (o : Option Answer) → FewIf o → Always FewIf (settled n o s₁)
      go s₁ none k = h s₁
      go s₁ (some x) k = give_has k

  occurs-few : (l r : List ℕ) → Step (occurs l r)
  unfolding occurs
  occurs-few [] r s = give_has tt
  occurs-few (x ∷ []) r s = if_has (is_constant s x) _ _ (give_has tt) (at (occurrence s x [] r))
    where
      at : (o : Option ℕ) → Always FewIf (occurs_at x o s)
      at none = give_has tt
      at (some y) = then-has _ (explain y x s) (λ s₁ u. give_has tt)
  occurs-few (x ∷ y ∷ l) r s = give_has tt

  constants-few : (l r : List ℕ) → Step (constants l r)
  unfolding constants
  constants-few l r s = if_has (unequal s l r || short s l r || short s r l || absent s l r || absent s r l) _ _ (give_has tt) (give_has tt)

  alias-few : (l r : List ℕ) → Step (alias l r)
  unfolding alias
  alias-few (a ∷ []) (b ∷ []) s = if_has (is_plain s a && is_plain s b) _ _ (give_has tt) (give_has tt)
  alias-few (a ∷ []) [] s = give_has tt
  alias-few (a ∷ []) (b ∷ c ∷ r) s = give_has tt
  alias-few [] r s = give_has tt
  alias-few (a ∷ c ∷ l) r s = give_has tt

  empties-few : (l r : List ℕ) → Step (empties l r)
  unfolding empties
  empties-few [] (a ∷ b ∷ r) s =
      if_has (all (is_variable s) (a ∷ b ∷ r)) _ _ (then-has _ (make_constant [] s) (λ s₁ e. at s₁ e (first_of (λ v. not (same s₁ v e)) (a ∷ b ∷ r)))) (give_has tt)
    where
      at : (s₁ : Store) (e : ℕ) (o : Option ℕ) → Always FewIf (empties_at e o s₁)
      at s₁ e none = give_has tt
      at s₁ e (some v) = give_has tt
  empties-few [] [] s = give_has tt
  empties-few [] (a ∷ []) s = give_has tt
  empties-few (x ∷ l) r s = give_has tt

  assigns-few : (l r : List ℕ) → Step (assigns l r)
  unfolding assigns
  assigns-few (a ∷ []) r s = if_has (is_variable s a && fixed s r) _ _ (then-has _ (make_constant (letters s r) s) (λ s₁ w. give_has tt)) (give_has tt)
  assigns-few [] r s = give_has tt
  assigns-few (a ∷ b ∷ l) r s = give_has tt

  tile-few : (l r : List ℕ) → Step (tile l r)
  unfolding tile tile_by
  tile-few l r s = if_has (fixed s l) _ _ (at (variables s r)) (give_has tt)
    where
      at : (vs : List ℕ) → Always FewIf (tile_by s l r vs s)
      at [] = give_has tt
      at (v ∷ vs) = if_has (all (λ u. same s u v) vs && not (fits s (letters s l) r (suc (length vs)))) _ _ (then-has _ (explain_all vs v s) (λ s₁ u. give_has tt)) (give_has tt)

  clashes-few : (l r : List ℕ) → Step (clashes l r)
  unfolding clashes
  clashes-few [] r s = give_has tt
  clashes-few (a ∷ l) [] s = give_has tt
  clashes-few (a ∷ l) (b ∷ r) s = if_has (is_constant s a && is_constant s b && differ (text s a) (text s b)) _ _ (give_has tt) (give_has tt)

  one_most : (b : Bool) → (if b then 0 else 1) ≤ 1
  one_most true = omega arith
  one_most false = omega arith

  -- what was absent
  three_most : (s₁ s₂ s₃ : Store) (p q r : Store → ℕ → Bool) → absence p s₁ + absence q s₂ + absence r s₃ ≤ 3
  three_most s₁ s₂ s₃ p q r = let a = one_most (is_some (lookup p s₁)) in let b = one_most (is_some (lookup q s₂)) in let c = one_most (is_some (lookup r s₃)) in omega arith

  character-few : (v c : ℕ) → Step (split_character g v c)
  unfolding split_character one_if_absent
  character-few v c s =
      then-has _ (make_constant [] s) (λ s₁ e. then-has _ (make_equation v e s₁) (λ s₂ p. then-has _ (make_constant (c ∷ []) s₂) (λ s₃ h.
      then-has _ (fresh_variable s₃) (λ s₄ z. then-has _ (make_concat (h ∷ z ∷ []) s₄) (λ s₅ t. then-has _ (make_equation v t s₅) (λ s₆ q.
      let n = three_most s s₁ s₂ (constant_of []) (equation_of v e) (constant_of (c ∷ [])) in give_has (omega arith, refl, omega arith)))))))

  heads-few : (a b : ℕ) → Step (split_heads g a b)
  unfolding split_heads one_if_absent
  heads-few a b s =
      then-has _ (make_length a s) (λ s₁ la. then-has _ (make_length b s₁) (λ s₂ lb. then-has _ (make_equation la lb s₂) (λ s₃ p.
      then-has _ (fresh_variable s₃) (λ s₄ z₁. then-has _ (make_concat (b ∷ z₁ ∷ []) s₄) (λ s₅ t₁. then-has _ (make_equation a t₁ s₅) (λ s₆ q₁.
      then-has _ (fresh_variable s₆) (λ s₇ z₂. then-has _ (make_concat (a ∷ z₂ ∷ []) s₇) (λ s₈ t₂. then-has _ (make_equation b t₂ s₈) (λ s₉ q₂.
      let n = three_most s s₁ s₂ (length_of a) (length_of b) (equation_of la lb) in give_has (omega arith, refl, omega arith))))))))))

  by-few : (v : ℕ) (w : List ℕ) (other : Tried) → Step other → Step (split_by g v w other)
  by-few v [] other h s = h s
  by-few v (x ∷ w) other h s = character-few v x s

  -- behind the key
  pub chosen-few : (a b : ℕ) (s s₁ : Store) → Always FewIf ((if is_constant s b then split_by g a (text s b) (split_heads g a b) else if is_constant s a then split_by g b (text s a) (split_heads g a b) else split_heads g a b) s₁)
  chosen-few a b s s₁ =
      if_has (is_constant s b) _ _ (by-few a (text s b) (split_heads g a b) (heads-few a b) s₁)
      (if_has (is_constant s a) _ _ (by-few b (text s a) (split_heads g a b) (heads-few a b) s₁) (heads-few a b s₁))

  splits-few : (needed : Bool) (l r : List ℕ) → Step (splits g needed l r)
  unfolding splits
  splits-few needed [] r s = give_has tt
  splits-few needed (a ∷ l) [] s = give_has tt
  splits-few needed (a ∷ l) (b ∷ r) s =
      if_has (is_constant s a && is_constant s b) _ _ (give_has tt)
      (if_has (needed || is_key s a b) _ _ (give_has tt)
      (then-has _ (add_key a b s) (λ s₁ u. chosen-few a b s s₁)))

  after-few : (needed : Bool) (l r : List ℕ) → Step (after g needed l r)
  unfolding after
  after-few needed l r =
      else_few _ _ (else_few _ _ (else_few _ _ (else_few _ _ (else_few _ _ (else_few _ _ (else_few _ _ (else_few _ _ (else_few _ _ (else_few _ _ (else_few _ _
      (occurs-few l r) (occurs-few r l))
      (constants-few l r))
      (alias-few l r)) (empties-few l r)) (empties-few r l)) (assigns-few l r)) (assigns-few r l))
      (tile-few l r)) (tile-few r l))
      (clashes-few l r))
      (splits-few needed l r)

  steps-few : (l r : List ℕ) (s : Store) → Always Few (steps g l r s)
  unfolding steps
  steps-few l r s = then-has _ (strip l r s) (λ s₁ v. next-has or_done _ (tried s₁ v) finished)
    where
      tried : (s₁ : Store) (v : List ℕ × List ℕ) → Always FewIf ((if is_bare v.0 v.1 then (λ t. ok t (some done)) else after g (any (needs_reason s) (matches s l r)) v.0 v.1) s₁)
      tried s₁ v = if_has (is_bare v.0 v.1) _ _ (give_has tt) (after-few _ v.0 v.1 s₁)

      finished : (s₂ : Store) (o : Option Answer) → FewIf o → Always Few (or_done o s₂)
      finished s₂ none k = give_has tt
      finished s₂ (some x) k = give_has k

  soft-few : (x : Answer) → Few x → Few (softened x)
  soft-few done k = tt
  soft-few saturated k = tt
  soft-few conflict k = tt
  soft-few (propagate v x f) k = tt
  soft-few (split l h n) k = k

  closed-few : (rs : List (ℕ × ℕ)) (s : Store) (x : Answer) → Few x → Always Few (closed rs x s)
  closed-few rs s done k = give_has tt
  closed-few rs s saturated k = give_has tt
  closed-few rs s conflict k = give_has tt
  closed-few rs s (propagate v x f) k = give_has tt
  closed-few rs s (split l h n) k = give_has k

  pub resolve-few : (l r : List ℕ) (s : Store) → Always Few (resolve l r g s)
  unfolding resolve
  resolve-few l r s =
      next-has _ _
      (if_has (any (is_concat s) (l ++ r)) _ _
      (then-has _ (flatten l s) (λ s₁ m. then-has _ (flatten r s₁) (λ s₂ n. next-has _ (steps g m n s₂) (steps-few m n s₂) (λ s₃ y k. give_has (soft-few y k)))))
      (steps-few l r s))
      (λ s₁ x k. closed-few s.reasons s₁ x k)
