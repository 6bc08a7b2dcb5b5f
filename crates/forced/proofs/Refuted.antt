-- Wordeq on two lists whose residual lists have a remainder or a shortage: the answer is Conflict, or Saturated where a concatenation was
-- flattened, unless the reasons are full.
use Rattle.std.specs.Prelude.{if◌then◌else◌}
use mathlib.Core.Path.{◌≡◌, refl, sym, subst, ◌∙◌}
use mathlib.Core.Bool.{Bool, true, false}
use mathlib.Core.List.{List, ◌++◌}
use mathlib.Core.Option.{Option}
use Prim.Native.Nat.{ℕ, ◌≤◌}
use lib.ListN.{length}
use lib.IntN.{ℤ}
use Rattle.records.specs.Lists.{any, concat_map}
use Rattle.records.specs.Store.{Store, Out, ok, stop, Work, and_then, ◌>>=◌, give, is_concat}
use Rattle.records.specs.Make.{with_reasons}
use Rattle.records.specs.Rules.{list_limit}
use Rattle.records.specs.Working.Audited.{Audited}
use Rattle.records.proofs.Lists.{any_append}
use Rattle.records.proofs.Works.{via}
use Rattle.records.proofs.Grown.{Strings}
use Rattle.normalize.specs.Normalize.{atoms, flatten}
use Rattle.normalize.proofs.Atoms.{flatten-fits}
use Rattle.sides.specs.Wordeq.{Answer, done, saturated, conflict, answer, matches, rest, explain_matches, strip, after, is_bare, or_done, steps, softened, closed, resolve}
use Rattle.sides.proofs.Cited.{Full}
use Rattle.sides.proofs.Strip.{strip-ends, strip-full}
use Rattle.wordeq.proofs.Flattened.{neither_left, neither_right, plain_flat}
use Rattle.forced.specs.Forces.{Only, answers, full}
use Rattle.forced.proofs.Unfit.{Ending, ends, stops, Refuted, after-ends, not-bare, refuted_beside}

-- STEP 1

-- what it leaves, and that of the store it changes the reasons alone
record Leaves (l r : List ℕ) (s s₁ : Store) (v : List ℕ × List ℕ) : Type 0 where
  reasons : List (ℕ × ℕ)
  store_is : s₁ ≡ with_reasons s reasons
  rest_is : v ≡ rest s l r
  audited : Audited s₁
  left : Strings s₁ v.0
  right : Strings s₁ v.1

strip-leaves : (l r : List ℕ) (s : Store) → Audited s → Strings s l → Strings s r → (s₁ : Store) (v : List ℕ × List ℕ) → strip l r s ≡ ok s₁ v → Leaves l r s s₁ v
unfolding strip
strip-leaves l r s d hl hr s₁ v e =
    let x = (strip-ends l r s d hl hr).given s₁ v e in
    record {
      reasons = s.reasons ++ x.cited.added.more;
      store_is = x.cited.added.is;
      rest_is = via (λ u. give (rest s l r)) (explain_matches (matches s l r) s) e (λ s₂ u c f. (let z : rest s l r ≡ v = cc in sym z));
      audited = x.cited.audited;
      left = x.left;
      right = x.right;
    }

-- ONE ANSWER

only_then : {A : Type 0} {y : Answer} (f : A → Work Answer) (o : Out A) → Full o → ((s : Store) (a : A) → o ≡ ok s a → Only y (f a s)) → Only y (and_then f o)
only_then f (ok s a) h k = k s a refl
only_then {y = y} f (stop n) h k = subst (λ (j : ℕ). Only y (stop j)) (sym (h.seven n refl)) full

answered : {o : Out (Option Answer)} → Ending o → Only conflict (and_then or_done o)
answered (ends s₁) = answers s₁
answered stops = full

soft : {o : Out Answer} → Only conflict o → Only saturated (and_then (λ w. give (softened w)) o)
soft (answers s₁) = answers s₁
soft full = full

closed-soft : (rs : List (ℕ × ℕ)) {o : Out Answer} → Only saturated o → Only saturated (and_then (closed rs) o)
closed-soft rs (answers s₁) = answers (with_reasons s₁ rs)
closed-soft rs full = full

closed_hard : (rs : List (ℕ × ℕ)) {o : Out Answer} → Only conflict o → Only conflict (and_then (closed rs) o)
closed_hard rs (answers s₁) = answers s₁
closed_hard rs full = full

-- STEPS 1 TO 8

module _ (l r : List ℕ) (s : Store) (au : Audited s) (hl : Strings s l) (hr : Strings s r) (x : Refuted s (rest s l r).0 (rest s l r).1) (g : ℤ) where
  abbrev tries : Bool → List ℕ × List ℕ → Store → Out (Option Answer)
  tries added v = if is_bare v.0 v.1 then answer done else after g added v.0 v.1

  -- what is left, with any reasons
  here : (added : Bool) (rs : List (ℕ × ℕ)) → Audited (with_reasons s rs) → Strings (with_reasons s rs) (rest s l r).0 → Strings (with_reasons s rs) (rest s l r).1
      → Ending (tries added (rest s l r) (with_reasons s rs))
  here added rs d kl kr =
      subst (λ (b : Bool). Ending ((if b then answer done else after g added (rest s l r).0 (rest s l r).1) (with_reasons s rs))) (sym (not-bare s (rest s l r).0 (rest s l r).1 x))
      (after-ends g added (with_reasons s rs) d (rest s l r).0 (rest s l r).1 kl kr (refuted_beside s rs (rest s l r).0 (rest s l r).1 x))

  tried : (added : Bool) (s₁ : Store) (v : List ℕ × List ℕ) → Leaves l r s s₁ v → Ending (tries added v s₁)
  tried added s₁ v k =
      subst (λ (t : Store). Ending (tries added v t)) (sym k.store_is)
      (subst (λ (w : List ℕ × List ℕ). Ending (tries added w (with_reasons s k.reasons))) (sym k.rest_is)
      (here added k.reasons (subst Audited k.store_is k.audited)
      (subst (λ (w : List ℕ × List ℕ). Strings (with_reasons s k.reasons) w.0) k.rest_is (subst (λ (t : Store). Strings t v.0) k.store_is k.left))
      (subst (λ (w : List ℕ × List ℕ). Strings (with_reasons s k.reasons) w.1) k.rest_is (subst (λ (t : Store). Strings t v.1) k.store_is k.right))))

  steps-conflict : Only conflict (steps g l r s)
  unfolding steps
  steps-conflict = only_then _ (strip l r s) (strip-full l r s au hl hr) (λ s₁ v c. answered (tried _ s₁ v (strip-leaves l r s au hl hr s₁ v c)))

-- THE WHOLE CALL

module _ (l r : List ℕ) (s : Store) (au : Audited s) (hl : Strings s (concat_map (atoms s) l)) (hr : Strings s (concat_map (atoms s) r)) where
  abbrev l₁ : List ℕ
  l₁ = concat_map (atoms s) l

  abbrev r₁ : List ℕ
  r₁ = concat_map (atoms s) r

  module _ (nl : length l₁ ≤ list_limit) (nr : length r₁ ≤ list_limit) (x : Refuted s (rest s l₁ r₁).0 (rest s l₁ r₁).1) (g : ℤ) where
    abbrev flat_work : Work Answer
    flat_work = flatten l >>= (λ m. flatten r >>= (λ n. steps g m n >>= (λ w. give (softened w))))

    flatly : Only saturated (flat_work s)
    flatly = rw (flatten-fits l s nl) (rw (flatten-fits r s nr) (soft (steps-conflict l₁ r₁ s au hl hr x g)))

    plainly : any (is_concat s) (l ++ r) ≡ false → Only conflict (steps g l r s)
    plainly b =
        let n = sym (any_append (is_concat s) l r) ∙ b in
        let p = plain_flat s l (neither_left _ _ n) in
        let q = plain_flat s r (neither_right (any (is_concat s) l) _ n) in
        subst (λ (w : List ℕ). Only conflict (steps g w r s)) p (subst (λ (w : List ℕ). Only conflict (steps g l₁ w s)) q (steps-conflict l₁ r₁ s au hl hr x g))

    pub resolve_refuted : Only (if any (is_concat s) (l ++ r) then saturated else conflict) (resolve l r g s)
    unfolding resolve
    resolve_refuted = go (any (is_concat s) (l ++ r)) refl
      where
        go : (b : Bool) → any (is_concat s) (l ++ r) ≡ b → Only (if b then saturated else conflict) (and_then (closed s.reasons) ((if b then flat_work else steps g l r) s))
        go true e = closed-soft s.reasons flatly
        go false e = closed_hard s.reasons (plainly e)
