-- The reasons that an answer ends with, and each way through `resolve_equation`.
use mathlib.Core.Path.{◌≡◌, refl, sym, ap, subst, ◌∙◌}
use mathlib.Core.Bool.{Bool, true, false, not}
use mathlib.Core.List.{List}
use mathlib.Core.Logic.{inl}
use Prim.Native.Nat.{ℕ, suc, ◌-◌, ◌≤◌, ◌<◌}
use native.Mathlib.Omega.{arith}
use lib.ListN.{length, take}
use lib.IntN.{ℤ, pos, negsuc}
use borrow.Author.Tests.{not-false, eqb-true, eq-eqb, ne_eqb}
use lib.Dec.{eqb}
use mir.Syntax.{w32}
use mir.Val.{to_z, of_z, SFits}
use mir.ValLaws.{to_z-of_z}
use Rattle.records.specs.declared.State.{State}
use Rattle.std.specs.Prelude.{Result, Ok, Err}
use Rattle.records.specs.declared.refusal.Refusal.{Refusal}
use Rattle.records.specs.Refusal.{number}
use Rattle.records.specs.Lists.{all}
use Rattle.records.specs.Store.{Store, Out, ok, stop, and_then, is_string}
use Rattle.records.specs.View.{Lent, lent, store_of, pairs_view}
use Rattle.records.specs.Working.Audited.{Audited}
use Rattle.records.specs.Make.{with_reasons}
use Rattle.records.specs.Rules.{audit, list_limit, is_list}
use Rattle.records.specs.Working.Audited.{Ready}
use Rattle.records.specs.Working.Doing.{ReadyFor, Working, CutRefused}
use Rattle.records.proofs.Doing.{working_stopped}
use Rattle.records.proofs.Lists.{both_left, both_right, all_every, same_test}
use Rattle.records.proofs.Works.{stop-not, one_store}
use Rattle.records.proofs.Outcomes.{refused_wider}
use Rattle.records.proofs.IndexStores.{records_same-but}
use Rattle.records.proofs.Passed.{ready-beside}
use Rattle.records.proofs.Public.{Undone, given, cut, undone-is, audit-idle, passed-ready}
use Rattle.normalize.proofs.ListCalls.{listed-short, listed_unready, listed-unfit, listed-works}
use Rattle.sides.specs.declared.StepResult.{StepResult}
use Rattle.sides.specs.declared.StepResult.TheVariants as step
use Rattle.sides.specs.Wordeq.{Answer, done, saturated, split, closed, resolve, resolve_arguments, is_guard}
use Rattle.sides.specs.Working.Results.{BothLists}
use Rattle.wordeq.specs.Working.Resolving.{closing, flat_steps, ran}
use Rattle.sides.specs.Repeated.{Decides}
use Rattle.wordeq.specs.Calls.{equal_arguments, PublicResolve, resolved}
use Rattle.records.proofs.ListLaws.{list-strings}
use Rattle.sides.proofs.Resolve.{resolve-gives, resolve-grows, resolve-kept, resolve-sound, resolve_stops}
use Rattle.sides.proofs.Decided.{resolve-decides}

-- CLOSED

module _ (m m' : Lent) (c : State) (k : List ℕ) (kept : store_of m' c ≡ store_of m c) where
  -- the incoming reasons are still there
  incoming : pairs_view m.reasons c.reasons ≡ pairs_view m'.reasons c.reasons
  incoming = ap (λ (s : Store). s.reasons) (sym kept)

  closed_is : (o : StepResult) → and_then (closed (pairs_view m.reasons c.reasons)) (resolved (Ok o) m' k) ≡ resolved (Ok (closing c.reasons o)) m' k
  closed_is (step.Done d) = ap (λ (x : List (ℕ × ℕ)). ok (with_reasons (store_of m' d) x) done) incoming
  closed_is (step.Saturated d) = ap (λ (x : List (ℕ × ℕ)). ok (with_reasons (store_of m' d) x) saturated) incoming
  closed_is (step.Conflict d) = refl
  closed_is (step.Propagate d v w f) = refl
  closed_is (step.Split d n g j) = ap (λ (x : List (ℕ × ℕ)). ok (with_reasons (store_of m' d) x) (split (take n k) g j)) incoming

-- other counts of reasons leave the slices ready, where the store is audited
closed-ready : (m : Lent) (k : List ℕ) (n : ℕ) (o : StepResult) {d : State} {a : Answer} → ReadyFor m (resolved (Ok o) m k) → Audited (store_of m d) → resolved (Ok (closing n o)) m k ≡ ok (store_of m d) a → Ready m d
closed-ready m k n (step.Done e) r a q = ready-beside (r e _ refl) refl refl a (records_same-but (one_store q) refl refl refl)
closed-ready m k n (step.Saturated e) r a q = ready-beside (r e _ refl) refl refl a (records_same-but (one_store q) refl refl refl)
closed-ready m k n (step.Conflict e) {d = d} {a = y} r a q = r d y q
closed-ready m k n (step.Propagate e v w f) {d = d} {a = y} r a q = r d y q
closed-ready m k n (step.Split e j g i) r a q = ready-beside (r e _ refl) refl refl a (records_same-but (one_store q) refl refl refl)

resolve-is : (l r : List ℕ) (g : ℤ) (s : Store) → resolve l r g s ≡ and_then (closed s.reasons) (ran l r g s)
unfolding resolve ran flat_steps
resolve-is l r g s = refl

-- the guard is handed on as its bits are read
ran-says : (m : Lent) (c : State) (l r : List ℕ) (g : ℤ) → SFits w32 g → {o : Out Answer} → ran l r (to_z w32 (of_z w32 g)) (store_of m c) ≡ o → resolve l r g (store_of m c) ≡ and_then (closed (pairs_view m.reasons c.reasons)) o
ran-says m c l r g f p =
    resolve-is l r g (store_of m c)
    ∙ ap (and_then (closed (pairs_view m.reasons c.reasons))) (ap (λ (y : ℤ). ran l r y (store_of m c)) (sym (to_z-of_z w32 g f)) ∙ p)

pub resolve-refused : (m : Lent) (c : State) (l r : List ℕ) (g : ℤ) → SFits w32 g → {m' : Lent} {k : ℕ} → Working (ran l r (to_z w32 (of_z w32 g))) m m' c (stop k) → Working (resolve l r g) m m' c (stop k)
resolve-refused m c l r g f w = working_stopped (ran-says m c l r g f w.says) w.kept

pub resolve-closed : (m : Lent) (c : State) (l r : List ℕ) (g : ℤ) → Ready m c → BothLists (store_of m c) l r → SFits w32 g → {m' : Lent} (k : List ℕ) (o : StepResult)
    → Working (ran l r (to_z w32 (of_z w32 g))) m m' c (resolved (Ok o) m' k) → (x : StepResult) → x ≡ closing c.reasons o → Working (resolve l r g) m m' c (resolved (Ok x) m' k)
resolve-closed m c l r g ready lists f {m'} k o w x i =
    record {
      says = said;
      kept = w.kept;
      ready = λ d a q. closed-ready m' k c.reasons o w.ready (resolve-kept l r g (store_of m c) ready.audited (list-strings (store_of m c) l lists.left) (list-strings (store_of m c) r lists.right) (store_of m' d) a (said ∙ q))
          (sym (ap (λ (z : StepResult). resolved (Ok z) m' k) i) ∙ q);
    }
  where
    said : resolve l r g (store_of m c) ≡ resolved (Ok x) m' k
    said = ran-says m c l r g f w.says ∙ closed_is m m' c k w.kept.store o ∙ ap (λ (z : StepResult). resolved (Ok z) m' k) (sym i)

-- ARGUMENTS

-- a guard by its bits
pub guard-zero : (g : ℤ) → SFits w32 g → of_z w32 g ≡ 0 → not (eqb (of_z w32 g) 0) ≡ is_guard g
unfolding is_guard
guard-zero (pos n) f e = refl
guard-zero (negsuc n) f e = let h : n < 0x8000_0000 = f.sfits in let k : 0x1_0000_0000 - suc n ≡ 0 = e in absurd (omega arith)

pub guard-other : (g : ℤ) → SFits w32 g → (of_z w32 g ≡ 0 → ⊥) → not (eqb (of_z w32 g) 0x8000_0000) ≡ is_guard g
unfolding is_guard
guard-other (pos n) f p = let h : n < 0x8000_0000 = f.sfits in ap not (ne_eqb n 0x8000_0000 (λ e. omega arith) ∙ sym (ne_eqb n 0 p))
guard-other (negsuc n) f p =
    ap not (same_test (eqb (0x1_0000_0000 - suc n) 0x8000_0000) (eqb n 0x7FFF_FFFF)
    (λ e. let k = eqb-true (0x1_0000_0000 - suc n) 0x8000_0000 e in eq-eqb n 0x7FFF_FFFF (at n k))
    (λ e. let k = eqb-true n 0x7FFF_FFFF e in eq-eqb (0x1_0000_0000 - suc n) 0x8000_0000 (back n k)))
  where
    at : (n : ℕ) → 0x1_0000_0000 - suc n ≡ 0x8000_0000 → n ≡ 0x7FFF_FFFF
    at n e = omega arith

    back : (n : ℕ) → n ≡ 0x7FFF_FFFF → 0x1_0000_0000 - suc n ≡ 0x8000_0000
    back n e = omega arith

-- RESOLVE_EQUATION

-- an answer handed on: after a refusal the index is cut
pub undone-resolved : {t t' : List ℕ} (e h r ks : List ℕ) {n : ℕ} (l : List ℕ) (x : Result StepResult Refusal) {o : Result StepResult Refusal} → CutRefused t t' n x o → Undone (lent t e h r ks) (lent t' e h r ks) n (resolved x (lent t e h r ks) l) (resolved o (lent t' e h r ks) l)
undone-resolved e h r ks l (Ok (step.Done d)) p = given _ _ refl (rw (p.same, p.given refl)) (ap (λ (w : List ℕ). lent w e h r ks) (p.given refl))
undone-resolved e h r ks l (Ok (step.Saturated d)) p = given _ _ refl (rw (p.same, p.given refl)) (ap (λ (w : List ℕ). lent w e h r ks) (p.given refl))
undone-resolved e h r ks l (Ok (step.Conflict d)) p = given _ _ refl (rw (p.same, p.given refl)) (ap (λ (w : List ℕ). lent w e h r ks) (p.given refl))
undone-resolved e h r ks l (Ok (step.Propagate d v u f)) p = given _ _ refl (rw (p.same, p.given refl)) (ap (λ (w : List ℕ). lent w e h r ks) (p.given refl))
undone-resolved e h r ks l (Ok (step.Split d k g i)) p = given _ _ refl (rw (p.same, p.given refl)) (ap (λ (w : List ℕ). lent w e h r ks) (p.given refl))
undone-resolved e h r ks l (Err j) p = cut (number j) refl (rw p.same) (p.refused refl) (record { cells = refl; chars = refl; reasons = refl; keys = refl })

module _ (l r : List ℕ) (g : ℤ) (m : Lent) (c : State) (k : List ℕ) where
  pub resolve-short : length k < list_limit → PublicResolve l r g m m k k c (stop 1)
  resolve-short h = record { is = listed-short (resolve_arguments l r g) (resolve l r g) m c k h; worth = λ s' x e. stop-not e; once = λ s' x e. stop-not e; grows = λ s' l' h n e. stop-not e; decides = λ v f i. absurd (i 1 refl (inl (omega arith))) }

  module _ (h : list_limit ≤ length k) (j : ℕ) (v : j ≡ audit m c) where
    pub resolve_unready : (j ≡ 0 → ⊥) → PublicResolve l r g m m k k c (stop j)
    resolve_unready d = record { is = listed_unready (resolve_arguments l r g) (resolve l r g) m c k h j v d; worth = λ s' x e. stop-not e; once = λ s' x e. stop-not e; grows = λ s' l' h n e. stop-not e; decides = λ u f i. absurd (i j refl (audit-idle m c j v)) }

    module _ (z : j ≡ 0) (y : SFits w32 g) (b : Bool) (i : b ≡ resolve_arguments l r (to_z w32 (of_z w32 g)) (store_of m c)) where
      e : b ≡ resolve_arguments l r g (store_of m c)
      e = i ∙ ap (λ (x : ℤ). resolve_arguments l r x (store_of m c)) (to_z-of_z w32 g y)

      pub resolve-unfit : not b ≡ true → PublicResolve l r g m m k k c (stop 5)
      resolve-unfit f = record { is = listed-unfit (resolve_arguments l r g) (resolve l r g) m c k h j v z b e f; worth = λ s' x q. stop-not q; once = λ s' x q. stop-not q; grows = λ s' l' h n q. stop-not q; decides = λ u x i. absurd (i 5 refl (inl (omega arith))) }

      module _ (f : not b ≡ false) where
        fit : resolve_arguments l r g (store_of m c) ≡ true
        fit = sym e ∙ not-false b f

        lists : equal_arguments l r (store_of m c) ≡ true
        lists = both_left (equal_arguments l r (store_of m c)) _ fit

        pub resolve-ready : Ready m c
        resolve-ready = passed-ready m c j v z

        pub resolve_lists : BothLists (store_of m c) l r
        resolve_lists = record { left = both_left (is_list (store_of m c) l) _ lists; right = both_right (is_list (store_of m c) l) _ lists }

        pub resolve-guard : is_guard g ≡ true
        resolve-guard = both_right (equal_arguments l r (store_of m c)) _ fit

        pub resolve_called : {m₁ m' : Lent} {k' : List ℕ} {o₁ o : Out Answer} → Working (resolve l r (to_z w32 (of_z w32 g))) m m₁ c o₁ → Undone m₁ m' c.terms o₁ o → PublicResolve l r g m m' k k' c o
        resolve_called {m₁} {m'} {k'} {o₁} {o} u n = record {
          is = listed-works (resolve_arguments l r g) (resolve l r g) m c k h j v z b e f (λ n q. refused_wider (omega arith) (resolve_stops l r g (store_of m c) resolve-ready.audited left right n q)) w n;
          worth = λ s' x q. resolve-sound l r g (store_of m c) resolve-ready.audited left right s' x (w.says ∙ sym (undone-is n) ∙ q);
          once = λ s' x q. (resolve-gives l r g (store_of m c) resolve-ready.audited left right s' x (w.says ∙ sym (undone-is n) ∙ q)).later.reasons;
          grows = λ s' atoms z j q. resolve-grows l r g (store_of m c) resolve-ready.audited left right s' atoms z j (w.says ∙ sym (undone-is n) ∙ q);
          decides = λ u x i. subst (Decides (store_of m c) l r) (w.says ∙ sym (undone-is n)) (resolve-decides l r g (store_of m c) u resolve-ready.audited (all_every _ l left) (all_every _ r right) x);
        }
          where
            w : Working (resolve l r g) m m₁ c o₁
            w = subst (λ (x : ℤ). Working (resolve l r x) m m₁ c o₁) (to_z-of_z w32 g y) u

            left : all (is_string (store_of m c)) l ≡ true
            left = list-strings (store_of m c) l resolve_lists.left

            right : all (is_string (store_of m c)) r ≡ true
            right = list-strings (store_of m c) r resolve_lists.right
