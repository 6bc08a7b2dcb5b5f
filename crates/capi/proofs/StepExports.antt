-- The step over one equation, told in words.
use Rattle.std.specs.Prelude.{Result, Ok}
use mathlib.Core.Path.{◌≡◌, refl, sym, ap, subst, ◌∙◌}
use mathlib.Core.Bool.{false, true, ◌&&◌}
use mathlib.Core.List.{List, [], ◌∷◌, ◌++◌}
use Prim.Native.Nat.{ℕ}
use native.Mathlib.Omega.{arith}
use lib.ListN.{length, get_or}
use lib.IntN.{ℤ}
use lib.Dec.{ltb}
use mir.Syntax.{w32}
use mir.Val.{to_z, of_z, SFits}
use mir.ValLaws.{to_z-of_z}
use Rattle.records.specs.declared.State.{State}
use Rattle.records.specs.declared.refusal.Refusal.{Refusal}
use Rattle.records.specs.Store.{Store, Out, ok, and_then, give, term, is_equation, is_string}
use Rattle.records.specs.View.{Lent, store_of}
use Rattle.records.specs.Rules.{is_list}
use Rattle.records.proofs.Lists.{both_right}
use Rattle.normalize.specs.Calls.{list_call, PublicList}
use Rattle.sides.specs.declared.StepResult.{StepResult}
use Rattle.sides.specs.Wordeq.{Answer, done, saturated, conflict, propagate, split}
use Rattle.wordeq.specs.Calls.{resolved}
use Rattle.equation.specs.declared.Outcome.{Outcome}
use Rattle.equation.specs.declared.Outcome.TheVariants as outcome
use Rattle.equation.specs.Equation.{Stepped, unexpanded, answered, step, step_arguments, GrowsAfterForms, StepSound}
use Rattle.equation.specs.Calls.{stepped, PublicStep}
use Rattle.equation.proofs.Sound.{step_kept}
use Rattle.equation.proofs.FewAtoms.{step-few}
use Rattle.capi.specs.Interface.{state_of, state_room, answer_room, roomy}
use Rattle.capi.specs.Equations.{answer_words, answer_read}
use Rattle.capi.specs.Steps.{step_words, step_by, step_read, ExportedStep}
use Rattle.capi.specs.Working.Leaves.{written, Narrow, NarrowAnswer, Telling, tells, refuses, or_refuses, ToldBy, answer_telling}
use Rattle.capi.proofs.Exports.{Tells, Shows, shows_or}
use Rattle.capi.proofs.Listings.{list_tellable, list_exported, list-worth, list-once, untold_list}
use Rattle.capi.proofs.AnswerExports.{Stands, split-stands, answer_narrow, answer-shows}

pub step-tells : (known : List ℕ) (e : ℕ) (g : ℤ) → Tells (step_arguments known e g) (step known e g)
step-tells known e g = record {
  keeps = λ s s' x a f q. step_kept known e g s a f s' x q;
}

-- ITS WORDS

abbrev and_answered : Out Answer → Out Stepped
and_answered = and_then (λ x. give (answered x))

-- wordeq's cases are below Unexpanded's
below-five : (x : Answer) (z : List ℕ) → ltb 4 (get_or (answer_words x ++ z) 0 0) ≡ false
below-five done z = refl
below-five saturated z = refl
below-five conflict z = refl
below-five (propagate v w f) z = refl
below-five (split l g n) z = refl

answered-shows : (k' : List ℕ) (m' : Lent) (r : Out Answer) (T : Telling State) → Shows answer_room answer_words (answer_read k') m' r T → Shows answer_room step_words (step_read k') m' (and_answered r) T
answered-shows k' m' r (tells d v) s = record {
  value = answered s.value;
  outcome = ap and_answered s.outcome;
  spelt = s.spelt;
  few = s.few;
  back = λ z. rw (ap (λ (u : List ℕ). ltb 4 (get_or (u ++ z) 0 0)) s.spelt ∙ below-five s.value z) (ap answered (s.back z));
}
answered-shows k' m' r (refuses n) s = ap and_answered s

abbrev Stood : Outcome → List ℕ → Type 0
Stood (outcome.Answered r) k' = Stands r k'
Stood (outcome.Unexpanded c) k' = Unit {0}

abbrev told_telling : Outcome → Telling State
told_telling (outcome.Answered r) = answer_telling r
told_telling (outcome.Unexpanded c) = tells c (5 ∷ [])

abbrev pub outcome_telling : Result Outcome Refusal → Telling State
outcome_telling r = or_refuses told_telling r

step-shows : (r : Outcome) (m' : Lent) (k' : List ℕ) → Stood r k' → Shows answer_room step_words (step_read k') m' (stepped (Ok r) m' k') (told_telling r)
step-shows (outcome.Answered r) m' k' i = answered-shows k' m' (resolved (Ok r) m' k') (answer_telling r) (answer-shows r m' k' i)
step-shows (outcome.Unexpanded c) m' k' i = record { value = unexpanded; outcome = refl; spelt = refl; few = omega arith; back = λ z. refl }

-- THE CALL

pub step_untold : (known : List ℕ) (e : ℕ) (g : ℤ) (m : Lent) (k w a : List ℕ) → roomy state_room w a ≡ false → {n : ℕ} → n ≡ 1 → ExportedStep known e g m m k k w w a a n
step_untold known e g m k w a q i = record { is = untold_list _ step_words m k w a _ q i; worth = λ z. absurd (omega arith); once = λ z. absurd (omega arith); grows = λ z y. absurd (omega arith) }

module _ {known : List ℕ} {e : ℕ} {g : ℤ} {m m' : Lent} {k k' : List ℕ} {c : State} (o : Result Outcome Refusal) (fit : SFits w32 g)
    (public : PublicStep known e (to_z w32 (of_z w32 g)) m m' k k' c (stepped o m' k')) (same : length k' ≡ length k) where
  here : PublicStep known e g m m' k k' c (stepped o m' k')
  here = subst (λ (x : ℤ). PublicStep known e x m m' k k' c (stepped o m' k')) (to_z-of_z w32 g fit) public

  called : PublicList (list_call k (step_arguments known e g) (step known e g) m c) m m' k k' c (stepped o m' k')
  called = here.is

  stood : (x : Outcome) → list_call k (step_arguments known e g) (step known e g) m c ≡ stepped (Ok x) m' k' → Stood x k'
  stood (outcome.Answered r) q = record {
    split = λ d n h u i. split-stands (step-tells known e g) answered g fit (λ s f. both_right (is_list s known && is_equation s e && is_string s (term s e).first) _ f) (λ s s' x j. (step-few g known e s).given s' (answered x) j) m m' k k' c same d n h u (q ∙ ap (λ (y : StepResult). and_answered (resolved (Ok y) m' k')) i);
  }
  stood (outcome.Unexpanded d) q = tt

  stands : (x : Outcome) → o ≡ Ok x → Stood x k'
  stands x i = stood x (sym called.store.says ∙ ap (λ (y : Result Outcome Refusal). stepped y m' k') i)

  shows : Shows answer_room step_words (step_read k') m' (stepped o m' k') (outcome_telling o)
  shows = shows_or answer_room step_words (step_read k') m' (λ y. stepped y m' k') told_telling (λ e. refl) o (λ x i. step-shows x m' k' (stands x i))

  counts : (x : Outcome) → o ≡ Ok x → (d : State) (v : List ℕ) → told_telling x ≡ tells d v → Narrow d
  counts x i d v q = list_tellable (step-tells known e g) called step_words (step_read k') (outcome_telling o) shows d v (ap outcome_telling i ∙ q)

  pub answered_tellable : (r : StepResult) → o ≡ Ok (outcome.Answered r) → NarrowAnswer r
  answered_tellable r i = answer_narrow r (counts (outcome.Answered r) i) (stands (outcome.Answered r) i)

  pub unexpanded_tellable : (d : State) → o ≡ Ok (outcome.Unexpanded d) → Narrow d
  unexpanded_tellable d i = counts (outcome.Unexpanded d) i d (5 ∷ []) refl

  pub step_exported : {w w' a a' : List ℕ} {n : ℕ} → roomy state_room w a ≡ true → c ≡ state_of w → ToldBy written outcome_telling w w' a a' o n → ExportedStep known e g m m' k k' w w' a a' n
  step_exported {w} {w'} {a} {a'} {n} room q u = record {
    is = list_exported (step-tells known e g) called step_words (step_read k') (outcome_telling o) shows room q u.is;
    worth = list-worth (step-tells known e g) called step_words (step_read k') (outcome_telling o) shows room q u.is (λ d s' x. StepSound (store_of m d) s' e x) here.worth;
    once = list-once (step-tells known e g) called step_words (step_read k') (outcome_telling o) shows room q u.is here.once;
    grows = λ z y. grown z y;
  }
    where
      Grown : State → Store → Stepped → Type 0
      Grown d s' x = (atoms : List ℕ) (h : ℤ) (j : ℕ) → x ≡ answered (split atoms h j) → GrowsAfterForms known e (store_of m d) s' j

      grown : n ≡ 0 → get_or a' 0 0 ≡ 4 → GrowsAfterForms known e (store_of m (state_of w)) (store_of m' (state_of w')) (get_or a' 3 0)
      grown z y =
          let f = list-worth (step-tells known e g) called step_words (step_read k') (outcome_telling o) shows room q u.is Grown (λ s' x i atoms h j p. here.grows s' atoms h j (i ∙ ap (ok s') p)) z in
          f _ _ _ (ap (λ (j : ℕ). step_by j k' a') y)
