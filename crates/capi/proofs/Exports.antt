-- An exported call: the public call's outcome, told in words.
use Rattle.std.specs.Prelude.{Result, Ok, Err}
use mathlib.Core.Path.{◌≡◌, refl, sym, ap, subst, ◌∙◌}
use mathlib.Core.Bool.{Bool, true, false}
use mathlib.Core.List.{List, [], ◌∷◌, ◌++◌}
use Prim.Native.Nat.{ℕ, zero, suc, ◌≤◌}
use native.Mathlib.Omega.{arith}
use lib.ListN.{length, get_or, take, drop}
use lib.Seq.{take-append_seam}
use Rattle.records.specs.declared.State.{State}
use Rattle.records.specs.declared.refusal.Refusal.{Refusal}
use Rattle.records.specs.Refusal.{number}
use Rattle.records.specs.Store.{Store, Out, ok, stop, Work}
use Rattle.records.specs.View.{Lent, store_of}
use Rattle.records.specs.Rules.{audit}
use Rattle.records.specs.Working.Audited.{Audited}
use Rattle.records.specs.Calls.{call, checked, unless, Public, made}
use Rattle.records.proofs.IndexLaws.{same_none}
use Rattle.records.proofs.Lists.{table-length}
use Rattle.records.proofs.Works.{stop-not}
use Rattle.records.proofs.Passed.{ready_of}
use Rattle.records.proofs.Public.{numbered}
use Rattle.capi.specs.Interface.{state_of, Beyond, state_room, answer_room, roomy, over, told, Exported, Answered}
use Rattle.capi.specs.Working.Leaves.{written, Narrow, Telling, tells, refuses, or_refuses, number_of, state_with, answer_with, ToldWords, ToldBy, made_telling}
use Rattle.capi.proofs.Words.{beyond_same, beyond_written, beyond_words, roomy-state, roomy-answer}

-- the counts of an audited store are within their limits
pub narrow : (m : Lent) (c : State) → Audited (store_of m c) → Narrow c
narrow m c a =
    let r = a.roomy in
    let t = rw table-length at r.terms in
    let l = rw table-length at r.cells in
    let h = rw table-length at r.chars in
    let g = rw table-length at r.reasons in
    let k = rw table-length at r.keys in
    record { terms = omega arith; cells = omega arith; chars = omega arith; reasons = omega arith; keys = omega arith }

-- what of a call's work its telling rests on: a store left is audited
pub record Tells {A : Type 0} (fit : Store → Bool) (work : Work A) : Type 0 where
  pub keeps : (s s' : Store) (x : A) → Audited s → fit s ≡ true → work s ≡ ok s' x → Audited s'

-- what holds of every store and value that the work leaves holds of the call's
pub call-gives : {A : Type 0} (fit : Store → Bool) (work : Work A) (m : Lent) (c : State) {P : Store → A → Type 0} → ((s s' : Store) (x : A) → Audited s → fit s ≡ true → work s ≡ ok s' x → P s' x)
    → (s' : Store) (x : A) → call fit work m c ≡ ok s' x → P s' x
unfolding call
call-gives fit work m c {P} f s' x e = go (audit m c) refl (fit (store_of m c)) refl e
  where
    go : (k : ℕ) → audit m c ≡ k → (b : Bool) → fit (store_of m c) ≡ b → unless k (checked b work (store_of m c)) ≡ ok s' x → P s' x
    go zero p true q e = f (store_of m c) s' x (ready_of m c p).audited q e
    go zero p false q e = stop-not e
    go (suc k) p b q e = stop-not e

module _ {A : Type 0} {fit : Store → Bool} {work : Work A} (can : Tells fit work) (m : Lent) (c : State) where
  pub call-audited : (s' : Store) (x : A) → call fit work m c ≡ ok s' x → Audited s'
  call-audited s' x e = call-gives fit work m c {P = λ s y. Audited s} can.keeps s' x e

-- a state or an answer too short
pub untold : {A : Type 0} {b : Bool} (o : Out A) (m : Lent) (w : List ℕ) (n : ℕ) (a : List ℕ) (x : A) → b ≡ false → {k : ℕ} → k ≡ 1 → Exported (over b o) m m w w n a a x k
untold o m w n a x e i = rw (e, i) (record {
  public = record { says = refl; idle = λ k z l. refl; kept = refl; back = λ k z. same_none _ _; passes = λ d y q. stop-not q };
  state = beyond_same state_room w;
  answer = beyond_same n a;
  state_idle = λ z. refl;
  answer_idle = λ z. refl;
})

-- an outcome that is told is the public one
pub told-public : {A : Type 0} {o : Out A} {b : Bool} {m m' : Lent} {c : State} {r r' : Out A} → b ≡ true → r' ≡ r → Public o m m' c r → Public (over b o) m m' c r'
told-public e f p = rw e record { says = f ∙ p.says; idle = λ k z l. p.idle k (sym f ∙ z) l; kept = p.kept; back = λ k z. p.back k (sym f ∙ z); passes = λ d y z. p.passes d y (sym f ∙ z) }

-- A TELLING OF AN OUTCOME

module _ {A : Type 0} (n : ℕ) (words : A → List ℕ) (read : List ℕ → A) (m' : Lent) (r : Out A) where
  -- words v, at most n, are a value's own, and are read back
  pub record Gives (d : State) (v : List ℕ) : Type 0 where
    pub value : A
    pub outcome : r ≡ ok (store_of m' d) value
    pub spelt : v ≡ words value
    pub few : length v ≤ n
    pub back : (z : List ℕ) → read (v ++ z) ≡ value

  abbrev pub Shows : Telling State → Type 0
  Shows (tells d v) = Gives d v
  Shows (refuses e) = r ≡ stop (number e)

-- the telling of an answer or a refusal shows the outcome where that of an answer does
module _ {A R : Type 0} (n : ℕ) (words : A → List ℕ) (read : List ℕ → A) (m' : Lent) (out : Result R Refusal → Out A) (f : R → Telling State) (refused : (e : Refusal) → out (Err e) ≡ stop (number e)) where
  pub shows_or : (r : Result R Refusal) → ((x : R) → r ≡ Ok x → Shows n words read m' (out (Ok x)) (f x)) → Shows n words read m' (out r) (or_refuses f r)
  shows_or (Ok x) g = g x refl
  shows_or (Err e) g = refused e

-- a refusal's number, read off
told-number : {A : Type 0} (e : Refusal) (w : List ℕ) (m : Lent) (x : A) → told (number e) w m x ≡ stop (number e)
told-number e w m x = go (number e) (numbered e)
  where
    go : (k : ℕ) → (k ≡ 0 → ⊥) → told k w m x ≡ stop k
    go zero f = absurd (f refl)
    go (suc k) f = refl

-- what the words left say is the outcome
module _ {A : Type 0} (n : ℕ) (words : A → List ℕ) (read : List ℕ → A) (m' : Lent) (r : Out A) (T : Telling State) (shows : Shows n words read m' r T)
    {w w' a a' : List ℕ} {k : ℕ} (t : ToldWords written w w' a a' T k) where
  pub told_exported : {o : Out A} {b : Bool} {m : Lent} → b ≡ true → state_room ≤ length w → n ≤ length a → Public o m m' (state_of w) r → Answered (over b o) words m m' w w' a a' (read a') k
  told_exported {o} {b} {m} room six wide called = go T shows t.code t.state t.answer
    where
      go : (x : Telling State) → Shows n words read m' r x → k ≡ number_of x → w' ≡ state_with written x w → a' ≡ answer_with x a → Answered (over b o) words m m' w w' a a' (read a') k
      go (tells d v) s f g h =
          let y = s.back (drop (length v) a) in
          let p : words (read (v ++ drop (length v) a)) ≡ v = ap words y ∙ sym s.spelt in
          rw (f, g, h) (record {
            is = record {
              public = told-public room (ap (ok (store_of m' d)) y ∙ sym s.outcome) called;
              state = beyond_written d w six;
              answer = subst (λ (z : List ℕ). Beyond (length z) a (v ++ drop (length v) a)) (sym p) (beyond_words v a (let j = s.few in omega arith));
              state_idle = λ z. absurd (z refl);
              answer_idle = λ z. absurd (z refl);
            };
            says = λ z. subst (λ (u : List ℕ). take (length u) (v ++ drop (length v) a) ≡ u) (sym p) (take-append_seam v (drop (length v) a));
          })
      go (refuses e) s f g h =
          rw (f, g, h) (record {
            is = record {
              public = told-public room (told-number e w m' (read a) ∙ sym s) called;
              state = beyond_same state_room w;
              answer = beyond_same (length (words (read a))) a;
              state_idle = λ z. refl;
              answer_idle = λ z. refl;
            };
            says = λ z. absurd (numbered e z);
          })

  pub told-worth : {P : Store → A → Type 0} → ((s' : Store) (x : A) → r ≡ ok s' x → P s' x) → k ≡ 0 → P (store_of m' (state_of w')) (read a')
  told-worth {P} f z = go T shows t.code t.state t.answer
    where
      go : (x : Telling State) → Shows n words read m' r x → k ≡ number_of x → w' ≡ state_with written x w → a' ≡ answer_with x a → P (store_of m' (state_of w')) (read a')
      go (tells d v) s p g h = rw (g, h) (subst (P (store_of m' d)) (sym (s.back (drop (length v) a))) (f (store_of m' d) s.value s.outcome))
      go (refuses e) s p g h = absurd (numbered e (sym p ∙ z))

  pub told-stop : (k ≡ 0 → ⊥) → r ≡ stop k
  told-stop z = go T shows t.code
    where
      go : (x : Telling State) → Shows n words read m' r x → k ≡ number_of x → r ≡ stop k
      go (tells d v) s p = absurd (z p)
      go (refuses e) s p = s ∙ ap stop (sym p)

-- A CALL WITH AN ANSWER

module _ {A : Type 0} {fit : Store → Bool} {work : Work A} (can : Tells fit work) {m m' : Lent} {c : State} {r : Out A} (called : Public (call fit work m c) m m' c r)
    (words : A → List ℕ) (read : List ℕ → A) (T : Telling State) (shows : Shows answer_room words read m' r T) {w w' a a' : List ℕ} {k : ℕ} (room : roomy state_room w a ≡ true) (e : c ≡ state_of w)
    (t : ToldWords written w w' a a' T k) where
  pub call_exported : Answered (over (roomy state_room w a) (call fit work m (state_of w))) words m m' w w' a a' (read a') k
  call_exported =
      told_exported answer_room words read m' r T shows t room (roomy-state state_room w a room) (roomy-answer state_room w a room) (subst (λ (d : State). Public (call fit work m d) m m' d r) e called)

  pub call-worth : {P : Store → A → Type 0} → ((s' : Store) (x : A) → r ≡ ok s' x → P s' x) → k ≡ 0 → P (store_of m' (state_of w')) (read a')
  call-worth {P} f z = told-worth answer_room words read m' r T shows t {P = P} f z

-- A CALL THAT ANSWERS A NUMBER

abbrev pub number_words : ℕ → List ℕ
number_words x = x ∷ []

abbrev pub number_read : List ℕ → ℕ
number_read a = get_or a 0 0

made-shows : (r : Result (ℕ × State) Refusal) (m' : Lent) → Shows answer_room number_words number_read m' (made r m') (made_telling r)
made-shows r m' =
    shows_or answer_room number_words number_read m' (λ x. made x m') (λ x. tells x.1 (x.0 ∷ [])) (λ e. refl) r
    (λ x q. record { value = x.0; outcome = refl; spelt = refl; few = omega arith; back = λ z. refl })

module _ {fit : Store → Bool} {work : Work ℕ} (can : Tells fit work) {m m' : Lent} {c : State} {r : Result (ℕ × State) Refusal} (called : Public (call fit work m c) m m' c (made r m')) where
  pub tellable : (t : ℕ) (d : State) → r ≡ Ok (t, d) → Narrow d
  tellable t d e = narrow m' d (call-audited can m c (store_of m' d) t (sym called.says ∙ ap (λ (x : Result (ℕ × State) Refusal). made x m') e))

  pub exported : {w w' a a' : List ℕ} {k : ℕ} → roomy state_room w a ≡ true → c ≡ state_of w → ToldBy written made_telling w w' a a' r k
      → Exported (over (roomy state_room w a) (call fit work m (state_of w))) m m' w w' 1 a a' (get_or a' 0 0) k
  exported room e t = (call_exported can called number_words number_read (made_telling r) (made-shows r m') room e t.is).is
