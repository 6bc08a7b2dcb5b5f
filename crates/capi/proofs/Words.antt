-- The state's six words read and written, and the answer's.
use mathlib.Core.Path.{◌≡◌, refl, sym, ap, ◌∙◌}
use mathlib.Core.Bool.{Bool, true, false}
use mathlib.Core.List.{List, [], ◌∷◌, ◌++◌}
use Prim.Native.Nat.{ℕ, suc, ◌+◌, ◌≤◌, ◌<◌}
use native.Mathlib.Omega.{arith}
use native.Mathlib.Numerals.{add-one}
use lib.ListN.{length, get_or, take, drop, set, length-append, length-drop, length-set}
use lib.Seq.{drop-append_seam, sets-eq, set-get_or, drop-cons, set_at, append_snoc, take-suc, take-length, length-take-le}
use lib.Dec.{leb}
use mir.Val.{bool_byte}
use borrow.Author.Tests.{leb-true, lt-leb, le-leb}
use Rattle.records.specs.declared.State.{State}
use Rattle.records.specs.declared.refusal.Refusal.{Refusal}
use Rattle.records.specs.Refusal.{number}
use Rattle.records.specs.View.{Lent, counts}
use Rattle.records.specs.Rules.{audit}
use Rattle.records.proofs.Lists.{both_left, both_right, left_false, and-next}
use Rattle.capi.specs.Interface.{state_of, Beyond, state_room, answer_room, roomy, audited}
use Rattle.capi.specs.Equations.{flag}
use Rattle.capi.specs.Working.Leaves.{put_first, written, Telling, tells, refuses, ToldWords, ToldBy}

pub beyond_same : (n : ℕ) (w : List ℕ) → Beyond n w w
beyond_same n w = record { length_is = refl; rest = refl }

pub beyond_words : (v a : List ℕ) → length v ≤ length a → Beyond (length v) a (put_first v a)
beyond_words v a h = record {
  length_is = length-append v (drop (length v) a) ∙ (let e = length-drop (length v) a in omega arith);
  rest = drop-append_seam v (drop (length v) a);
}

-- THE STATE'S SIX WORDS

abbrev six_words : State → List ℕ
six_words c = c.terms ∷ c.cells ∷ c.chars ∷ c.reasons ∷ c.keys ∷ c.names ∷ []

-- one after the other
pub sets_written : (c : State) (w : List ℕ) → state_room ≤ length w
    → set (set (set (set (set (set w 0 c.terms) 1 c.cells) 2 c.chars) 3 c.reasons) 4 c.keys) 5 c.names ≡ written c w
sets_written c w h = sets-eq (six_words c) w 0 h

pub beyond_written : (c : State) (w : List ℕ) → state_room ≤ length w → Beyond state_room w (written c w)
beyond_written c w h = beyond_words (six_words c) w h

-- counts read off the words and written back
pub written_same : (w : List ℕ) → state_room ≤ length w → w ≡ written (state_of w) w
written_same w h = rw (set-get_or w 0 0, set-get_or w 1 0, set-get_or w 2 0, set-get_or w 3 0, set-get_or w 4 0, set-get_or w 5 0) at (sets_written (state_of w) w h)

module _ (n : ℕ) (w a : List ℕ) where
  pub roomy-state : roomy n w a ≡ true → n ≤ length w
  unfolding roomy
  roomy-state e = leb-true n (length w) (both_left _ _ e)

  pub roomy-answer : roomy n w a ≡ true → answer_room ≤ length a
  unfolding roomy
  roomy-answer e = leb-true answer_room (length a) (both_right (leb n (length w)) _ e)

  pub unroomy : length w < n → leb n (length w) ≡ roomy n w a
  unfolding roomy
  unroomy h = let e = lt-leb n (length w) h in e ∙ sym (left_false _ _ e)

  pub roomy-is : n ≤ length w → leb answer_room (length a) ≡ roomy n w a
  unfolding roomy
  roomy-is h = and-next (leb n (length w)) (leb answer_room (length a)) _ (le-leb n (length w) h) refl

pub state-read : (w : List ℕ) {x : State} {a b c d e f : ℕ} → x ≡ counts a b c d e f → a ≡ get_or w 0 0 → b ≡ get_or w 1 0 → c ≡ get_or w 2 0 → d ≡ get_or w 3 0 → e ≡ get_or w 4 0 → f ≡ get_or w 5 0
    → x ≡ state_of w
state-read w i p q r s t u = i ∙ rw (p, q, r, s, t, u)

pub audit_unstated : (w : List ℕ) (m : Lent) → length w < state_room → 1 ≡ audited w m
unfolding audited
audit_unstated w m h = rw (lt-leb state_room (length w) h)

pub audit_stated : (w : List ℕ) (m : Lent) (c : State) (k : ℕ) → state_room ≤ length w → c ≡ state_of w → k ≡ audit m c → k ≡ audited w m
unfolding audited
audit_stated w m c k h e v = rw (le-leb state_room (length w) h) (v ∙ ap (audit m) e)

-- TELLING

pub flag_from : (b : Bool) → bool_byte b ≡ flag b
flag_from true = refl
flag_from false = refl

module _ {S R : Type 0} {put : S → List ℕ → List ℕ} {f : R → Telling S} {r : R} where
  pub told-by : {w w' a a' : List ℕ} {T : Telling S} {k : ℕ} → f r ≡ T → ToldWords put w w' a a' T k → ToldBy put f w w' a a' r k
  told-by e t = record { is = rw e t }

  -- words that are the telling's own
  pub told_as : {w w' a a' : List ℕ} {c : S} {v v' : List ℕ} {k : ℕ} → f r ≡ tells c v → ToldWords put w w' a a' (tells c v') k → v' ≡ v → ToldBy put f w w' a a' r k
  told_as {c = c} e t q = told-by (e ∙ ap (tells c) (sym q)) t

  pub told-refuses : {w a : List ℕ} {j : Refusal} {k : ℕ} → f r ≡ refuses j → k ≡ number j → ToldBy put f w w a a r k
  told-refuses e q = record { is = rw e (record { code = q; state = refl; answer = refl }) }
