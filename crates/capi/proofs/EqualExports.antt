-- nf_equal and nf_equal_explain, told in words.
use Rattle.std.specs.Prelude.{Result, Ok, Err}
use mathlib.Core.Path.{◌≡◌, refl, ap, subst}
use mathlib.Core.Bool.{Bool, true, false}
use mathlib.Core.List.{List, [], ◌∷◌}
use mathlib.Core.Logic.{inl}
use Prim.Native.Nat.{ℕ, ◌≤◌, ◌<◌}
use native.Mathlib.Omega.{arith}
use lib.ListN.{length}
use borrow.Author.Tests.{lt-leb}
use Rattle.records.specs.declared.State.{State}
use Rattle.records.specs.declared.refusal.Refusal.{Refusal}
use Rattle.records.specs.Refusal.{number}
use Rattle.records.specs.View.{Lent, store_of}
use Rattle.records.specs.Working.Audited.{Audited}
use Rattle.records.specs.Calls.{call, Public, added}
use Rattle.sides.specs.Wordeq.{nf_explain, nf_arguments}
use Rattle.sides.specs.Meaning.{ExplainsEqual}
use Rattle.wordeq.specs.Calls.{equal_arguments, equal_lists, compared, PublicEqualExplain}
use Rattle.sides.proofs.Equal.{explain-equal-kept}
use Rattle.capi.specs.Interface.{state_of, state_room, answer_room, roomy}
use Rattle.capi.specs.Equations.{flag, flag_words, flag_read, ExportedEqual, ExportedEqualExplain}
use Rattle.capi.specs.Working.Leaves.{written, Narrow, Telling, tells, or_refuses, ToldWords, ToldBy, added_telling}
use Rattle.capi.proofs.Words.{told_as, told-refuses}
use Rattle.capi.proofs.Exports.{Tells, untold, Shows, shows_or, call_exported}
use Rattle.capi.proofs.CountExports.{counts_tellable, counts_exported, counts-worth, counts-once, counts-full}
use Rattle.capi.proofs.AnswerExports.{left-strings, right-strings, flag-back}

-- NF_EQUAL

equal-tells : (l r : List ℕ) → Tells (equal_arguments l r) (equal_lists l r)
unfolding equal_lists
equal-tells l r = record { keeps = λ s s' x a f e. let q : s ≡ s' = cc in subst Audited q a }

-- the flag; the counts are as they were
abbrev equal_telling : State → Result Bool Refusal → Telling State
equal_telling c r = or_refuses (λ b. tells c (flag b ∷ [])) r

equal-shows : (x : Result Bool Refusal) (m : Lent) (c : State) → Shows answer_room flag_words flag_read m (compared x m c) (equal_telling c x)
equal-shows x m c =
    shows_or answer_room flag_words flag_read m (λ y. compared y m c) (λ b. tells c (flag b ∷ [])) (λ e. refl) x
    (λ b q. record { value = b; outcome = refl; spelt = refl; few = omega arith; back = λ z. flag-back b })

pub equal-short : (l r : List ℕ) (m : Lent) (w a : List ℕ) → roomy state_room w a ≡ false → {k : ℕ} → k ≡ 1 → ExportedEqual l r m w a a k
equal-short l r m w a e i = record { is = record { is = untold _ m w 1 a (flag_read a) e i; says = λ z. absurd (omega arith) } }

module _ (l r : List ℕ) (m : Lent) (c : State) (x : Result Bool Refusal) (called : Public (call (equal_arguments l r) (equal_lists l r) m c) m m c (compared x m c)) (w a : List ℕ) (room : roomy state_room w a ≡ true) (is : c ≡ state_of w) where
  at : Public (call (equal_arguments l r) (equal_lists l r) m (state_of w)) m m (state_of w) (compared x m (state_of w))
  at = subst (λ (d : State). Public (call (equal_arguments l r) (equal_lists l r) m d) m m d (compared x m d)) is called

  equal_exported : {a' : List ℕ} {k : ℕ} → ToldBy written (equal_telling (state_of w)) w w a a' x k → ExportedEqual l r m w a a' k
  equal_exported u = record { is = call_exported (equal-tells l r) at flag_words flag_read (equal_telling (state_of w) x) (equal-shows x m (state_of w)) room refl u.is }

  pub equal-told : {a' : List ℕ} {b : Bool} {u k : ℕ} → x ≡ Ok b → u ≡ flag b → ToldWords written w w a a' (tells (state_of w) (u ∷ [])) k → ExportedEqual l r m w a a' k
  equal-told e f u = equal_exported (told_as (ap (equal_telling (state_of w)) e) u (ap (λ (y : ℕ). y ∷ []) f))

  pub equal_untold : {j : Refusal} {k : ℕ} → x ≡ Err j → k ≡ number j → ExportedEqual l r m w a a k
  equal_untold e q = equal_exported (told-refuses (ap (equal_telling (state_of w)) e) q)

-- NF_EQUAL_EXPLAIN

pairs-tells : (l r : List ℕ) → Tells (nf_arguments l r) (nf_explain l r)
pairs-tells l r = record {
  keeps = λ s s' x a f e. explain-equal-kept l r s a (left-strings s l r _ f) (right-strings s l r _ f) s' x e;
}

pub pairs-short : (l r : List ℕ) (m : Lent) (w : List ℕ) → length w < state_room → {k : ℕ} → k ≡ 1 → ExportedEqualExplain l r m m w w k
pairs-short l r m w h i = record { is = untold _ m w 0 [] tt (lt-leb state_room (length w) h) i; worth = λ e. absurd (omega arith); once = λ e. absurd (omega arith); full = λ e. absurd (e (inl (omega arith))) }

module _ {l r : List ℕ} {m m' : Lent} {c : State} {x : Result State Refusal} (called : PublicEqualExplain l r m m' c (added x m')) where
  pub pairs_tellable : (d : State) → x ≡ Ok d → Narrow d
  pairs_tellable d e = counts_tellable (pairs-tells l r) x called.is d e

  pub pairs_exported : {w w' : List ℕ} {k : ℕ} → state_room ≤ length w → c ≡ state_of w → ToldBy written added_telling w w' [] [] x k → ExportedEqualExplain l r m m' w w' k
  pairs_exported room e t = record {
    is = counts_exported (pairs-tells l r) x called.is t room e;
    worth = counts-worth (pairs-tells l r) x called.is t (λ d s'. ExplainsEqual (store_of m d) s' l r) e called.worth;
    once = counts-once (pairs-tells l r) x called.is t e called.once;
    full = counts-full (pairs-tells l r) x called.is t called.full;
  }
