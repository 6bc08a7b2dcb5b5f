-- find and explain, told in words.
use Rattle.std.specs.Prelude.{Result, Ok, Err}
use mathlib.Core.Path.{◌≡◌, refl, ap, subst}
use mathlib.Core.Bool.{true, ◌&&◌}
use mathlib.Core.List.{List, [], ◌∷◌}
use mathlib.Core.Logic.{inl}
use Prim.Native.Nat.{ℕ, ◌≤◌, ◌<◌}
use native.Mathlib.Omega.{arith}
use lib.ListN.{length, get_or}
use borrow.Author.Tests.{lt-leb}
use Rattle.records.specs.declared.State.{State}
use Rattle.records.specs.declared.refusal.Refusal.{Refusal}
use Rattle.records.specs.Refusal.{number}
use Rattle.records.specs.Lists.{Every}
use Rattle.records.specs.Store.{Store, is_string, same_class}
use Rattle.records.specs.View.{Lent, store_of}
use Rattle.records.specs.Working.Audited.{Audited}
use Rattle.records.specs.Calls.{call, Public, added}
use Rattle.records.proofs.Lists.{both_left, both_right}
use Rattle.engine.specs.Explain.{find, find_arguments, explain, explain_arguments}
use Rattle.engine.specs.Meaning.{Explains, added_to, Labels}
use Rattle.engine.specs.Calls.{found, PublicExplain}
use Rattle.engine.proofs.Sound.{explain_kept}
use Rattle.capi.specs.Interface.{state_of, state_room, answer_room, roomy, over, Exported, ExportedExplain}
use Rattle.capi.specs.Working.Leaves.{written, Narrow, Telling, tells, or_refuses, ToldWords, ToldBy, added_telling}
use Rattle.capi.proofs.Words.{told-by, told-refuses}
use Rattle.capi.proofs.Exports.{Tells, untold, Shows, shows_or, call_exported, number_words, number_read}
use Rattle.capi.proofs.CountExports.{counts_tellable, counts_exported, counts-worth, counts-once, counts-full}

-- FIND

find-tells : (t : ℕ) → Tells (find_arguments t) (find t)
unfolding find
find-tells t = record { keeps = λ s s' x a f e. let q : s ≡ s' = cc in subst Audited q a }

-- the root; the counts are as they were
abbrev found_telling : State → Result ℕ Refusal → Telling State
found_telling c r = or_refuses (λ u. tells c (u ∷ [])) r

found-shows : (r : Result ℕ Refusal) (m : Lent) (c : State) → Shows answer_room number_words number_read m (found r m c) (found_telling c r)
found-shows r m c =
    shows_or answer_room number_words number_read m (λ x. found x m c) (λ u. tells c (u ∷ [])) (λ e. refl) r
    (λ x q. record { value = x; outcome = refl; spelt = refl; few = omega arith; back = λ z. refl })

module _ (t : ℕ) (m : Lent) (c : State) (r : Result ℕ Refusal) (called : Public (call (find_arguments t) (find t) m c) m m c (found r m c)) (w a : List ℕ) (room : roomy state_room w a ≡ true) (is : c ≡ state_of w) where
  at : Public (call (find_arguments t) (find t) m (state_of w)) m m (state_of w) (found r m (state_of w))
  at = subst (λ (d : State). Public (call (find_arguments t) (find t) m d) m m d (found r m d)) is called

  find_exported : {a' : List ℕ} {k : ℕ} → ToldBy written (found_telling (state_of w)) w w a a' r k → Exported (over (roomy state_room w a) (call (find_arguments t) (find t) m (state_of w))) m m w w 1 a a' (get_or a' 0 0) k
  find_exported u = (call_exported (find-tells t) at number_words number_read (found_telling (state_of w) r) (found-shows r m (state_of w)) room refl u.is).is

  pub find-told : {a' : List ℕ} {u k : ℕ} → r ≡ Ok u → ToldWords written w w a a' (tells (state_of w) (u ∷ [])) k → Exported (over (roomy state_room w a) (call (find_arguments t) (find t) m (state_of w))) m m w w 1 a a' (get_or a' 0 0) k
  find-told e u = find_exported (told-by (ap (found_telling (state_of w)) e) u)

  pub find_untold : {j : Refusal} {k : ℕ} → r ≡ Err j → k ≡ number j → Exported (over (roomy state_room w a) (call (find_arguments t) (find t) m (state_of w))) m m w w 1 a a (get_or a 0 0) k
  find_untold e q = find_exported (told-refuses (ap (found_telling (state_of w)) e) q)

-- EXPLAIN

explain-tells : (a b : ℕ) → Tells (explain_arguments a b) (explain a b)
explain-tells a b = record {
  keeps = λ s s' x d f e.
      let strings = both_left (is_string s a && is_string s b) _ f in
      explain_kept s d a b (both_left _ _ strings) (both_right (is_string s a) _ strings) (both_right (is_string s a && is_string s b) _ f) s' x e;
}

pub explain-short : (a b : ℕ) (m : Lent) (w : List ℕ) → length w < state_room → {k : ℕ} → k ≡ 1 → ExportedExplain a b m m w w k
explain-short a b m w h i = record { is = untold _ m w 0 [] tt (lt-leb state_room (length w) h) i; worth = λ e. absurd (omega arith); once = λ e. absurd (omega arith); edges = λ e. absurd (omega arith); full = λ e. absurd (e (inl (omega arith))) }

module _ {a b : ℕ} {m m' : Lent} {c : State} {r : Result State Refusal} (called : PublicExplain a b m m' c (added r m')) where
  pub explain_tellable : (d : State) → r ≡ Ok d → Narrow d
  explain_tellable d e = counts_tellable (explain-tells a b) r called.is d e

  pub explain_exported : {w w' : List ℕ} {k : ℕ} → state_room ≤ length w → c ≡ state_of w → ToldBy written added_telling w w' [] [] r k → ExportedExplain a b m m' w w' k
  explain_exported room e t = record {
    is = counts_exported (explain-tells a b) r called.is t room e;
    worth = counts-worth (explain-tells a b) r called.is t (λ d s'. Explains (store_of m d) s' a b) e called.worth;
    once = counts-once (explain-tells a b) r called.is t e called.once;
    edges = counts-worth (explain-tells a b) r called.is t (λ d s'. Every (Labels (store_of m d)) (added_to (store_of m d) s')) e called.edges;
    full = counts-full (explain-tells a b) r called.is t called.full;
  }
