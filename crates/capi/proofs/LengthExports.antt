-- The forced length, told in words.
use Rattle.std.specs.Prelude.{Result, Ok}
use mathlib.Core.Path.{◌≡◌, refl, sym, ap, subst}
use mathlib.Core.Bool.{true, false}
use mathlib.Core.List.{List, [], ◌∷◌}
use Prim.Native.Nat.{ℕ, ◌<◌}
use native.Mathlib.Omega.{arith}
use lib.ListN.{length}
use Rattle.records.specs.declared.State.{State}
use Rattle.records.specs.declared.refusal.Refusal.{Refusal}
use Rattle.records.specs.View.{Lent, store_of}
use Rattle.records.specs.Working.Audited.{Audited}
use Rattle.wordeq.specs.Calls.{equal_arguments}
use Rattle.forced.specs.declared.Forced.{Forced}
use Rattle.forced.specs.declared.Forced.TheVariants as forced
use Rattle.forced.specs.Forced.{spans, short, forced_length}
use Rattle.forced.specs.Forces.{Forces}
use Rattle.forced.specs.Calls.{fitted, PublicForced}
use Rattle.forced.proofs.ForcedLength.{forced_gives}
use Rattle.capi.specs.Interface.{state_of, state_room, answer_room, roomy}
use Rattle.capi.specs.Lengths.{fit_words, fit_read, ExportedForced}
use Rattle.capi.specs.Working.Leaves.{written, Telling, tells, or_refuses, ToldBy}
use Rattle.capi.proofs.Exports.{Tells, untold, Shows, shows_or, call_exported, call-worth}

forced-tells : (l r : List ℕ) → Tells (equal_arguments l r) (forced_length l r)
forced-tells l r = record {
  keeps = λ s s' x a f e. subst Audited (sym (forced_gives l r s s' x e).gives.same_store) a;
}

-- the counts are as they were
abbrev fit_telling : State → Forced → Telling State
fit_telling s (forced.Spans k c l m r) = tells s (0 ∷ k ∷ c ∷ l ∷ m ∷ r ∷ [])
fit_telling s (forced.Shortage k c l d) = tells s (1 ∷ k ∷ c ∷ l ∷ d ∷ 0 ∷ [])

abbrev pub forced_telling : State → Result Forced Refusal → Telling State
forced_telling s r = or_refuses (fit_telling s) r

fit-shows : (o : Forced) (m : Lent) (c : State) → Shows answer_room fit_words fit_read m (fitted (Ok o) (store_of m c)) (fit_telling c o)
fit-shows (forced.Spans k n l i r) m c = record { value = record { k = k; c = n; l = l; span = spans i r }; outcome = refl; spelt = refl; few = omega arith; back = λ z. refl }
fit-shows (forced.Shortage k n l d) m c = record { value = record { k = k; c = n; l = l; span = short d }; outcome = refl; spelt = refl; few = omega arith; back = λ z. refl }

forced-shows : (o : Result Forced Refusal) (m : Lent) (c : State) → Shows answer_room fit_words fit_read m (fitted o (store_of m c)) (forced_telling c o)
forced-shows o m c = shows_or answer_room fit_words fit_read m (λ y. fitted y (store_of m c)) (fit_telling c) (λ e. refl) o (λ x q. fit-shows x m c)

pub forced_untold : (l r : List ℕ) (m : Lent) (w a : List ℕ) → roomy state_room w a ≡ false → {k : ℕ} → k ≡ 1 → ExportedForced l r m w a a k
forced_untold l r m w a e i = record { is = record { is = untold _ m w (length (fit_words (fit_read a))) a (fit_read a) e i; says = λ z. absurd (omega arith) }; worth = λ z. absurd (omega arith) }

-- numbers that words hold
abbrev Word : ℕ → Type 0
Word n = n < 4294967296

pub record NarrowForced (o : Result Forced Refusal) : Type 0 where
  pub spans : {k n j i q : ℕ} → o ≡ Ok (forced.Spans k n j i q) → Word k × Word n × Word j × Word i × Word q
  pub shortage : {k n j d : ℕ} → o ≡ Ok (forced.Shortage k n j d) → Word k × Word n × Word j × Word d

module _ {l r : List ℕ} {m : Lent} {c : State} {o : Result Forced Refusal} (called : PublicForced l r m m c (fitted o (store_of m c))) where
  pub forced_tellable : NarrowForced o
  forced_tellable = record {
    spans = λ {k} {n} {j} {i} {q} e.
        let f = called.few (store_of m c) (record { k = k; c = n; l = j; span = spans i q }) (ap (λ (x : Result Forced Refusal). fitted x (store_of m c)) e) in
        let a = f.k in let b = f.c in let d = f.l in let g = f.span.0 in let h = f.span.1 in
        (omega arith, omega arith, omega arith, omega arith, omega arith);
    shortage = λ {k} {n} {j} {d} e.
        let f = called.few (store_of m c) (record { k = k; c = n; l = j; span = short d }) (ap (λ (x : Result Forced Refusal). fitted x (store_of m c)) e) in
        let a = f.k in let b = f.c in let g = f.l in let h = f.span in
        (omega arith, omega arith, omega arith, omega arith);
  }

  pub forced_exported : {w a a' : List ℕ} {k : ℕ} → roomy state_room w a ≡ true → c ≡ state_of w → ToldBy written (forced_telling (state_of w)) w w a a' o k → ExportedForced l r m w a a' k
  forced_exported {w} room e u = record {
    is = call_exported (forced-tells l r) at.is fit_words fit_read (forced_telling (state_of w) o) (forced-shows o m (state_of w)) room refl u.is;
    worth = call-worth (forced-tells l r) at.is fit_words fit_read (forced_telling (state_of w) o) (forced-shows o m (state_of w)) room refl u.is
        {P = λ s' x. Forces (store_of m (state_of w)) l r x} at.worth;
  }
    where
      at : PublicForced l r m m (state_of w) (fitted o (store_of m (state_of w)))
      at = subst (λ (d : State). PublicForced l r m m d (fitted o (store_of m d))) e called
