-- The normal forms, told in words.
use Rattle.std.specs.Prelude.{Result, Ok, Some, None}
use Rattle.std.specs.Prelude as code
use mathlib.Core.Path.{◌≡◌, refl, sym, ap, ◌∙◌}
use mathlib.Core.Bool.{true, false}
use mathlib.Core.List.{List, [], ◌∷◌}
use mathlib.Core.Option.{Option, none, some}
use Prim.Native.Nat.{ℕ, ◌≤◌, ◌<◌}
use native.Mathlib.Omega.{arith}
use lib.ListN.{length, get_or}
use Rattle.records.specs.declared.State.{State}
use Rattle.records.specs.declared.refusal.Refusal.{Refusal}
use Rattle.records.specs.Store.{Store, ok}
use Rattle.records.specs.View.{Lent, store_of}
use Rattle.records.specs.Rules.{list_limit}
use Rattle.records.specs.Working.Audited.{Audited}
use Rattle.records.proofs.Lists.{table-length}
use Rattle.normalize.specs.Normalize.{normal_form, deep_form, form_arguments, deep_limit}
use Rattle.normalize.specs.Meaning.{Forms, DeepForms}
use Rattle.normalize.specs.Calls.{first_words, formed, deepened, PublicForm, PublicDeepForm}
use Rattle.normalize.proofs.Formed.{form-gives, form-kept}
use Rattle.normalize.proofs.Deep.{deep_gives, deep_kept}
use Rattle.capi.specs.Interface.{state_of, state_room, answer_room, roomy}
use Rattle.capi.specs.Forms.{form_words, deep_words, form_read, deep_read, ExportedForm, ExportedDeepForm}
use Rattle.capi.specs.Working.Leaves.{written, Narrow, Telling, tells, or_refuses, ToldBy}
use Rattle.capi.proofs.Exports.{Tells, Shows, shows_or}
use Rattle.capi.proofs.Listings.{list-gives, list_narrow, list_exported, list-worth, list-once, untold_list}

module _ (known : List ℕ) (t : ℕ) where
  pub form-tells : Tells (form_arguments known t) (normal_form known t)
  form-tells = record {
    keeps = λ s s' x a f e. (form-kept known t s a f s' x e).audited;
  }

  pub deep_tells : Tells (form_arguments known t) (deep_form known t)
  deep_tells = record {
    keeps = λ s s' x a f e. (deep_kept known t s a f s' x e).audited;
  }

-- an option's list is short
abbrev Short : ℕ → Option (List ℕ) → Type 0
Short n none = Unit {0}
Short n (some x) = length x ≤ n

deep_short : (known : List ℕ) (t : ℕ) (s s' : Store) (x : Option (List ℕ)) → Audited s → form_arguments known t s ≡ true → deep_form known t s ≡ ok s' x → Short deep_limit x
deep_short known t s s' none a f e = tt
deep_short known t s s' (some x) a f e = (deep_gives known t s a f s' x e).long

-- counts that a word holds, with the count of a list
pub record NarrowList (n : ℕ) (c : State) : Type 0 where
  pub counts : Narrow c
  pub list : n < 4294967296

-- THE NORMAL FORM

abbrev pub form_telling : Result (ℕ × State) Refusal → Telling State
form_telling r = or_refuses (λ x. tells x.1 (1 ∷ x.0 ∷ [])) r

form-shows : (r : Result (ℕ × State) Refusal) (m' : Lent) (l' : List ℕ) → Shows answer_room form_words (form_read l') m' (formed r m' l') (form_telling r)
form-shows r m' l' =
    shows_or answer_room form_words (form_read l') m' (λ x. formed x m' l') (λ x. tells x.1 (1 ∷ x.0 ∷ [])) (λ e. refl) r
    (λ x q. record {
      value = first_words l' x.0;
      outcome = refl;
      spelt = ap (λ (j : ℕ). 1 ∷ j ∷ []) (sym (table-length (λ i. get_or l' i 0) x.0));
      few = omega arith;
      back = λ z. refl;
    })

pub form_untold : (known : List ℕ) (t : ℕ) (m : Lent) (l w a : List ℕ) → roomy state_room w a ≡ false → {k : ℕ} → k ≡ 1 → ExportedForm known t m m l l w w a a k
form_untold known t m l w a e i = record { is = untold_list _ form_words m l w a _ e i; worth = λ z. absurd (omega arith); once = λ z. absurd (omega arith) }

module _ {known : List ℕ} {t : ℕ} {m m' : Lent} {l l' : List ℕ} {c : State} {r : Result (ℕ × State) Refusal} (called : PublicForm known t m m' l l' c (formed r m' l')) where
  pub form_tellable : {n : ℕ} {d : State} → r ≡ Ok (n, d) → NarrowList n d
  form_tellable {n} {d} e =
      let o : formed r m' l' ≡ ok (store_of m' d) (first_words l' n) = ap (λ (x : Result (ℕ × State) Refusal). formed x m' l') e in
      record { counts = list_narrow (form-tells known t) called.is d _ o; list = short o }
    where
      short : formed r m' l' ≡ ok (store_of m' d) (first_words l' n) → n < 4294967296
      short o =
          let h = list-gives (form-tells known t) m l c {P = λ s x. length x ≤ list_limit} (λ s s' x a f q. (form-gives known t s a f s' x q).long) (store_of m' d) (first_words l' n) (sym called.is.store.says ∙ o) in
          let i = rw table-length at h in
          omega arith

  pub form_exported : {w w' a a' : List ℕ} {k : ℕ} → roomy state_room w a ≡ true → c ≡ state_of w → ToldBy written form_telling w w' a a' r k → ExportedForm known t m m' l l' w w' a a' k
  form_exported room e u = record {
    is = list_exported (form-tells known t) called.is form_words (form_read l') (form_telling r) (form-shows r m' l') room e u.is;
    worth = list-worth (form-tells known t) called.is form_words (form_read l') (form_telling r) (form-shows r m' l') room e u.is (λ d s' x. Forms (store_of m d) s' t x) called.worth;
    once = list-once (form-tells known t) called.is form_words (form_read l') (form_telling r) (form-shows r m' l') room e u.is called.once;
  }

-- THE DEEP FORM

abbrev deep_spelt : code.Option ℕ → List ℕ
deep_spelt (Some n) = 1 ∷ n ∷ []
deep_spelt None = 0 ∷ 0 ∷ []

abbrev pub deep_telling : Result (code.Option ℕ × State) Refusal → Telling State
deep_telling r = or_refuses (λ x. tells x.1 (deep_spelt x.0)) r

option-shows : (x : code.Option ℕ) (d : State) (m' : Lent) (l' : List ℕ) → Shows answer_room deep_words (deep_read l') m' (deepened (Ok (x, d)) m' l') (tells d (deep_spelt x))
option-shows (Some n) d m' l' = record {
  value = some (first_words l' n);
  outcome = refl;
  spelt = ap (λ (j : ℕ). 1 ∷ j ∷ []) (sym (table-length (λ i. get_or l' i 0) n));
  few = omega arith;
  back = λ z. refl;
}
option-shows None d m' l' = record { value = none; outcome = refl; spelt = refl; few = omega arith; back = λ z. refl }

deep_shows : (r : Result (code.Option ℕ × State) Refusal) (m' : Lent) (l' : List ℕ) → Shows answer_room deep_words (deep_read l') m' (deepened r m' l') (deep_telling r)
deep_shows r m' l' = shows_or answer_room deep_words (deep_read l') m' (λ x. deepened x m' l') (λ x. tells x.1 (deep_spelt x.0)) (λ e. refl) r (λ x q. option-shows x.0 x.1 m' l')

pub deep_untold : (known : List ℕ) (t : ℕ) (m : Lent) (l w a : List ℕ) → roomy state_room w a ≡ false → {k : ℕ} → k ≡ 1 → ExportedDeepForm known t m m l l w w a a k
deep_untold known t m l w a e i = record { is = untold_list _ deep_words m l w a _ e i; worth = λ z. absurd (omega arith); once = λ z. absurd (omega arith) }

module _ {known : List ℕ} {t : ℕ} {m m' : Lent} {l l' : List ℕ} {c : State} {r : Result (code.Option ℕ × State) Refusal} (called : PublicDeepForm known t m m' l l' c (deepened r m' l')) where
  pub deep_tellable : {n : ℕ} {d : State} → r ≡ Ok (Some n, d) → NarrowList n d
  deep_tellable {n} {d} e =
      let o : deepened r m' l' ≡ ok (store_of m' d) (some (first_words l' n)) = ap (λ (x : Result (code.Option ℕ × State) Refusal). deepened x m' l') e in
      record { counts = list_narrow (deep_tells known t) called.is d _ o; list = short o }
    where
      short : deepened r m' l' ≡ ok (store_of m' d) (some (first_words l' n)) → n < 4294967296
      short o =
          let h = list-gives (deep_tells known t) m l c {P = λ s x. Short deep_limit x} (deep_short known t) (store_of m' d) (some (first_words l' n)) (sym called.is.store.says ∙ o) in
          let i = rw table-length at h in
          omega arith

  pub none_tellable : {d : State} → r ≡ Ok (None, d) → Narrow d
  none_tellable {d} e = list_narrow (deep_tells known t) called.is d none (ap (λ (x : Result (code.Option ℕ × State) Refusal). deepened x m' l') e)

  pub deep_exported : {w w' a a' : List ℕ} {k : ℕ} → roomy state_room w a ≡ true → c ≡ state_of w → ToldBy written deep_telling w w' a a' r k → ExportedDeepForm known t m m' l l' w w' a a' k
  deep_exported room e u = record {
    is = list_exported (deep_tells known t) called.is deep_words (deep_read l') (deep_telling r) (deep_shows r m' l') room e u.is;
    worth = list-worth (deep_tells known t) called.is deep_words (deep_read l') (deep_telling r) (deep_shows r m' l') room e u.is (λ d s' x. DeepForms (store_of m d) s' t x) called.worth;
    once = list-once (deep_tells known t) called.is deep_words (deep_read l') (deep_telling r) (deep_shows r m' l') room e u.is called.once;
  }
