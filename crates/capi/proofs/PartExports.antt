-- Every empty part, told in words.
use Rattle.std.specs.Prelude.{Result, Ok}
use mathlib.Core.Path.{◌≡◌, refl, sym, ap, subst, ◌∙◌}
use mathlib.Core.Bool.{Bool, true, false}
use mathlib.Core.List.{List, [], ◌∷◌}
use mathlib.Core.Logic.{inl}
use Prim.Native.Nat.{ℕ, ◌≤◌}
use native.Mathlib.Omega.{arith}
use lib.ListN.{length, get_or}
use Rattle.records.specs.declared.State.{State}
use Rattle.records.specs.declared.refusal.Refusal.{Refusal}
use Rattle.records.specs.Store.{ok}
use Rattle.records.specs.View.{Lent, store_of}
use Rattle.records.specs.Rules.{list_limit}
use Rattle.records.proofs.Lists.{table-length}
use Rattle.normalize.specs.Calls.{first_words, list_call}
use Rattle.wordeq.specs.Calls.{equal_arguments}
use Rattle.empties.specs.declared.Empties.{Empties}
use Rattle.empties.specs.Empties.{empty_parts}
use Rattle.empties.specs.Meaning.{Becomes}
use Rattle.empties.specs.Repeats.{Repeats}
use Rattle.empties.specs.Calls.{listed, PublicEmpties}
use Rattle.empties.proofs.EmptyParts.{parts-later, parts-few}
use Rattle.capi.specs.Interface.{state_of, state_room, answer_room, roomy, over, told}
use Rattle.capi.specs.Equations.{flag}
use Rattle.capi.specs.Parts.{parts_words, parts_read, ExportedParts}
use Rattle.capi.specs.Working.Leaves.{written, Telling, tells, or_refuses, ToldBy}
use Rattle.capi.proofs.Exports.{Tells, Shows, shows_or}
use Rattle.capi.proofs.Listings.{list-gives, list_narrow, list_exported, list-worth, untold_list}
use Rattle.capi.proofs.FormExports.{NarrowList}
use Rattle.capi.proofs.AnswerExports.{flag-back}

parts-tells : (l r : List ℕ) → Tells (equal_arguments l r) (empty_parts l r)
parts-tells l r = record {
  keeps = λ s s' x a f e. (parts-later l r s s' x a e).audited;
}

abbrev listed_telling : Empties → Telling State
listed_telling x = tells x.state (x.listed ∷ x.empty ∷ flag x.link ∷ [])

abbrev pub parts_telling : Result Empties Refusal → Telling State
parts_telling r = or_refuses listed_telling r

parts-shows : (o : Result Empties Refusal) (m' : Lent) (k' : List ℕ) → Shows answer_room parts_words (parts_read k') m' (listed o m' k') (parts_telling o)
parts-shows o m' k' =
    shows_or answer_room parts_words (parts_read k') m' (λ y. listed y m' k') listed_telling (λ e. refl) o
    (λ x q. record {
      value = record { empty = x.empty; listed = first_words k' x.listed; link = x.link };
      outcome = refl;
      spelt = ap (λ (j : ℕ). j ∷ x.empty ∷ flag x.link ∷ []) (sym (table-length (λ i. get_or k' i 0) x.listed));
      few = omega arith;
      back = λ z. ap (λ (b : Bool). record { empty = x.empty; listed = first_words k' x.listed; link = b }) (flag-back x.link);
    })

pub parts_untold : (l r : List ℕ) (m : Lent) (k w a : List ℕ) → roomy state_room w a ≡ false → {n : ℕ} → n ≡ 1 → ExportedParts l r m m k k w w a a n
parts_untold l r m k w a e i = rw i (record { is = untold_list _ parts_words m k w a _ e refl; repeats = λ f. absurd (f 1 refl (inl (omega arith))); worth = λ z. absurd (omega arith) })

module _ {l r : List ℕ} {m m' : Lent} {k k' : List ℕ} {c : State} {o : Result Empties Refusal} (called : PublicEmpties l r m m' k k' c (listed o m' k')) where
  pub parts_tellable : {x : Empties} → o ≡ Ok x → NarrowList x.listed x.state
  parts_tellable {x} e =
      let q : listed o m' k' ≡ ok (store_of m' x.state) (record { empty = x.empty; listed = first_words k' x.listed; link = x.link }) = ap (λ (y : Result Empties Refusal). listed y m' k') e in
      let h = list-gives (parts-tells l r) m k c {P = λ s y. length y.listed ≤ list_limit} (λ s s' y a g i. parts-few l r s s' y i) (store_of m' x.state) _ (sym called.is.store.says ∙ q) in
      let i = table-length (λ j. get_or k' j 0) x.listed in
      record { counts = list_narrow (parts-tells l r) called.is x.state _ q; list = omega arith }

  pub parts_exported : {w w' a a' : List ℕ} {n : ℕ} → roomy state_room w a ≡ true → c ≡ state_of w → ToldBy written parts_telling w w' a a' o n → ExportedParts l r m m' k k' w w' a a' n
  parts_exported {w} {w'} {a} {a'} {n} room e u =
      let x = list_exported (parts-tells l r) called.is parts_words (parts_read k') (parts_telling o) (parts-shows o m' k') room e u.is in
      let q : told n w' m' (parts_read k' a') ≡ listed o m' k' =
      x.is.is.public.says ∙ ap (λ (b : Bool). over b (list_call k (equal_arguments l r) (empty_parts l r) m (state_of w))) room
      ∙ ap (λ (d : State). list_call k (equal_arguments l r) (empty_parts l r) m d) (sym e) ∙ sym called.is.store.says in
      record {
        is = x;
        repeats = λ f. subst (λ (d : State). Repeats (store_of m d) l r (told n w' m' (parts_read k' a'))) e
            (subst (Repeats (store_of m c) l r) (sym q) (called.repeats (λ j i. f j (q ∙ i))));
        worth = list-worth (parts-tells l r) called.is parts_words (parts_read k') (parts_telling o) (parts-shows o m' k') room e u.is
            (λ d s' y. Becomes (store_of m d) s' l r y) called.worth;
      }
