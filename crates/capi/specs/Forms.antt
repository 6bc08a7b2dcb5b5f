-- What the exported calls of the normal forms promise.
use Rattle.std.specs.Prelude.{◌≡◌, List, [], ◌∷◌, ℕ, zero, suc, length, get_or}
use Rattle.std.proofs.Math.Option.{Option, none, some}
use Rattle.records.specs.View.{Lent, store_of}
use Rattle.records.specs.Make.{EachOnce}
use Rattle.normalize.specs.Normalize.{normal_form, deep_form, form_arguments}
use Rattle.normalize.specs.Meaning.{Forms, DeepForms}
use Rattle.normalize.specs.Calls.{first_words, list_call}
use Rattle.capi.specs.Interface.{state_of, state_room, roomy, over, AnsweredList}

-- of a normal form: 1 in word 0 and the list's count in word 1
abbrev pub form_words : List ℕ → List ℕ
form_words x = 1 ∷ length x ∷ []

-- of a deep form the same, and 0 and 0 for None
abbrev pub deep_words : Option (List ℕ) → List ℕ
deep_words none = 0 ∷ 0 ∷ []
deep_words (some x) = 1 ∷ length x ∷ []

-- the list that the answer a and the list's slice l give
abbrev pub form_read : List ℕ → List ℕ → List ℕ
form_read l a = first_words l (get_or a 1 0)

abbrev pub some_unless0 : ℕ → List ℕ → Option (List ℕ)
some_unless0 zero x = none
some_unless0 (suc n) x = some x

abbrev pub deep_read : List ℕ → List ℕ → Option (List ℕ)
deep_read l a = some_unless0 (get_or a 0 0) (first_words l (get_or a 1 0))

-- the normal form told in words, and what it is worth: under the reasons at exit and the definitional merges the list has the
-- term's word. The reasons at exit are those at entry and then reasons that the list lacked, each once
pub record ExportedForm (known : List ℕ) (t : ℕ) (m m' : Lent) (l l' w w' a a' : List ℕ) (k : ℕ) : Type 0 where
  pub is : AnsweredList (over (roomy state_room w a) (list_call l (form_arguments known t) (normal_form known t) m (state_of w))) form_words m m' l l' w w' a a' (form_read l' a') k
  pub worth : k ≡ 0 → Forms (store_of m (state_of w)) (store_of m' (state_of w')) t (form_read l' a')
  pub once : k ≡ 0 → EachOnce (store_of m (state_of w)).reasons (store_of m' (state_of w')).reasons

-- the same of the deep form
pub record ExportedDeepForm (known : List ℕ) (t : ℕ) (m m' : Lent) (l l' w w' a a' : List ℕ) (k : ℕ) : Type 0 where
  pub is : AnsweredList (over (roomy state_room w a) (list_call l (form_arguments known t) (deep_form known t) m (state_of w))) deep_words m m' l l' w w' a a' (deep_read l' a') k
  pub worth : k ≡ 0 → DeepForms (store_of m (state_of w)) (store_of m' (state_of w')) t (deep_read l' a')
  pub once : k ≡ 0 → EachOnce (store_of m (state_of w)).reasons (store_of m' (state_of w')).reasons
