-- What the public calls of the normal forms promise.
use Rattle.std.specs.Prelude.{◌≡◌, Bool, List, ℕ, length, get_or, leb, Result, Ok, Err, Some, None, if◌then◌else◌}
use Rattle.std.specs.Prelude as code
use Rattle.std.proofs.Math.Option.{Option, none, some}
use Rattle.records.specs.declared.State.{State}
use Rattle.records.specs.declared.refusal.Refusal.{Refusal}
use Rattle.records.specs.Refusal.{number}
use Rattle.records.specs.Lists.{table}
use Rattle.records.specs.Store.{Store, Out, ok, stop, Work}
use Rattle.records.specs.View.{Lent, store_of}
use Rattle.records.specs.Make.{EachOnce}
use Rattle.records.specs.Calls.{Public, call, writes_nothing}
use Rattle.normalize.specs.Normalize.{normal_form, deep_form, form_arguments}
use Rattle.records.specs.Rules.{list_limit}
use Rattle.normalize.specs.Meaning.{Forms, DeepForms}

-- the first n words of a slice
abbrev pub first_words : List ℕ → ℕ → List ℕ
first_words l n = table (λ i. get_or l i 0) n

-- the first words of a slice, unless the count is None
abbrev pub words_if : code.Option ℕ → List ℕ → Option (List ℕ)
words_if (Some n) l = some (first_words l n)
words_if None l = none

-- the answer of a normal form: the first words of the slice
abbrev pub formed : Result (ℕ × State) Refusal → Lent → List ℕ → Out (List ℕ)
formed (Ok x) m l = ok (store_of m x.1) (first_words l x.0)
formed (Err e) m l = stop (number e)

-- the answer of a deep form
abbrev pub deepened : Result (code.Option ℕ × State) Refusal → Lent → List ℕ → Out (Option (List ℕ))
deepened (Ok x) m l = ok (store_of m x.1) (words_if x.0 l)
deepened (Err e) m l = stop (number e)

module _ {A : Type 0} where
  -- refusal 1: 'an answer's slice under 1,024 words'
  unfoldable pub list_call : List ℕ → (Store → Bool) → Work A → Lent → State → Out A
  list_call l fit work m c = if leb list_limit (length l) then call fit work m c else stop 1

  -- a call that answers a list in a lent slice, l at entry and l' at exit: 'Refusals 1 to 5 write nothing'
  pub record PublicList (o : Out A) (m m' : Lent) (l l' : List ℕ) (c : State) (r : Out A) : Type 0 where
    pub store : Public o m m' c r
    pub idle : (k : ℕ) → r ≡ stop k → writes_nothing k → l' ≡ l

-- the normal form's answer, and what it is worth: under the reasons at exit and the definitional merges the list has the term's word. The
-- reasons at exit are those at entry and then reasons that the list lacked, each once
pub record PublicForm (known : List ℕ) (t : ℕ) (m m' : Lent) (l l' : List ℕ) (c : State) (r : Out (List ℕ)) : Type 0 where
  pub is : PublicList (list_call l (form_arguments known t) (normal_form known t) m c) m m' l l' c r
  pub worth : (s' : Store) (w : List ℕ) → r ≡ ok s' w → Forms (store_of m c) s' t w
  pub once : (s' : Store) (w : List ℕ) → r ≡ ok s' w → EachOnce (store_of m c).reasons s'.reasons

-- the same of the deep form
pub record PublicDeepForm (known : List ℕ) (t : ℕ) (m m' : Lent) (l l' : List ℕ) (c : State) (r : Out (Option (List ℕ))) : Type 0 where
  pub is : PublicList (list_call l (form_arguments known t) (deep_form known t) m c) m m' l l' c r
  pub worth : (s' : Store) (w : Option (List ℕ)) → r ≡ ok s' w → DeepForms (store_of m c) s' t w
  pub once : (s' : Store) (w : Option (List ℕ)) → r ≡ ok s' w → EachOnce (store_of m c).reasons s'.reasons
