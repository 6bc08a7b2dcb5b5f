-- The deep form over an audited store: a list answered has the term's word, None leaves terms and reasons added by then, and with which
-- numbers it stops.
use mathlib.Core.Path.{◌≡◌, refl, sym, ◌∙◌}
use mathlib.Core.Bool.{true}
use mathlib.Core.List.{List, [], ◌∷◌, ◌++◌, reverse, append-nil, append_assoc}
use mathlib.Core.Option.{Option, none, some}
use Prim.Native.Nat.{ℕ, zero, suc, ◌≤◌}
use lib.ListN.{length}
use lib.Dec.{ltb}
use borrow.Author.Tests.{ltb-false}
use Rattle.records.specs.Lists.{any, concat_map, same_word, is_in, none_left, and}
use Rattle.records.specs.Store.{Store, ok, stop, Work, is_string}
use Rattle.records.specs.Meaning.{Words, Reading, Holds}
use Rattle.records.specs.Working.Audited.{Audited}
use Rattle.records.proofs.Lists.{both_left, both_right, every_append}
use Rattle.normalize.specs.Normalize.{form_arguments, normal_form, push_all, deep_limit, opens, Round, expand, settle, after_expand, rounds, deep_form}
use Rattle.records.specs.Rules.{is_list}
use Rattle.normalize.specs.Meaning.{DeepForms}
use Rattle.normalize.proofs.FormOutcomes.{Ends}
use Rattle.records.proofs.Outcomes.{Refused, ends-give, ends_if, ends-map, ends-then}
use Rattle.normalize.proofs.Rewritten.{Rewritten, rewritten_none, rewritten_then, rewritten_after, rewritten_before, rewritten_as}
use Rattle.records.proofs.LaterStores.{Later, later-none, later_then}
use Rattle.records.proofs.Grown.{OldVariables, Strings, strings-later}
use Rattle.normalize.proofs.Formed.{all-ends, Formed, form-ends}
use Rattle.records.proofs.ListLaws.{list_every}

-- ONE ROUND

formed_rewritten : {s s' : Store} {t : ℕ} {l : List ℕ} → Formed s s' t l → Rewritten s s' (t ∷ []) l
unfolding concat_map
formed_rewritten {t = t} f = record { later = f.later; variables = f.variables; strings = f.strings; words = λ w r h. append-nil (w t) ∙ f.word w r h }

-- what a round that began with the list l leaves: None, or a list of the same word
abbrev pub Expanded : Store → List ℕ → Store → Option Round → Type 0
Expanded s l s' none = Later s s'
Expanded s l s' (some r) = Rewritten s s' l r.list

expanded-then : {s s₁ : Store} {l m : List ℕ} → Rewritten s s₁ l m → (s' : Store) (o : Option Round) → Expanded s₁ m s' o → Expanded s l s' o
expanded-then p s' none x = later_then p.later x
expanded-then p s' (some r) x = rewritten_then p x

module _ (known : List ℕ) (t : ℕ) where
  pub expand-ends : (l : List ℕ) (r : Round) (s : Store) → Audited s → Strings s known → Strings s l → Strings s r.list → Ends (Expanded s (r.list ++ l)) (expand known t l r s)
  unfolding expand
  expand-ends [] r s audited h k i = ends-give (rewritten_as (sym (append-nil r.list)) refl (rewritten_none s r.list audited i))
  expand-ends (a ∷ l) r s audited h (and j k) i =
      ends_if (opens s t a) _ _
      (λ b. ends_if (is_in a r.met) _ _ (λ c. ends-give (later-none audited))
      (λ c. ends-then _ (normal_form known a s) (form-ends known a s audited h j) (λ s₁ form f.
      ends_if (ltb deep_limit (length (r.list ++ form))) _ _ (λ d. ends-give f.later)
      (λ d. let x = one s₁ form (formed_rewritten f) in
      let g = f.later.grown in
      ends-map (expanded-then x)
      (expand-ends l (record { list = r.list ++ form; met = a ∷ r.met }) s₁ f.later.audited (strings-later g h) (strings-later g k) (every_append (strings-later g i) f.strings))))))
      (λ b. ends-map (expanded-then (one s (a ∷ []) (rewritten_none s (a ∷ []) audited (and j none_left))))
      (expand-ends l (record { list = r.list ++ (a ∷ []); met = r.met }) s audited h k (every_append i (and j none_left))))
    where
      one : (s₁ : Store) (form : List ℕ) → Rewritten s s₁ (a ∷ []) form → Rewritten s s₁ (r.list ++ (a ∷ l)) ((r.list ++ form) ++ l)
      one s₁ form x = rewritten_as refl (sym (append_assoc r.list form l)) (rewritten_after r.list i (rewritten_before l k x))

-- ROUNDS

-- what rounds that began with the list l leave: None, or a list of at most 256 atoms of the same word
abbrev pub Answers : Store → List ℕ → Store → Option (List ℕ) → Type 0
Answers s l s' none = Later s s'
Answers s l s' (some m) = Rewritten s s' l m × (length m ≤ deep_limit)

answers-then : {s s₁ : Store} {l m : List ℕ} → Rewritten s s₁ l m → (s' : Store) (o : Option (List ℕ)) → Answers s₁ m s' o → Answers s l s' o
answers-then p s' none x = later_then p.later x
answers-then p s' (some n) x = (rewritten_then p x.0, x.1)

module _ (known : List ℕ) where
  -- the rounds that follow
  abbrev pub Goes : (List ℕ → Work (Option (List ℕ))) → Type 0
  Goes more = (m : List ℕ) (s : Store) → Audited s → Strings s known → Strings s m → length m ≤ deep_limit → Ends (Answers s m) (more m s)

  settle-ends : (before : List ℕ) (more : List ℕ → Work (Option (List ℕ))) → Goes more → (out : List ℕ) (s : Store) → Audited s → Strings s known → Strings s out → Ends (Answers s out) (settle before more out s)
  unfolding settle
  settle-ends before more go out s audited h k =
      ends_if (ltb deep_limit (length out)) _ _ (λ b. ends-give (later-none audited))
      (λ b. let n : length out ≤ deep_limit = ltb-false _ _ b in
      ends_if (same_word out before) _ _ (λ c. ends-give (rewritten_none s out audited k, n)) (λ c. go out s audited h k n))

  after-ends : (before : List ℕ) (more : List ℕ → List ℕ → Work (Option (List ℕ))) → ((met : List ℕ) → Goes (more met)) → (l : List ℕ) (s s₁ : Store) → Strings s known → (o : Option Round) → Expanded s l s₁ o → Ends (Answers s l) (after_expand before more o s₁)
  after-ends before more go l s s₁ h none x = ends-give x
  after-ends before more go l s s₁ h (some r) x =
      let g = x.later.grown in
      ends-then (λ out. settle before (more r.met) (reverse out)) (push_all r.list [] s₁) (all-ends r.list [] s₁ x.later.audited x.strings none_left) (λ s₂ out p.
      let y = rewritten_then x p.list in
      ends-map (answers-then y) (settle-ends before (more r.met) (go r.met) (reverse out) s₂ y.later.audited (strings-later y.later.grown h) y.strings))

  pub rounds-end : (n t : ℕ) (met : List ℕ) → Goes (rounds n known t met)
  unfolding rounds
  rounds-end zero t met l s audited h k n = ends-give (rewritten_none s l audited k, n)
  rounds-end (suc i) t met l s audited h k n =
      ends_if (any (opens s t) l) _ _
      (λ b. ends-then (after_expand l (rounds i known t)) (expand known t l (record { list = []; met = met }) s)
      (expand-ends known t l (record { list = []; met = met }) s audited h k none_left)
      (λ s₁ o x. after-ends l (rounds i known t) (rounds-end i t) l s s₁ h o x))
      (λ b. ends-give (rewritten_none s l audited k, n))

-- THE DEEP FORM

-- a deep form answered: a reading of the store after, under which the definitional merges and the reasons at exit hold, gives the list
-- the term's word
pub record DeepFormed (s s' : Store) (t : ℕ) (l : List ℕ) : Type 0 where
  pub later : Later s s'
  pub variables : OldVariables s s'
  pub strings : Strings s' l
  pub long : length l ≤ deep_limit
  pub word : (w : Words) → Reading s' w → Holds s s'.reasons w → w t ≡ concat_map w l

abbrev pub Deepened : Store → ℕ → Store → Option (List ℕ) → Type 0
Deepened s t s' none = Later s s'
Deepened s t s' (some l) = DeepFormed s s' t l

deepened : (s : Store) (t : ℕ) (s' : Store) (o : Option (List ℕ)) → Answers s (t ∷ []) s' o → Deepened s t s' o
unfolding concat_map
deepened s t s' none x = x
deepened s t s' (some l) x = record { later = x.0.later; variables = x.0.variables; strings = x.0.strings; long = x.1; word = λ w r h. sym (append-nil (w t)) ∙ x.0.words w r h }

pub deep_ends : (known : List ℕ) (t : ℕ) (s : Store) → Audited s → Strings s known → is_string s t ≡ true → Ends (Deepened s t) (deep_form known t s)
unfolding deep_form
deep_ends known t s audited h i =
    ends-map (deepened s t) (ends-then _ (normal_form known t s) (form-ends known t s audited h i) (λ s₁ l f.
    let g = f.later.grown in
    ends_if (ltb deep_limit (length l)) _ _ (λ b. ends-give f.later)
    (λ b. ends-map (answers-then (formed_rewritten f)) (rounds-end known 64 t [] l s₁ f.later.audited (strings-later g h) f.strings (ltb-false _ _ b)))))

module _ (known : List ℕ) (t : ℕ) (s : Store) (audited : Audited s) (good : form_arguments known t s ≡ true) where
  ends : Ends (Deepened s t) (deep_form known t s)
  ends = deep_ends known t s audited (list_every s known (both_left (is_list s known) _ good)) (both_right (is_list s known) _ good)

  pub deep_gives : (s' : Store) (l : List ℕ) → deep_form known t s ≡ ok s' (some l) → DeepFormed s s' t l
  deep_gives s' l e = ends.given s' (some l) e

  pub deep_kept : (s' : Store) (o : Option (List ℕ)) → deep_form known t s ≡ ok s' o → Later s s'
  deep_kept s' none e = ends.given s' none e
  deep_kept s' (some l) e = (deep_gives s' l e).later

  -- it stops only with 6, 7 or 8
  pub deep_stops : (n : ℕ) → deep_form known t s ≡ stop n → Refused 8 n
  deep_stops n e = ends.stopped n e

  pub deep_sound : (s' : Store) (o : Option (List ℕ)) → deep_form known t s ≡ ok s' o → DeepForms s s' t o
  deep_sound s' none e = tt
  deep_sound s' (some l) e = (deep_gives s' l e).word
