-- The normal form over an audited store: what it answers has the term's word, what it leaves, and with which numbers it stops.
use Rattle.std.specs.Prelude.{if◌then◌else◌}
use mathlib.Core.Path.{◌≡◌, refl, sym, ap, subst, ◌∙◌}
use mathlib.Core.Bool.{true, ◌&&◌}
use mathlib.Core.List.{List, [], ◌∷◌, ◌++◌, reverse, append-nil, append_assoc, reverse-cons}
use mathlib.Core.Option.{Option, none, some}
use Prim.Native.Nat.{ℕ, ◌+◌, ◌≤◌}
use native.Mathlib.Omega.{arith}
use lib.ListN.{length, length-append, length-reverse}
use lib.Dec.{eqb}
use borrow.Author.Tests.{eqb-true, eq-eqb}
use Rattle.records.specs.Lists.{all, first_of, concat_map, Every, none_left, and}
use Rattle.records.specs.Store.{Store, ok, stop, Work, ◌>>=◌, give, within, is_string, is_constant, text, root, same_class}
use Rattle.records.specs.Rules.{is_char, list_limit, is_list}
use Rattle.records.specs.Make.{make_constant}
use Rattle.records.specs.Meaning.{Words, Reading, Holds}
use Rattle.records.specs.Working.Audited.{Audited}
use Rattle.records.proofs.Lists.{both_left, both_right, both_true, every_map, every_append, all_append, every_left}
use Rattle.records.proofs.Paths.{first-has}
use Rattle.records.proofs.Readings.{text-characters}
use Rattle.records.proofs.Kept.{made-string, constant-kept, constant-stops}
use Rattle.records.proofs.MadeWords.{constant-word}
use Rattle.engine.specs.Explain.{explain}
use Rattle.engine.proofs.Sound.{explain_gives, explain_stops}
use Rattle.normalize.specs.Normalize.{flatten, or_first, representative, substitute, join, push, push_all, push_forms, normal_form, form_arguments}
use Rattle.normalize.specs.Meaning.{Forms}
use Rattle.normalize.proofs.Atoms.{Flat, flatten-flat, flatten-atoms, flatten-stops}
use Rattle.normalize.proofs.FormOutcomes.{Ends}
use Rattle.records.proofs.Outcomes.{Refused, ends-give, ends_by, ends_if, ends-map, ends-then}
use Rattle.normalize.proofs.Rewritten.{Rewritten, rewritten_none, rewritten_then, rewritten_after, rewritten_before, rewritten_explained, rewritten_as}
use Rattle.records.proofs.LaterStores.{Later, later-none, later_made}
use Rattle.records.proofs.Grown.{OldVariables, Strings, strings-later}
use Rattle.records.proofs.ListLaws.{list_every}

-- THE REPRESENTATIVE

-- a string term of the atom's class
pub record Stands (s : Store) (a r : ℕ) : Type 0 where
  pub string : is_string s r ≡ true
  pub class : same_class s a r ≡ true

pub representative-stands : (s : Store) (cs : List ℕ) (a : ℕ) → Strings s cs → is_string s a ≡ true → Stands s a (representative s cs a)
unfolding representative
representative-stands s cs a k i = go (first_of (λ t. same_class s t a && is_constant s t) cs) refl (first_of (λ t. same_class s t a) cs) refl
  where
    turned : (r : ℕ) → same_class s r a ≡ true → same_class s a r ≡ true
    turned r e = eq-eqb (root s a) (root s r) (sym (eqb-true (root s r) (root s a) e))

    go : (x : Option ℕ) → first_of (λ t. same_class s t a && is_constant s t) cs ≡ x → (y : Option ℕ) → first_of (λ t. same_class s t a) cs ≡ y → Stands s a (or_first x y a)
    go (some t) p y q = let h = first-has _ cs t k p in record { string = h.0; class = turned t (both_left (same_class s t a) _ h.1) }
    go none p (some t) q = let h = first-has _ cs t k q in record { string = h.0; class = turned t h.1 }
    go none p none q = record { string = i; class = eq-eqb (root s a) (root s a) refl }

-- ATOM BY ATOM

-- the list so far stands last atom first: out, with l after it, became out'
pub record Pushed (s s' : Store) (l out out' : List ℕ) : Type 0 where
  pub list : Rewritten s s' (reverse out ++ l) (reverse out')
  pub long : length out' ≤ length out + length l

-- explained where they differ
pub replace_ends : (a r : ℕ) (s : Store) → Audited s → is_string s a ≡ true → Stands s a r → Ends (λ s' u. Rewritten s s' (a ∷ []) (r ∷ [])) ((if eqb r a then give tt else explain a r) s)
replace_ends a r s audited i x =
    ends_if (eqb r a) (give tt) (explain a r)
    (λ b. ends-give (rewritten_as refl (ap (λ (y : ℕ). y ∷ []) (sym (eqb-true r a b))) (rewritten_none s (a ∷ []) audited (and i none_left))))
    (λ b. ends_by 7 (omega arith) (omega arith)
    (λ s' u e. rewritten_explained (explain_gives s audited a r i x.string x.class s' u e) x.string) (explain_stops s audited a r i x.string x.class))

pub substitute-ends : (cs : List ℕ) (a : ℕ) (s : Store) → Audited s → Strings s cs → is_string s a ≡ true → Ends (λ s' r. Rewritten s s' (a ∷ []) (r ∷ [])) (substitute cs a s)
unfolding substitute
substitute-ends cs a s audited k i =
    ends-then (λ u. give (representative s cs a)) ((if eqb (representative s cs a) a then give tt else explain a (representative s cs a)) s)
    (replace_ends a (representative s cs a) s audited i (representative-stands s cs a k i)) (λ s' u x. ends-give x)

-- two constants joined
joined-pair : (t u c : ℕ) (s s' : Store) → Audited s → is_constant s t ≡ true → is_constant s u ≡ true → make_constant (text s u ++ text s t) s ≡ ok s' c → Rewritten s s' (u ∷ t ∷ []) (c ∷ [])
unfolding concat_map within
joined-pair t u c s s' audited p q e =
    let good = all_append is_char (text s u) (text s t) ∙ both_true _ _ (text-characters s audited.recorded u) (text-characters s audited.recorded t) in
    let m = constant-kept (text s u ++ text s t) s s' c audited good e in
    record {
      later = later_made m.made;
      variables = m.made.variables (λ q. omega arith);
      strings = and (made-string m.made refl) none_left;
      words = λ w r h.
          let r₀ = m.made.grown.down w r in
          ap (λ (x : List ℕ). x ++ (w t ++ [])) (r₀.constants u (eqb-true _ _ q)) ∙ ap (λ (x : List ℕ). text s u ++ (x ++ [])) (r₀.constants t (eqb-true _ _ p))
          ∙ sym (append_assoc (text s u) (text s t) []) ∙ ap (λ (x : List ℕ). x ++ []) (sym (constant-word m r));
    }

join-ends : (t : ℕ) (out : List ℕ) (s : Store) → Audited s → is_string s t ≡ true → Strings s (reverse out) → Ends (λ s' out'. Pushed s s' (t ∷ []) out out') (join t out s)
unfolding join
join-ends t [] s audited i k = ends-give (record { list = rewritten_none s (t ∷ []) audited (and i none_left); long = omega arith })
join-ends t (u ∷ out) s audited i k =
    ends_if (is_constant s t && is_constant s u) _ _
    (λ b. ends-then _ (make_constant (text s u ++ text s t) s)
    (ends_by {P = λ s' c. Pushed s s' (t ∷ []) (u ∷ out) (c ∷ out)} 8 (omega arith) (omega arith) (λ s' c e. made s' c b e) (constant-stops (text s u ++ text s t) s))
    (λ s' c x. ends-give x))
    (λ b. ends-give (record {
      list = rewritten_as refl (sym (reverse-cons t (u ∷ out))) (rewritten_none s (reverse (u ∷ out) ++ (t ∷ [])) audited (every_append k (and i none_left)));
      long = omega arith;
    }))
  where
    before : Strings s (reverse out)
    before = every_left (reverse out) (u ∷ []) (subst (Strings s) (reverse-cons u out) k)

    made : (s' : Store) (c : ℕ) → is_constant s t && is_constant s u ≡ true → make_constant (text s u ++ text s t) s ≡ ok s' c → Pushed s s' (t ∷ []) (u ∷ out) (c ∷ out)
    made s' c b e =
        record {
          list = rewritten_as (sym (ap (λ (x : List ℕ). x ++ (t ∷ [])) (reverse-cons u out) ∙ append_assoc (reverse out) (u ∷ []) (t ∷ []))) (sym (reverse-cons c out))
              (rewritten_after (reverse out) before (joined-pair t u c s s' audited (both_left (is_constant s t) _ b) (both_right (is_constant s t) _ b) e));
          long = omega arith;
        }

empty : (l : List ℕ) → length l ≡ 0 → l ≡ []
empty [] e = refl
empty (x ∷ l) e = absurd (omega arith)

pub push-ends : (t : ℕ) (out : List ℕ) (s : Store) → Audited s → is_string s t ≡ true → Strings s (reverse out) → Ends (λ s' out'. Pushed s s' (t ∷ []) out out') (push t out s)
unfolding push concat_map
push-ends t out s audited i k =
    ends_if (is_constant s t && eqb (length (text s t)) 0) _ _
    (λ b. ends-give (record {
      list = rewritten_as refl (append-nil (reverse out)) (rewritten_after (reverse out) k (dropped (both_left (is_constant s t) _ b) (both_right (is_constant s t) _ b)));
      long = omega arith;
    }))
    (λ b. join-ends t out s audited i k)
  where
    dropped : is_constant s t ≡ true → eqb (length (text s t)) 0 ≡ true → Rewritten s s (t ∷ []) []
    dropped c z = record {
      later = later-none audited;
      variables = λ t e. e;
      strings = none_left;
      words = λ w r h. ap (λ (x : List ℕ). x ++ []) (r.constants t (eqb-true _ _ c) ∙ empty (text s t) (eqb-true _ _ z));
    }

nothing : (s : Store) (out : List ℕ) → Audited s → Strings s (reverse out) → Pushed s s [] out out
nothing s out audited k = record { list = rewritten_as (sym (append-nil (reverse out))) refl (rewritten_none s (reverse out) audited k); long = omega arith }

push-then : {s s₁ s₂ : Store} (l m out out₁ out₂ : List ℕ) → Strings s m → Pushed s s₁ l out out₁ → Pushed s₁ s₂ m out₁ out₂ → Pushed s s₂ (l ++ m) out out₂
push-then l m out out₁ out₂ k p q = record {
  list = rewritten_as (append_assoc (reverse out) l m) refl (rewritten_then (rewritten_before m k p.list) q.list);
  long = (let i = p.long in let j = q.long in let n = length-append l m in omega arith);
}

-- one atom, then the others
push-on : (a : ℕ) (l out : List ℕ) (s : Store) (m : Work (List ℕ)) (f : List ℕ → Work (List ℕ)) → Strings s l → Ends (λ s' out'. Pushed s s' (a ∷ []) out out') (m s)
    → ((s₁ : Store) (out₁ : List ℕ) → Pushed s s₁ (a ∷ []) out out₁ → Ends (λ s' out'. Pushed s₁ s' l out₁ out') (f out₁ s₁)) → Ends (λ s' out'. Pushed s s' (a ∷ l) out out') ((m >>= f) s)
push-on a l out s m f j e k = ends-then f (m s) e (λ s₁ out₁ p. ends-map (λ s' out' q. push-then (a ∷ []) l out out₁ out' j p q) (k s₁ out₁ p))

pub all-ends : (l out : List ℕ) (s : Store) → Audited s → Strings s l → Strings s (reverse out) → Ends (λ s' out'. Pushed s s' l out out') (push_all l out s)
unfolding push_all
all-ends [] out s audited none_left k = ends-give (nothing s out audited k)
all-ends (t ∷ l) out s audited (and i j) k =
    push-on t l out s (push t out) (push_all l) j (push-ends t out s audited i k)
    (λ s₁ out₁ p. all-ends l out₁ s₁ p.list.later.audited (strings-later p.list.later.grown j) p.list.strings)

lone : {P : ℕ → Type 0} {a : ℕ} → Every P (a ∷ []) → P a
lone (and p k) = p

-- one atom replaced, then pushed
pub atom-ends : (cs : List ℕ) (a : ℕ) (out : List ℕ) (s : Store) → Audited s → Strings s cs → is_string s a ≡ true → Strings s (reverse out) → Ends (λ s' out'. Pushed s s' (a ∷ []) out out') ((substitute cs a >>= (λ r. push r out)) s)
atom-ends cs a out s audited h i k =
    ends-then (λ r. push r out) (substitute cs a s) (substitute-ends cs a s audited h i) (λ s₁ r x.
    ends-map (λ s' out' y. record { list = rewritten_then (rewritten_after (reverse out) k x) y.list; long = y.long })
    (push-ends r out s₁ x.later.audited (lone x.strings) (strings-later x.later.grown k)))

pub forms_end : (cs l out : List ℕ) (s : Store) → Audited s → Strings s cs → Strings s l → Strings s (reverse out) → Ends (λ s' out'. Pushed s s' l out out') (push_forms cs l out s)
unfolding push_forms
forms_end cs [] out s audited h none_left k = ends-give (nothing s out audited k)
forms_end cs (a ∷ l) out s audited h (and i j) k =
    push-on a l out s (substitute cs a >>= (λ r. push r out)) (push_forms cs l) j (atom-ends cs a out s audited h i k)
    (λ s₁ out₁ p. let g = p.list.later.grown in forms_end cs l out₁ s₁ p.list.later.audited (strings-later g h) (strings-later g j) p.list.strings)

-- THE NORMAL FORM

-- a normal form answered: a reading of the store after, under which the definitional merges and the reasons at exit hold, gives the list
-- the term's word
pub record Formed (s s' : Store) (t : ℕ) (l : List ℕ) : Type 0 where
  pub later : Later s s'
  pub variables : OldVariables s s'
  pub strings : Strings s' l
  pub long : length l ≤ list_limit
  pub word : (w : Words) → Reading s' w → Holds s s'.reasons w → w t ≡ concat_map w l

form_of : (cs m : List ℕ) (t : ℕ) (s : Store) → Audited s → Strings s cs → Strings s m → length m ≤ list_limit → ((w : Words) → Reading s w → concat_map w (t ∷ []) ≡ concat_map w m)
    → Ends (λ s' l. Formed s s' t l) ((push_forms cs m [] >>= (λ out. give (reverse out))) s)
unfolding concat_map
form_of cs m t s audited h k n f =
    ends-then (λ out. give (reverse out)) (push_forms cs m [] s) (forms_end cs m [] s audited h k none_left) (λ s' out x.
    ends-give (record {
      later = x.list.later;
      variables = x.list.variables;
      strings = x.list.strings;
      long = (let i = x.long in let o = length-reverse out in omega arith);
      word = λ w r j. sym (append-nil (w t)) ∙ f w (x.list.later.grown.down w r) ∙ x.list.words w r j;
    }))

pub form-ends : (known : List ℕ) (t : ℕ) (s : Store) → Audited s → Strings s known → is_string s t ≡ true → Ends (λ s' l. Formed s s' t l) (normal_form known t s)
unfolding normal_form all
form-ends known t s audited h i =
    ends-then (λ m. push_forms (known ++ m) m [] >>= (λ out. give (reverse out))) (flatten (t ∷ []) s)
    (ends_by {P = λ s₁ m. Flat s s₁ (t ∷ []) m × Strings s m} 6 (omega arith) (omega arith)
    (λ s₁ m e. (flatten-flat (t ∷ []) s s₁ m e, every_map (λ a x. x.string) (flatten-atoms (t ∷ []) s s₁ m audited (both_true _ _ i refl) e)))
    (λ n e. (flatten-stops (t ∷ []) s n e).0))
    (λ s₁ m x. subst (λ (y : Store). Ends (λ s' l. Formed s s' t l) ((push_forms (known ++ m) m [] >>= (λ out. give (reverse out))) y)) (sym x.0.same_store)
    (form_of (known ++ m) m t s audited (every_append h x.1) x.1 x.0.long x.0.words))

module _ (known : List ℕ) (t : ℕ) (s : Store) (audited : Audited s) (good : form_arguments known t s ≡ true) where
  ends : Ends (λ s' l. Formed s s' t l) (normal_form known t s)
  ends = form-ends known t s audited (list_every s known (both_left (is_list s known) _ good)) (both_right (is_list s known) _ good)

  pub form-gives : (s' : Store) (l : List ℕ) → normal_form known t s ≡ ok s' l → Formed s s' t l
  form-gives s' l e = ends.given s' l e

  -- it stops only with 6, 7 or 8
  pub form-stops : (n : ℕ) → normal_form known t s ≡ stop n → Refused 8 n
  form-stops n e = ends.stopped n e

  pub form-sound : (s' : Store) (l : List ℕ) → normal_form known t s ≡ ok s' l → Forms s s' t l
  form-sound s' l e = (form-gives s' l e).word

  pub form-kept : (s' : Store) (l : List ℕ) → normal_form known t s ≡ ok s' l → Later s s'
  form-kept s' l e = (form-gives s' l e).later
