-- A store later on: terms, reasons and keys may have been added.
use mathlib.Core.Path.{◌≡◌, refl, sym, ap, subst, ◌∙◌}
use mathlib.Core.Bool.{true, not}
use mathlib.Core.List.{List, [], ◌∷◌, ◌++◌, append_assoc, append-nil}
use Prim.Native.Nat.{ℕ, ◌≤◌}
use native.Mathlib.Omega.{arith}
use lib.ListN.{length, length-append}
use Rattle.records.specs.declared.State.{State}
use Rattle.records.specs.Store.{Cell, Store, kind}
use Rattle.records.specs.View.{Lent, store_of}
use Rattle.records.specs.Lists.{one_more}
use Rattle.records.specs.Make.{with_reasons, with_names, ordered, is_listed, each_new, EachOnce}
use Rattle.records.specs.Working.Audited.{Audited}
use Rattle.records.proofs.Lists.{both_left, both_right, both_true}
use Rattle.records.proofs.Grown.{Grown, OldVariables, grown-none, grown-then}
use Rattle.records.proofs.Append.{grow, More as MoreRecords, New}
use Rattle.records.proofs.Beside.{beside, audited-beside, grown-beside}
use Rattle.records.proofs.Kept
use Rattle.records.proofs.Kept.{Appends, found, after_names, MadeIn, KeyAdded}
use Rattle.records.proofs.Counts.{Below, Higher, higher-below}

-- a list with more at its end
pub record More {A : Type 0} (l l' : List A) : Type 0 where
  pub more : List A
  pub is : l' ≡ l ++ more

module _ {A : Type 0} where
  unfoldable pub more_none : {l l' : List A} → l' ≡ l → More l l'
  more_none {l} e = record { more = []; is = e ∙ sym (append-nil l) }

  unfoldable pub more_then : {l m n : List A} → More l m → More m n → More l n
  more_then {l} p q = record { more = p.more ++ q.more; is = q.is ∙ ap (λ (x : List A). x ++ q.more) p.is ∙ append_assoc l p.more q.more }

  pub more-longer : {l m : List A} → More l m → length l ≤ length m
  more-longer {l} p = let e = ap length p.is ∙ length-append l p.more in omega arith

-- reasons that a list lacked, each once: none, and then more
pub new_then : (l m n : List (ℕ × ℕ)) → each_new l m ≡ true → each_new (l ++ m) n ≡ true → each_new l (m ++ n) ≡ true
unfolding each_new
new_then l [] n p q = subst (λ (x : List (ℕ × ℕ)). each_new x n ≡ true) (append-nil l) q
new_then l (r ∷ m) n p q =
    both_true (not (is_listed r l)) _ (both_left (not (is_listed r l)) (each_new (one_more l r) m) p)
    (new_then (one_more l r) m n (both_right (not (is_listed r l)) (each_new (one_more l r) m) p) (subst (λ (x : List (ℕ × ℕ)). each_new x n ≡ true) (sym (append_assoc l (r ∷ []) m)) q))

unfoldable pub once_none : {l l' : List (ℕ × ℕ)} → l' ≡ l → EachOnce l l'
unfolding each_new
once_none {l} e = record { more = []; is = e ∙ sym (append-nil l); new = refl }

unfoldable pub once_then : {l m n : List (ℕ × ℕ)} → EachOnce l m → EachOnce m n → EachOnce l n
once_then {l} {m} {n} p q = record {
  more = p.more ++ q.more;
  is = q.is ∙ ap (λ (x : List (ℕ × ℕ)). x ++ q.more) p.is ∙ append_assoc l p.more q.more;
  new = new_then l p.more q.more p.new (subst (λ (x : List (ℕ × ℕ)). each_new x q.more ≡ true) p.is q.new);
}

-- what is at the end of a list that grew
pub once_more : {l l' : List (ℕ × ℕ)} → EachOnce l l' → More l l'
once_more e = record { more = e.more; is = e.is }

-- how a store came from an earlier one: terms were appended, one after the other, each its own class and its own tree, and nothing else
-- happened to the terms; reasons, keys and the name counter changed beside them
pub data Extended : Store → Store → Type 0 where
  as_was : {s : Store} → Extended s s
  one_term_more : {s s' : Store} {ds : List Cell} {hs : List ℕ} {k a b : ℕ} → MoreRecords s ds hs → New s ds hs k a b → Extended (grow s ds hs k a b) s' → Extended s s'
  counter : {s s' : Store} (m : ℕ) → Extended (with_names s m) s' → Extended s s'
  others : {s s' : Store} (rs ks : List (ℕ × ℕ)) → Audited (beside s rs ks s.names) → Extended (beside s rs ks s.names) s' → Extended s s'

pub extended_then : {s s₁ s₂ : Store} → Extended s s₁ → Extended s₁ s₂ → Extended s s₂
extended_then as_was q = q
extended_then (one_term_more m n p) q = one_term_more m n (extended_then p q)
extended_then (counter m p) q = counter m (extended_then p q)
extended_then (others rs ks a p) q = others rs ks a (extended_then p q)

-- a term made
pub extended-made : {s s' : Store} → Appends s s' → Extended s s'
extended-made found = as_was
extended-made (Kept.Appends.one_term_more m n) = one_term_more m n as_was
extended-made (after_names m p) = counter m (extended-made p)

-- other reasons and keys
pub extended-others : {s s' : Store} (rs ks : List (ℕ × ℕ)) → Audited s' → s' ≡ beside s rs ks s.names → Extended s s'
extended-others {s} rs ks a e = subst (Extended s) (sym e) (others rs ks (subst Audited e a) as_was)

-- appended terms are alone and old ones stay (`extended`), words extend to it (`grown`), and no count is lower
pub record Later (s s' : Store) : Type 0 where
  pub audited : Audited s'
  pub extended : Extended s s'
  pub grown : Grown s s'
  pub cells : length s.cells ≤ length s'.cells
  pub chars : length s.chars ≤ length s'.chars
  pub reasons : EachOnce s.reasons s'.reasons
  pub keys : More s.keys s'.keys
  pub room : s'.room ≡ s.room

pub later-none : {s : Store} → Audited s → Later s s
later-none {s} d = record { audited = d; extended = as_was; grown = grown-none s; cells = omega arith; chars = omega arith; reasons = once_none refl; keys = more_none refl; room = refl }

unfoldable pub later_then : {s s₁ s₂ : Store} → Later s s₁ → Later s₁ s₂ → Later s s₂
later_then p q = record {
  audited = q.audited;
  extended = extended_then p.extended q.extended;
  grown = grown-then p.grown q.grown;
  cells = (let a = p.cells in let b = q.cells in omega arith);
  chars = (let a = p.chars in let b = q.chars in omega arith);
  reasons = once_then p.reasons q.reasons;
  keys = more_then p.keys q.keys;
  room = q.room ∙ p.room;
}

-- after a term was made, after a key was added
unfoldable pub later_made : {s s' : Store} {t k : ℕ} → MadeIn s s' t k → Later s s'
later_made m = record { audited = m.audited; extended = extended-made m.appends; grown = m.grown; cells = m.cells; chars = m.chars; reasons = once_none m.reasons; keys = more_none m.keys; room = m.room }

pub later_key : {a b : ℕ} {s s' : Store} → KeyAdded a b s s' → Later s s'
later_key {a} {b} {s} k = record {
  audited = k.audited;
  extended = extended-others s.reasons (s.keys ++ (ordered a b ∷ [])) k.audited k.is;
  grown = k.grown;
  cells = (let e = ap (λ (x : Store). length x.cells) k.is in omega arith);
  chars = (let e = ap (λ (x : Store). length x.chars) k.is in omega arith);
  reasons = once_none k.reasons;
  keys = record { more = _; is = ap (λ (x : Store). x.keys) k.is };
  room = ap (λ (x : Store). x.room) k.is;
}

-- s' is s with more reasons at the end: terms, cells, characters, keys, names and room are those of s
pub record Added (s s' : Store) : Type 0 where
  pub more : List (ℕ × ℕ)
  pub is : s' ≡ with_reasons s (s.reasons ++ more)
  pub new : each_new s.reasons more ≡ true

unfoldable pub added_none : (s : Store) → Added s s
unfolding each_new
added_none s = record { more = []; is = ap (with_reasons s) (sym (append-nil s.reasons)); new = refl }

unfoldable pub added_then : {s s₁ s₂ : Store} → Added s s₁ → Added s₁ s₂ → Added s s₂
added_then {s} p q = record {
  more = p.more ++ q.more;
  is = q.is ∙ ap (λ (x : Store). with_reasons x (x.reasons ++ q.more)) p.is ∙ ap (with_reasons s) (append_assoc s.reasons p.more q.more);
  new = new_then s.reasons p.more q.more p.new (subst (λ (x : Store). each_new x.reasons q.more ≡ true) p.is q.new);
}

pub added-once : {s s' : Store} → Added s s' → EachOnce s.reasons s'.reasons
added-once a = record { more = a.more; is = ap (λ (x : Store). x.reasons) a.is; new = a.new }

-- by which no variable is made
unfoldable pub later_added : {s s' : Store} → Added s s' → Audited s' → Later s s'
later_added {s} a d = record {
  audited = d;
  extended = extended-others (s.reasons ++ a.more) s.keys d a.is;
  grown = subst (Grown s) (sym a.is) (grown-beside s (s.reasons ++ a.more) s.keys s.names);
  cells = (let e = ap (λ (x : Store). length x.cells) a.is in omega arith);
  chars = (let e = ap (λ (x : Store). length x.chars) a.is in omega arith);
  reasons = added-once a;
  keys = more_none (ap (λ (x : Store). x.keys) a.is);
  room = ap (λ (x : Store). x.room) a.is;
}

pub variables-added : {s s' : Store} → Added s s' → OldVariables s s'
variables-added a t e = ap (λ (x : Store). kind x t) (sym a.is) ∙ e

-- reasons cut back to those of entry
pub later-cut : {s s₁ : Store} → Audited s → Later s s₁ → Later s (with_reasons s₁ s.reasons)
later-cut {s} {s₁} d k =
    let e = ap (λ (x : _). x.reasons) k.room in
    let h = d.roomy.reasons in
    let au = audited-beside s₁ s.reasons s₁.keys s₁.names k.audited d.recorded.reasons k.audited.recorded.keys (omega arith) k.audited.roomy.keys in
    record {
      audited = au;
      extended = extended_then k.extended (others s.reasons s₁.keys au as_was);
      grown = grown-then k.grown (grown-beside s₁ s.reasons s₁.keys s₁.names);
      cells = k.cells;
      chars = k.chars;
      reasons = once_none refl;
      keys = k.keys;
      room = k.room;
    }

-- no count is lower
pub later-higher : {s s' : Store} → Later s s' → Higher s s'
later-higher l = record { terms = l.grown.more; cells = l.cells; chars = l.chars; reasons = more-longer (once_more l.reasons); keys = more-longer l.keys }

pub later-below : (m m' : Lent) (c d : State) → Later (store_of m c) (store_of m' d) → Below c d
later-below m m' c d l = higher-below m m' c d (later-higher l)
