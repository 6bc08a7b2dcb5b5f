-- Two constants compared by their characters, and what the classes of two string terms are read by.
use mathlib.Core.Path.{◌≡◌, sym, ap, ◌∙◌}
use mathlib.Core.Bool.{Bool, true, false, ◌&&◌}
use mathlib.Core.List.{List}
use Prim.Native.Nat.{ℕ, suc, ◌+◌, ◌-◌, ◌≤◌}
use native.Mathlib.Omega.{arith}
use lib.ListN.{length, take, drop, get_or}
use borrow.Author.Tests.{eqb-true}
use Rattle.records.specs.declared.State.{State}
use Rattle.records.specs.Lists.{same_word}
use Rattle.records.specs.Store.{Store, within, term, kind, class_up, is_constant, is_string, text}
use Rattle.records.specs.View.{lent, term_at, terms_view, span, read_in}
use Rattle.records.specs.Working.Audited.{Closed}
use Rattle.records.proofs.Lists.{both_left, both_right, table-length, word-differs}
use Rattle.records.proofs.Views.{first-at, second_at, text-span, agree-part}
use Rattle.records.proofs.Grown.{kind-term, string-term}
use Rattle.records.proofs.Climbs.{ready_roots}
use Rattle.sides.specs.Working.Stripping.{Readable}

-- TWO CONSTANTS

module _ {t h : List ℕ} {c : State} (able : Readable t h c) where
  abbrev s : Store
  s = read_in t h c

  here : (a : ℕ) → kind s a ≡ 1 → within c.terms a ≡ true
  here a e = rw (table-length (λ i. term_at t (suc i)) c.terms) at (kind-term s a 0 e)

  counted : (a : ℕ) → kind s a ≡ 1 → (term s a).first + (term s a).second ≤ c.chars
  counted a e =
      let k = able.ready.audited.recorded.constants a e in
      let z = table-length (λ i. get_or h i 0) c.chars in
      omega arith

  text_is : (a : ℕ) → kind s a ≡ 1 → text s a ≡ span h (term s a).first (term s a).second
  text_is a e = text-span h c.chars (term s a) (counted a e)

  text-length : (a : ℕ) → kind s a ≡ 1 → length (text s a) ≡ (term s a).second
  text-length a e = ap length (text_is a e) ∙ table-length (λ i. get_or h ((term s a).first + i) 0) (term s a).second

  module _ (a b : ℕ) (constants : is_constant s a && is_constant s b ≡ true) (x y : ℕ) (one : x ≡ (term_at t a).second) (other : y ≡ (term_at t b).second) where
    left-kind : kind s a ≡ 1
    left-kind = eqb-true _ _ (both_left _ _ constants)

    right-kind : kind s b ≡ 1
    right-kind = eqb-true _ _ (both_right (is_constant s a) _ constants)

    left-second : x ≡ (term s a).second
    left-second = second_at t c.terms a x (here a left-kind) one

    right-second : y ≡ (term s b).second
    right-second = second_at t c.terms b y (here b right-kind) other

    pub texts-apart : (x ≡ y → ⊥) → false ≡ same_word (text s a) (text s b)
    texts-apart d = sym (word-differs _ _ (λ e. d (left-second ∙ sym (text-length a left-kind) ∙ ap length e ∙ text-length b right-kind ∙ sym right-second)))

    module _ (q : ℕ) (from : q ≡ (term_at t b).first) where
      right-first : q ≡ (term s b).first
      right-first = first-at t c.terms b q (here b right-kind) from

      pub text-inside : x ≡ y → q + x ≤ length h
      text-inside e =
          let k = counted b right-kind in
          let r = able.ready.sized.char_room in
          let f = right-first in
          let g = right-second in
          omega arith

      pub texts-compared : (p : ℕ) → p ≡ (term_at t a).first → x ≡ y → (r : Bool)
          → r ≡ same_word (span h p (length (take (q + x - q) (drop q h)))) (take (q + x - q) (drop q h)) → r ≡ same_word (text s a) (text s b)
      texts-compared p i e r g =
          let u : text s a ≡ span h p x = text_is a left-kind ∙ ap (λ (k : ℕ). span h k (term s a).second) (sym (first-at t c.terms a p (here a left-kind) i)) ∙ ap (span h p) (sym left-second) in
          let v : text s b ≡ span h q x = text_is b right-kind ∙ ap (λ (k : ℕ). span h k (term s b).second) (sym right-first) ∙ ap (span h q) (sym right-second ∙ sym e) in
          rw (u, v) (agree-part h p q x r (text-inside e) g)

  -- CLASSES

  pub string-within : (a : ℕ) → is_string s a ≡ true → within c.terms a ≡ true
  string-within a e = rw (table-length (λ i. term_at t (suc i)) c.terms) at (string-term s a e)

  pub roots-closed : Closed (class_up (terms_view t c.terms)) c.terms
  roots-closed = ready_roots (lent t able.cells h able.reasons able.keys) c able.ready.audited.classed
