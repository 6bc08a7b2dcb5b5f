-- Making the constant of a list of constants.
use mathlib.Core.Path.{◌≡◌, refl, sym, ap, subst, ◌∙◌}
use mathlib.Core.Bool.{Bool, true, false, not}
use mathlib.Core.List.{List}
use Prim.Native.Nat.{ℕ, suc, ◌+◌, ◌≤◌}
use native.Mathlib.Omega.{arith}
use lib.ListN.{length}
use lib.Dec.{leb}
use borrow.Author.Tests.{eqb-true}
use Rattle.records.specs.declared.State.{State}
use Rattle.records.specs.Lists.{all, concat_map, Every}
use Rattle.records.specs.Store.{Out, within, is_constant, kind, term_in, text_in, text}
use Rattle.records.specs.View.{lent, Lent, store_of, char_room, term_at, text_at, terms_view, chars_view, lengths}
use Rattle.records.specs.Rules.{is_char}
use Rattle.records.specs.Make.{make_constant}
use Rattle.records.specs.Index.{bucket_of}
use Rattle.records.specs.Working.Indexing.{Searchable}
use Rattle.records.specs.Working.Leaves.{has_text, make_text}
use Rattle.records.specs.Working.Puts.{TextsWithin}
use Rattle.records.specs.Working.Audited.{Ready}
use Rattle.records.specs.Working.Doing.{Working, Building}
use Rattle.records.proofs.Lists.{within_low, within-high, all_every, every_map, concat_map-same, all-concat_map, table-length}
use Rattle.records.proofs.Views.{term_is, text-span}
use Rattle.records.proofs.Grown.{kind-term}
use Rattle.records.proofs.Readings.{text-characters}
use Rattle.records.proofs.Doing.{working_is}
use Rattle.records.proofs.Refines.JoinedTexts.{lengths-concat_map}
use Rattle.records.proofs.Refines.Making.{text_searchable, constant-made, long-room}

-- CONSTANTS of the store

module _ {t e h r ks : List ℕ} {c : State} (ready : Ready (lent t e h r ks) c) where
  pub record Held (x : ℕ) : Type 0 where
    pub within : (term_at t x).first + (term_at t x).second ≤ c.chars
    pub same : text_at t h x ≡ text (store_of (lent t e h r ks) c) x

  held : (x : ℕ) → is_constant (store_of (lent t e h r ks) c) x ≡ true → Held x
  held x q = record { within = fits; same = sym (ap (text_in (chars_view h c.chars)) is ∙ text-span h c.chars (term_at t x) fits) }
    where
      k : kind (store_of (lent t e h r ks) c) x ≡ 1
      k = eqb-true _ _ q

      is : term_in (terms_view t c.terms) x ≡ term_at t x
      is =
          let n = table-length (λ i. term_at t (suc i)) c.terms in
          let p = kind-term (store_of (lent t e h r ks) c) x 0 k in
          let q = within-high _ x p in
          term_is t c.terms x (within_low _ x p) (omega arith)

      fits : (term_at t x).first + (term_at t x).second ≤ c.chars
      fits = rw table-length at (rw is at (ready.audited.recorded.constants x k))

  module _ (ts : List ℕ) (constants : all (is_constant (store_of (lent t e h r ks) c)) ts ≡ true) where
    each : Every Held ts
    each = every_map held (all_every (is_constant (store_of (lent t e h r ks) c)) ts constants)

    pub texts_counted : TextsWithin t c.chars ts
    texts_counted = every_map (λ x a. a.within) each

    pub texts_there : TextsWithin t (length h) ts
    texts_there = every_map (λ x a. let w = a.within in let s = ready.sized.char_room in omega arith) each

    -- the constant of the joined texts is looked for in its bucket
    pub joined_searchable : (b : ℕ) → b ≡ bucket_of 1 (concat_map (text_at t h) ts) → Searchable t c.terms b (has_text t h 1 (concat_map (text_at t h) ts))
    unfolding within
    joined_searchable b q = subst (λ (x : ℕ). Searchable t c.terms x (has_text t h 1 (concat_map (text_at t h) ts))) (sym q) (text_searchable (lent t e h r ks) c 1 (concat_map (text_at t h) ts) ready refl)

    pub joined_made : {m : Lent} {o : Out ℕ} → Building (make_text 1 (concat_map (text_at t h) ts)) (lent t e h r ks) m c o
        → Working (λ s. make_constant (concat_map (text s) ts) s) (lent t e h r ks) m c o
    joined_made w =
        let s = store_of (lent t e h r ks) c in
        let p = concat_map-same (text_at t h) (text s) (every_map (λ x a. a.same) each) in
        let good : all is_char (concat_map (text_at t h) ts) ≡ true = ap (all is_char) p ∙ all-concat_map is_char (text s) ts (text-characters s ready.audited.recorded) in
        working_is (ap (λ (u : List ℕ). make_constant u s) (sym p)) (constant-made (concat_map (text_at t h) ts) ready good w)

-- the counted length is that of the joined word, and fits where the test says so
module _ {t e h r ks : List ℕ} {c : State} (ready : Ready (lent t e h r ks) c) (ts : List ℕ) (total : ℕ) (sum : total ≡ lengths t ts) where
  pub total_long : total ≡ length (concat_map (text_at t h) ts)
  total_long = sum ∙ sym (lengths-concat_map t h ts)

  pub total_room : (f : Bool) → not f ≡ false → f ≡ leb (c.chars + total) (char_room h) → c.chars + lengths t ts ≤ length h
  total_room f q e = rw sum at (long-room ready.sized f q total e)
