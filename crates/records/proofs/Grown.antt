-- A store that grew keeps its terms with their texts, parts and classes; words for the larger store are words for the smaller, and words
-- for the smaller extend to the larger.
use mathlib.Core.Path.{◌≡◌, refl, sym, ap, subst, ◌∙◌}
use mathlib.Core.Bool.{true, not}
use mathlib.Core.List.{List, ◌∷◌, Memᴰ}
use Prim.Native.Nat.{ℕ, zero, suc, ◌≤◌, ◌<◌}
use native.Mathlib.Omega.{arith}
use native.Mathlib.Decide.{dec_le}
use lib.ListN.{get_or-eq_default}
use lib.Dec.{eqb}
use Rattle.records.specs.Lists.{Every}
use Rattle.records.specs.Store.{Term, no_term, Store, term_in, term, count, kind, within, is_term, is_string, text, parts, root, is_edge}
use Rattle.records.specs.Meaning.{Words, Reading, EqualEnds, IsUnder, Holds}
use Rattle.records.proofs.Lists.{clash, every_map, within_low, within-high, within-is}

-- NUMBERS OF TERMS

pub term-past : (s : Store) (t : ℕ) → count s < t → term s t ≡ no_term
unfolding term_in
term-past s t h = get_or-eq_default (no_term ∷ s.terms) no_term {n = t} (omega arith)

pub term-zero : (s : Store) → term s 0 ≡ no_term
unfolding term_in
term-zero s = refl

-- a number whose record has a word that is not 0 names a term
pub used : (f : Term → ℕ) → f no_term ≡ 0 → (s : Store) (t k : ℕ) → f (term s t) ≡ suc k → is_term s t ≡ true
used f z s zero k e = let q : ◌≡◌ {A = ℕ} 0 (suc k) = sym z ∙ ap f (sym (term-zero s)) ∙ e in absurd (omega arith)
used f z s (suc t) k e = go (dec_le (suc t) (count s))
  where
    go : Dec (suc t ≤ count s) → is_term s (suc t) ≡ true
    go (yes h) = within-is (count s) (suc t) (omega arith) h
    go (no h) =
        let p = term-past s (suc t) (omega arith) in
        let q : ◌≡◌ {A = ℕ} 0 (suc k) = sym z ∙ ap f (sym p) ∙ e in absurd (omega arith)

pub kind-term : (s : Store) (t k : ℕ) → kind s t ≡ suc k → is_term s t ≡ true
kind-term = used (λ x. x.kind) refl

pub present : (s : Store) (t k : ℕ) → kind s t ≡ suc k → t ≤ count s
present s t k e = within-high (count s) t (kind-term s t k e)

pub string-term : (s : Store) (t : ℕ) → is_string s t ≡ true → is_term s t ≡ true
string-term s t e = go (kind s t) refl (within_low 3 (kind s t) e)
  where
    go : (k : ℕ) → kind s t ≡ k → 0 < k → is_term s t ≡ true
    go zero p h = absurd (omega arith)
    go (suc k) p h = kind-term s t k p

pub string-here : (s : Store) (t : ℕ) → is_string s t ≡ true → t ≤ count s
string-here s t e = within-high (count s) t (string-term s t e)

-- GROWTH

-- words for s' that agree with w on the terms of s
pub record Extends (s s' : Store) (w : Words) : Type 0 where
  pub words : Words
  pub reading : Reading s' words
  pub agree : (t : ℕ) → t ≤ count s → words t ≡ w t
  pub held : (rs : List (ℕ × ℕ)) → Holds s rs w → Holds s' rs words

pub record Grown (s s' : Store) : Type 0 where
  pub more : count s ≤ count s'
  pub old : (t : ℕ) → t ≤ count s → term s' t ≡ term s t
  pub constants : (t : ℕ) → kind s t ≡ 1 → text s' t ≡ text s t
  pub variables : (t : ℕ) → kind s t ≡ 2 → text s' t ≡ text s t
  pub concats : (t : ℕ) → kind s t ≡ 3 → parts s' t ≡ parts s t
  pub roots : (t : ℕ) → is_term s t ≡ true → root s' t ≡ root s t
  pub down : (w : Words) → Reading s' w → Reading s w
  pub holds : (w : Words) (rs : List (ℕ × ℕ)) → Holds s rs w → Holds s' rs w
  pub extend : (w : Words) → Reading s w → Extends s s' w

-- no variable more
abbrev pub OldVariables : Store → Store → Type 0
OldVariables s s' = (t : ℕ) → kind s' t ≡ 2 → kind s t ≡ 2

pub grown-none : (s : Store) → Grown s s
grown-none s = record {
  more = omega arith;
  old = λ t h. refl;
  constants = λ t e. refl;
  variables = λ t e. refl;
  concats = λ t e. refl;
  roots = λ t e. refl;
  down = λ w r. r;
  holds = λ w rs h. h;
  extend = λ w r. record { words = w; reading = r; agree = λ t h. refl; held = λ rs h. h };
}

-- a term keeps its kind
pub grown-kind : {s s' : Store} → Grown s s' → (t k : ℕ) → kind s t ≡ suc k → kind s' t ≡ suc k
grown-kind {s} {s'} g t k e = ap (λ (x : Term). x.kind) (g.old t (present s t k e)) ∙ e

pub grown-term : {s s' : Store} → Grown s s' → (t : ℕ) → is_term s t ≡ true → is_term s' t ≡ true
grown-term {s} {s'} g t e =
    let m = g.more in let h = within-high (count s) t e in within-is (count s') t (within_low (count s) t e) (omega arith)

pub grown-string : {s s' : Store} → Grown s s' → (t : ℕ) → is_string s t ≡ true → is_string s' t ≡ true
grown-string {s} {s'} g t e = ap (λ (x : Term). within 3 x.kind) (g.old t (string-here s t e)) ∙ e

pub grown-then : {s s₁ s₂ : Store} → Grown s s₁ → Grown s₁ s₂ → Grown s s₂
grown-then {s} {s₁} {s₂} p q = record {
  more = (let a = p.more in let b = q.more in omega arith);
  old = λ t h. let a = p.more in q.old t (omega arith) ∙ p.old t h;
  constants = λ t e. q.constants t (grown-kind p t 0 e) ∙ p.constants t e;
  variables = λ t e. q.variables t (grown-kind p t 1 e) ∙ p.variables t e;
  concats = λ t e. q.concats t (grown-kind p t 2 e) ∙ p.concats t e;
  roots = λ t e. q.roots t (grown-term p t e) ∙ p.roots t e;
  down = λ w r. p.down w (q.down w r);
  holds = λ w rs h. q.holds w rs (p.holds w rs h);
  extend = λ w r.
      let x = p.extend w r in
      let y = q.extend x.words x.reading in
      record {
        words = y.words;
        reading = y.reading;
        agree = λ t h. let a = p.more in y.agree t (omega arith) ∙ x.agree t h;
        held = λ rs h. y.held rs (x.held rs h);
      };
}

-- what holds of the edges later on holds of those before
module _ {s s' : Store} {w : Words} (g : Grown s s') where
  edge-before : (Q : Term → Type 0) → (Q no_term → ⊥) → ((t : ℕ) → is_edge s' t ≡ true → Q (term s' t) → EqualEnds s' w t) → (t : ℕ) → is_edge s t ≡ true → Q (term s t) → EqualEnds s w t
  edge-before Q none held t i q = go (dec_le t (count s))
    where
      go : Dec (t ≤ count s) → EqualEnds s w t
      go (yes l) =
          let e = g.old t l in
          held t (ap (λ (x : Term). not (eqb x.forest_parent t)) e ∙ i) (subst Q (sym e) q) ∙ ap (λ (x : Term). w x.forest_parent) e
      go (no l) = absurd (none (subst Q (term-past s t (omega arith)) q))

  pub holds-before : (rs : List (ℕ × ℕ)) → Holds s' rs w → Holds s rs w
  holds-before rs h = record {
    merges = edge-before (λ x. x.label_kind ≡ 4) (λ e. omega arith) h.merges;
    reasons = edge-before (IsUnder rs) (λ u. clash u.labelled refl) h.reasons;
  }

-- fewer reasons hold
pub holds-fewer : {s : Store} {w : Words} {l m : List (ℕ × ℕ)} → ((r : ℕ × ℕ) → Memᴰ r l → Memᴰ r m) → Holds s m w → Holds s l w
holds-fewer f h = record { merges = h.merges; reasons = λ t e k. h.reasons t e (record { labelled = k.labelled; listed = f _ k.listed }) }

-- LISTS OF STRING TERMS

abbrev pub Strings : Store → List ℕ → Type 0
Strings s l = Every (λ a. is_string s a ≡ true) l

pub strings-later : {s s' : Store} {l : List ℕ} → Grown s s' → Strings s l → Strings s' l
strings-later g k = every_map (grown-string g) k
