-- Tables of the same terms: kind, first and second of each are the same, whatever edges and class parents they have. What refusal 2 asks is
-- asked of these words alone.
use mathlib.Core.Path.{◌≡◌, refl, sym, ap, subst, ◌∙◌}
use mathlib.Core.Bool.{true}
use mathlib.Core.List.{List}
use Prim.Native.Nat.{ℕ, ◌≤◌, ◌<◌}
use native.Mathlib.Omega.{arith}
use lib.ListN.{length}
use Rattle.records.specs.Lists.{Every, firsts}
use Rattle.records.specs.Store.{Term, Store, term_in, term, kind, within, is_term, is_string, text_in, text, chain_in, chain}
use Rattle.records.specs.Index.{bucket}
use Rattle.records.specs.Rules.{key_rule, is_equatable}
use Rattle.records.specs.Make.{with_terms, with_class}
use Rattle.records.specs.Working.Audited.{Part, Recorded, Roomy}
use Rattle.records.proofs.Lists.{every_map, all_every, every_all}
use Rattle.records.proofs.IndexStores.{bucket-words}
use Rattle.classes.specs.Joins.{Edge, bearing, put_edge, put_class}
use Rattle.classes.proofs.Tables.{edge-long, edge-words, class-long, class-words}

-- f reads no edge and no class parent
pub record Plain (f : Term → ℕ) : Type 0 where
  pub edges : (y : Term) (e : Edge) → f (bearing y e) ≡ f y
  pub classes : (y : Term) (p : ℕ) → f (with_class y p) ≡ f y

pub record Like (ts us : List Term) : Type 0 where
  pub long : length us ≡ length ts
  pub words : (f : Term → ℕ) → Plain f → (t : ℕ) → f (term_in us t) ≡ f (term_in ts t)

pub like-none : (ts : List Term) → Like ts ts
like-none ts = record { long = refl; words = λ f p t. refl }

pub like-then : {ts us vs : List Term} → Like ts us → Like us vs → Like ts vs
like-then k l = record { long = l.long ∙ k.long; words = λ f p t. l.words f p t ∙ k.words f p t }

pub like-edge : (ts : List Term) (t : ℕ) (e : Edge) → within (length ts) t ≡ true → Like ts (put_edge ts t e)
like-edge ts t e w = record { long = edge-long ts t e; words = λ f p u. edge-words ts t e w f (λ y. p.edges y e) u }

pub like-class : (ts : List Term) (t q : ℕ) → within (length ts) t ≡ true → Like ts (put_class ts t q)
like-class ts t q w = record { long = class-long ts t q; words = λ f p u. class-words ts t q w f (λ y. p.classes y q) u }

-- A STORE WITH SUCH A TABLE

module _ (s : Store) (us : List Term) (l : Like s.terms us) where
  abbrev s' : Store
  s' = with_terms s us

  pub term-like : (t : ℕ) → is_term s' t ≡ is_term s t
  term-like t = ap (λ (n : ℕ). within n t) l.long

  pub kind-like : (t : ℕ) → kind s' t ≡ kind s t
  kind-like = l.words (λ x. x.kind) (record { edges = λ y e. refl; classes = λ y p. refl })

  pub first-like : (t : ℕ) → (term s' t).first ≡ (term s t).first
  first-like = l.words (λ x. x.first) (record { edges = λ y e. refl; classes = λ y p. refl })

  pub second-like : (t : ℕ) → (term s' t).second ≡ (term s t).second
  second-like = l.words (λ x. x.second) (record { edges = λ y e. refl; classes = λ y p. refl })

  pub string-like : (t : ℕ) → is_string s' t ≡ is_string s t
  string-like t = ap (within 3) (kind-like t)

  pub text-like : (t : ℕ) → text s' t ≡ text s t
  unfolding text_in
  text-like t = rw (first-like t, second-like t)

  -- document 02, Note 9: the bucket of a record reads kind, first and second alone
  pub bucket-like : (t : ℕ) → bucket s' t ≡ bucket s t
  bucket-like t =
      bucket-words s s' t (kind-like t) (first-like t) (second-like t) (text-like t) (ap (λ (f : ℕ). firsts (chain_in s.cells f)) (first-like t))

  pub equatable_like : (x y : ℕ) → is_equatable s' x y ≡ is_equatable s x y
  unfolding is_equatable
  equatable_like x y = rw (kind-like x, kind-like y)

  key_like : (p : ℕ × ℕ) → key_rule s' p ≡ key_rule s p
  unfolding key_rule
  key_like p = rw (kind-like p.0, kind-like p.1)

  was : (t : ℕ) {n : ℕ} → kind s' t ≡ n → kind s t ≡ n
  was t e = sym (kind-like t) ∙ e

  pub recorded-like : Recorded s → Recorded s'
  recorded-like r = record {
    kinds = λ t w. ap (within 5) (kind-like t) ∙ r.kinds t (sym (term-like t) ∙ w);
    constants = λ t e. let h = r.constants t (was t e) in let p = first-like t in let q = second-like t in omega arith;
    variables = λ t e. let h = r.variables t (was t e) in let p = first-like t in let q = second-like t in omega arith;
    long_names = λ t e. let h = r.long_names t (was t e) in let q = second-like t in omega arith;
    unique_names = λ t u e f g. r.unique_names t u (was t e) (was u f) (sym (text-like t) ∙ g ∙ text-like u);
    two_parts = λ t e. subst (λ (x : ℕ). 2 ≤ length (chain s x)) (sym (first-like t)) (r.two_parts t (was t e));
    parts_good = λ t e. subst (λ (x : ℕ). Every (Part s' t) (chain s x)) (sym (first-like t))
        (every_map (λ p h. record { string = string-like p.0 ∙ h.string; lower = h.lower; plain = h.plain }) (r.parts_good t (was t e)));
    concat_second = λ t e. second-like t ∙ r.concat_second t (was t e);
    length_first = λ t e. ap (is_string s') (first-like t) ∙ string-like (term s t).first ∙ r.length_first t (was t e);
    length_lower = λ t e. subst (λ (x : ℕ). x < t) (sym (first-like t)) (r.length_lower t (was t e));
    length_second = λ t e. second-like t ∙ r.length_second t (was t e);
    equation_sides = λ t e. ap (λ (x : ℕ). is_equatable s' x (term s' t).second) (first-like t) ∙ ap (is_equatable s' (term s t).first) (second-like t)
        ∙ equatable_like (term s t).first (term s t).second ∙ r.equation_sides t (was t e);
    equation_first = λ t e. subst (λ (x : ℕ). x < t) (sym (first-like t)) (r.equation_first t (was t e));
    equation_second = λ t e. subst (λ (x : ℕ). x < t) (sym (second-like t)) (r.equation_second t (was t e));
    nexts = r.nexts;
    characters = r.characters;
    reasons = r.reasons;
    keys = every_all (every_map (λ p h. key_like p ∙ h) (all_every (key_rule s) s.keys r.keys));
  }

  pub roomy-like : Roomy s → Roomy s'
  roomy-like r = record { terms = subst (λ (n : ℕ). n ≤ s.room.terms) (sym l.long) r.terms; cells = r.cells; chars = r.chars; reasons = r.reasons; keys = r.keys }
