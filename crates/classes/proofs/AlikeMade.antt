-- Making a term looks at no class and no edge: what can be made over a table can be made over a table of the same terms, and the two are
-- again of the same terms.
use mathlib.Core.Path.{◌≡◌, refl, sym, ap, subst, ◌∙◌}
use mathlib.Core.List.{List}
use Prim.Native.Nat.{ℕ, suc}
use native.Mathlib.Omega.{arith}
use lib.ListN.{length}
use Rattle.records.specs.Lists.{one_more}
use Rattle.records.specs.Store.{Term, Cell, Store, term_in, term, count, text_in}
use Rattle.records.specs.Make.{own, with_terms}
use Rattle.records.proofs.Lists.{every_map}
use Rattle.records.proofs.Grown.{term-past}
use Rattle.records.proofs.Append
use Rattle.records.proofs.Append.{grow, More, New}
use Rattle.classes.proofs.Alike.{Plain, Like, kind-like, text-like, string-like, equatable_like}

module _ (s : Store) (us : List Term) (l : Like s.terms us) (ds : List Cell) (hs : List ℕ) (k a b : ℕ) where
  abbrev s' : Store
  s' = with_terms s us

  pub more-like : More s ds hs → More s' ds hs
  more-like m = record { cells = m.cells; ascends = m.ascends; chars = m.chars; texts = m.texts; characters = m.characters }

  own-text : (n m : ℕ) → text_in hs (own n 2 a b) ≡ text_in hs (own m 2 a b)
  unfolding text_in
  own-text n m = refl

  pub new-like : New s ds hs k a b → New s' ds hs k a b
  new-like n = record {
    kinds = n.kinds;
    constant = n.constant;
    variable = λ e. let v = n.variable e in
        record { fits = v.fits; long = v.long; unique = λ t q r. v.unique t (sym (kind-like s us l t) ∙ q) (sym (text-like s us l t) ∙ r ∙ own-text (suc (length us)) (suc (count s))) };
    concat = λ e. let v = n.concat e in record { two = v.two; strings = every_map (λ p h. string-like s us l p.0 ∙ h) v.strings; plain = v.plain; second = v.second };
    length_of_term = λ e. let v = n.length_of_term e in record { string = string-like s us l a ∙ v.string; second = v.second };
    equation = λ e. equatable_like s us l a b ∙ n.equation e;
    room = record { terms = (let h = n.room.terms in let e = l.long in omega arith); cells = n.room.cells; chars = n.room.chars };
  }

  abbrev new : List Term
  new = one_more us (own (suc (length us)) k a b)

  long : length us ≡ count s
  long = l.long

  pub grow_like : Like (grow s ds hs k a b).terms new
  grow_like = record { long = (let p = Append.longer s ds hs k a b in let q = Append.longer s' ds hs k a b in let e = long in omega arith); words = each }
    where
      each : (f : Term → ℕ) → Plain f → (t : ℕ) → f (term_in new t) ≡ f (term (grow s ds hs k a b) t)
      each f p = Append.each_number s ds hs k a b {P = λ t. f (term_in new t) ≡ f (term (grow s ds hs k a b) t)}
          (λ t i. ap f (Append.old-term s' ds hs k a b t (let e = long in omega arith)) ∙ l.words f p t ∙ sym (ap f (Append.old-term s ds hs k a b t i)))
          (subst (λ (n : ℕ). f (term_in new (suc n)) ≡ f (own (suc n) k a b)) long (ap f (Append.new_term s' ds hs k a b)) ∙ sym (ap f (Append.new_term s ds hs k a b)))
          (λ t i. ap f (term-past (grow s' ds hs k a b) t (let q = Append.longer s' ds hs k a b in let e = long in omega arith))
          ∙ sym (ap f (term-past (grow s ds hs k a b) t (let q = Append.longer s ds hs k a b in omega arith))))
