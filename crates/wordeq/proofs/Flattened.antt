-- A list flattened into a slice: what `flatten` answers for the list. A list with no concatenation is flat.
use mathlib.Core.Path.{◌≡◌, refl, sym, ap, ◌∙◌}
use mathlib.Core.Bool.{Bool, true, false, ◌||◌}
use mathlib.Core.List.{List, [], ◌∷◌, ◌++◌}
use Prim.Native.Nat.{ℕ, ◌≤◌, ◌<◌}
use native.Mathlib.Omega.{arith}
use lib.ListN.{length, take, length-take}
use lib.Dec.{leb}
use borrow.Author.Tests.{le-leb}
use Rattle.records.specs.declared.State.{State}
use Rattle.records.specs.Lists.{any, concat_map}
use Rattle.records.specs.Store.{Store, ok, stop, is_concat}
use Rattle.records.specs.View.{Lent, store_of}
use Rattle.records.specs.Rules.{list_limit, is_list}
use Rattle.records.specs.Working.Audited.{Ready}
use Rattle.records.proofs.Lists.{concat_map-same, both_true, both_right, every_all, every_map, or_left, clash, decide}
use Rattle.normalize.specs.Normalize.{atoms, flatten}
use Rattle.normalize.specs.Working.Flat.{bare, Appended}
use Rattle.normalize.proofs.Atoms.{every_of, atoms-plain, same-atoms, flatten-fits, flatten-full, flatten-atoms}

-- neither of two
pub neither_left : (a b : Bool) → a || b ≡ false → a ≡ false
neither_left false b e = refl
neither_left true b e = clash refl e

pub neither_right : (a b : Bool) → a || b ≡ false → b ≡ false
neither_right false b e = e
neither_right true b e = clash refl e

-- a list with no concatenation is flat
pub plain_flat : (s : Store) (l : List ℕ) → any (is_concat s) l ≡ false → concat_map (atoms s) l ≡ l
unfolding any concat_map
plain_flat s [] e = refl
plain_flat s (a ∷ l) e =
    decide (is_concat s a)
    (λ q. clash (or_left (is_concat s a) (any (is_concat s) l) q) e)
    (λ q. ap (λ (x : List ℕ). x ++ concat_map (atoms s) l) (atoms-plain s a q) ∙ ap (λ (x : List ℕ). a ∷ x) (plain_flat s l (neither_right (is_concat s a) _ e)))

module _ {m : Lent} {c : State} (ready : Ready m c) (l out out' : List ℕ) (n : ℕ) (a : Appended out out' 0 (concat_map (atoms (bare m.terms c.terms m.cells c.cells)) l) n) where
  abbrev s : Store
  s = store_of m c

  atoms_are : concat_map (atoms s) l ≡ concat_map (atoms (bare m.terms c.terms m.cells c.cells)) l
  atoms_are = sym (concat_map-same (λ t. atoms (bare m.terms c.terms m.cells c.cells) t) (λ t. atoms s t) (every_of l (λ t. same-atoms s (bare m.terms c.terms m.cells c.cells) refl refl t)))

  pub list-passes : list_limit < n → flatten l s ≡ stop 6
  list-passes h = let e = ap length atoms_are in let p = a.passes h in flatten-full l s (omega arith)

  module _ (h : n ≤ list_limit) (room : list_limit ≤ length out') where
    list-is : concat_map (atoms s) l ≡ take n out'
    list-is = atoms_are ∙ sym (a.fits h)

    short : length (take n out') ≤ list_limit
    short = let k = length-take n out' in omega arith

    pub list-says : flatten l s ≡ ok s (take n out')
    list-says = flatten-fits l s (let e = ap length list-is in let k = short in omega arith) ∙ ap (λ (x : List ℕ). ok s x) list-is

    pub list-flat : is_list s l ≡ true → is_list s (take n out') ≡ true
    list-flat e =
        both_true _ _ (le-leb (length (take n out')) list_limit short)
        (every_all (every_map (λ x k. k.string) (flatten-atoms l s s (take n out') ready.audited (both_right (leb (length l) list_limit) _ e) list-says)))
