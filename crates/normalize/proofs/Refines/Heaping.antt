-- A loop that pushes, one atom a turn: what is left of the work, done from here after the list so far, is the whole of it.
use mathlib.Core.Path.{◌≡◌, refl, sym, ap, ◌∙◌}
use mathlib.Core.List.{List, [], ◌∷◌, reverse}
use Prim.Native.Nat.{ℕ, ◌+◌, ◌≤◌}
use native.Mathlib.Omega.{arith}
use lib.ListN.{length-reverse}
use Rattle.records.specs.declared.State.{State}
use Rattle.records.specs.Lists.{table, none_left}
use Rattle.records.specs.Store.{Out, ok, stop, Work, and_then}
use Rattle.records.specs.View.{Lent, store_of}
use Rattle.records.specs.Working.Audited.{Ready}
use Rattle.records.specs.Working.Doing.{Working}
use Rattle.records.proofs.Doing.{working_stopped, working_left}
use Rattle.records.proofs.Grown.{Strings}
use Rattle.normalize.specs.Calls.{first_words}
use Rattle.normalize.proofs.FormOutcomes.{Ends}
use Rattle.normalize.proofs.Formed.{Pushed}
use Rattle.normalize.proofs.Carried.{Carried, carried_none, carried-kept, carried-then}
use Rattle.normalize.proofs.Refines.Words.{words-length}

-- the work that is left after i turns and a list, which stands last atom first
module _ (left : ℕ → List ℕ → Work (List ℕ)) where
  pub record Heaping (m₀ : Lent) (c : State) (m : Lent) (d : State) (out : List ℕ) (k i : ℕ) : Type 0 where
    pub carried : Carried m₀ c m d
    pub strings : Strings (store_of m d) (reverse (reverse (first_words out k)))
    pub rest : left i (reverse (first_words out k)) (store_of m d) ≡ left 0 [] (store_of m₀ c)
    pub low : k ≤ i

  pub heaping_none : {m : Lent} {c : State} (out : List ℕ) → Ready m c → Heaping m c m c out 0 0
  unfolding table
  heaping_none out r = record { carried = carried_none r; strings = none_left; rest = refl; low = omega arith }

  module _ {m₀ m : Lent} {c d : State} {out : List ℕ} {k i : ℕ} (g : Heaping m₀ c m d out k i) where
    abbrev so : List ℕ
    so = reverse (first_words out k)

    pub heaping_end : left i so (store_of m d) ≡ ok (store_of m d) so → Working (left 0 []) m₀ m c (ok (store_of m d) so)
    heaping_end z = working_left g.carried.ready (sym g.rest ∙ z) g.carried.kept

    -- the work of turn i, by which the atom a is pushed
    module _ (one : Work (List ℕ)) (a : ℕ) (next : left i so (store_of m d) ≡ and_then (left (i + 1)) (one (store_of m d)))
        (ends : Ends (λ s' out'. Pushed (store_of m d) s' (a ∷ []) so out') (one (store_of m d)))
        {m' : Lent} where
      rest_is : {o : Out (List ℕ)} → Working one m m' d o → and_then (left (i + 1)) o ≡ left 0 [] (store_of m₀ c)
      rest_is w = ap (and_then (left (i + 1))) (sym w.says) ∙ sym next ∙ g.rest

      pub heaping_turn : (out' : List ℕ) (j : ℕ) (d' : State) → Working one m m' d (ok (store_of m' d') (reverse (first_words out' j))) → Heaping m₀ c m' d' out' j (i + 1)
      heaping_turn out' j d' w =
          let f = ends.given (store_of m' d') (reverse (first_words out' j)) w.says in
          let l = f.long in
          let u = length-reverse (first_words out' j) in
          let v = words-length out' j in
          let u' = length-reverse (first_words out k) in
          let v' = words-length out k in
          let b = g.low in
          record {
            carried = carried-then g.carried m' d' w.kept f.list.later (w.ready d' (reverse (first_words out' j)) refl);
            strings = f.list.strings;
            rest = rest_is w;
            low = omega arith;
          }

      pub heaping_stopped : {j : ℕ} → Working one m m' d (stop j) → Working (left 0 []) m₀ m' c (stop j)
      heaping_stopped w = working_stopped (sym (rest_is w)) (carried-kept g.carried m' w.kept)
