-- The ways of replacing an atom, and of the loop over the atoms.
use Rattle.std.specs.Prelude.{if◌then◌else◌}
use mathlib.Core.Path.{◌≡◌, refl, sym, ap, subst, ◌∙◌}
use mathlib.Core.Bool.{true, ◌&&◌}
use mathlib.Core.List.{List, [], ◌∷◌, ◌++◌, reverse}
use Prim.Native.Nat.{ℕ, suc, ◌+◌, ◌≤◌, ◌<◌}
use native.Mathlib.Numerals.{add-one}
use native.Mathlib.Omega.{arith}
use lib.ListN.{length, drop, get_or, drop_of_length-le}
use lib.Seq.{drop-cons}
use lib.Dec.{eqb}
use borrow.Author.Tests.{eq-eqb, ne_eqb}
use Rattle.records.specs.declared.State.{State}
use Rattle.records.specs.Store.{Store, Out, ok, stop, Work, and_then, ◌>>=◌, give, within, is_string}
use Rattle.records.specs.View.{Lent, store_of, terms_view}
use Rattle.records.specs.Working.Audited.{Ready}
use Rattle.records.specs.Working.Doing.{Working}
use Rattle.records.proofs.Lists.{all_every, every_right, both_left, both_right, both_true, every_at}
use Rattle.records.proofs.Grown.{string-term, strings-later}
use Rattle.records.proofs.Climbs.{view_count, term-within}
use Rattle.records.proofs.Doing.{working_same, working_is}
use Rattle.records.proofs.Sequence.{working_stop}
use Rattle.engine.specs.Explain.{explain, explain_arguments}
use Rattle.normalize.specs.Normalize.{representative, substitute, push, push_forms}
use Rattle.normalize.specs.Working.Nodes.{node_at}
use Rattle.normalize.specs.Working.Pushes.{Candidates, cite, push_for}
use Rattle.normalize.specs.Calls.{first_words}
use Rattle.normalize.proofs.Candidates.{later-strings, later_rep}
use Rattle.normalize.proofs.FormOutcomes.{Ends}
use Rattle.normalize.proofs.Formed.{Stands, representative-stands, replace_ends, atom-ends, Pushed}
use Rattle.normalize.proofs.Carried.{Carried, carried_none, carried-then, carried_on}
use Rattle.normalize.proofs.Refines.Heaping.{Heaping, heaping_end, heaping_turn, heaping_stopped}

-- CITING

pub cite-same : {m : Lent} {c : State} → Ready m c → (a r : ℕ) → r ≡ a → Working (cite a r) m m c (ok (store_of m c) tt)
unfolding cite
cite-same ready a r e = working_same ready (rw (eq-eqb r a e))

pub cite-other : {m m' : Lent} {c : State} (a r : ℕ) {o : Out (Unit {0})} → (r ≡ a → ⊥) → Working (explain a r) m m' c o → Working (cite a r) m m' c o
unfolding cite
cite-other a r d w = working_is (rw (ne_eqb r a d)) w

module _ {m m' : Lent} {c : State} (a r : ℕ) (out : List ℕ) where
  pub push_for-stopped : {k : ℕ} → Working (cite a r) m m' c (stop k) → Working (push_for a r out) m m' c (stop k)
  unfolding push_for
  push_for-stopped w = working_stop (λ u. push r out) w

  module _ (ready : Ready m c) (args : explain_arguments a r (store_of m c) ≡ true) (d : State) (w : Working (cite a r) m m' c (ok (store_of m' d) tt)) where
    abbrev s : Store
    s = store_of m c

    cited-carried : Carried m c m' d
    unfolding cite
    cited-carried =
        let b = both_left (is_string s a && is_string s r) _ args in
        let st : Stands s a r = record { string = both_right (is_string s a) _ b; class = both_right (is_string s a && is_string s r) _ args } in
        let h = (replace_ends a r s ready.audited (both_left (is_string s a) _ b) st).given (store_of m' d) tt w.says in
        carried-then (carried_none ready) m' d w.kept h.later (w.ready d tt refl)

    pub push_for-done : {m'' : Lent} {o : Out (List ℕ)} → Working (push r out) m' m'' d o → Working (push_for a r out) m m'' c o
    unfolding push_for
    push_for-done v = carried_on cited-carried (λ u. push r out) w v

-- THE LOOP

-- an atom replaced and pushed, in two ways of saying it
pub for_is : (cs : List ℕ) (a : ℕ) (out : List ℕ) (s : Store) → (substitute cs a >>= (λ r. push r out)) s ≡ push_for a (representative s cs a) out s
unfolding substitute push_for cite
for_is cs a out s = go ((if eqb (representative s cs a) a then give tt else explain a (representative s cs a)) s)
  where
    go : (o : Out (Unit {0})) → and_then (λ r. push r out) (and_then (λ u. give (representative s cs a)) o) ≡ and_then (λ u. push (representative s cs a) out) o
    go (ok s₁ u) = refl
    go (stop n) = refl

-- the work that is left after i atoms
abbrev pub forms_left : List ℕ → List ℕ → ℕ → List ℕ → Work (List ℕ)
forms_left cs flat i out = push_forms cs (drop i flat) out

module _ (known flat : List ℕ) {m₀ m : Lent} {c d : State} {list : List ℕ} {count i : ℕ} (g : Heaping (forms_left (known ++ flat) flat) m₀ c m d list count i)
    (table : List ℕ) (k : Candidates (store_of m₀ c) (known ++ flat) table) (h : i < length flat) where
  abbrev cs : List ℕ
  cs = known ++ flat

  abbrev st : Store
  st = store_of m d

  abbrev a : ℕ
  a = get_or flat i 0

  abbrev out : List ℕ
  out = reverse (first_words list count)

  string : is_string st a ≡ true
  string = every_at flat i 0 (strings-later g.carried.later.grown (every_right known flat (all_every (is_string (store_of m₀ c)) cs k.strings))) h

  pub rep_counted : within d.terms a ≡ true
  rep_counted = term-within m d a (string-term st a string)

  module _ (r : ℕ) (e : r ≡ node_at (terms_view m.terms d.terms) table a) where
    rep_is : r ≡ representative st cs a
    rep_is = e ∙ later_rep k g.carried.later a string (let z = view_count m.terms d.terms in let y = g.carried.ready.sized.term_limited in omega arith)

    pub for_arguments : explain_arguments a r st ≡ true
    for_arguments =
        let s = representative-stands st cs a (later-strings k g.carried.later) string in
        subst (λ (x : ℕ). explain_arguments a x st ≡ true) (sym rep_is) (both_true _ _ (both_true _ _ string s.string) s.class)

    atom-is : (substitute cs a >>= (λ u. push u out)) st ≡ push_for a r out st
    atom-is = for_is cs a out st ∙ ap (λ (u : ℕ). push_for a u out st) (sym rep_is)

    next : forms_left cs flat i out st ≡ and_then (forms_left cs flat (i + 1)) (push_for a r out st)
    unfolding push_forms
    next = rw (drop-cons flat i 0 h, add-one i) (ap (and_then (push_forms cs (drop (suc i) flat))) atom-is)

    atom-pushed : Ends (λ s' out'. Pushed st s' (a ∷ []) out out') (push_for a r out st)
    atom-pushed = subst (Ends (λ s' out'. Pushed st s' (a ∷ []) out out')) atom-is (atom-ends cs a out st g.carried.later.audited (later-strings k g.carried.later) string g.strings)

    module _ {m' : Lent} where
      pub forms_turn : (list' : List ℕ) (n : ℕ) (d' : State) → Working (push_for a r out) m m' d (ok (store_of m' d') (reverse (first_words list' n))) → Heaping (forms_left cs flat) m₀ c m' d' list' n (i + 1)
      forms_turn = heaping_turn (forms_left cs flat) g (push_for a r out) a next atom-pushed

      pub forms_stopped : {j : ℕ} → Working (push_for a r out) m m' d (stop j) → Working (push_forms cs flat []) m₀ m' c (stop j)
      forms_stopped = heaping_stopped (forms_left cs flat) g (push_for a r out) a next atom-pushed

pub forms_done : (cs flat : List ℕ) {m₀ m : Lent} {c d : State} {list : List ℕ} {count i : ℕ} → Heaping (forms_left cs flat) m₀ c m d list count i → length flat ≤ i → Working (push_forms cs flat []) m₀ m c (ok (store_of m d) (reverse (first_words list count)))
unfolding push_forms
forms_done cs flat g h = heaping_end (forms_left cs flat) g (rw (drop_of_length-le flat h))
