-- The ways of a normal form: a list that passes the limit, and the atoms pushed.
use mathlib.Core.Path.{◌≡◌, refl, sym, ap, subst, ◌∙◌}
use mathlib.Core.Bool.{Bool, true, false}
use mathlib.Core.List.{List, [], ◌∷◌, ◌++◌, append-nil, reverse, reverse-reverse}
use Prim.Native.Nat.{ℕ, ◌≤◌, ◌<◌}
use native.Mathlib.Omega.{arith}
use lib.ListN.{length, take, get_or, length-take}
use lib.Dec.{leb}
use Rattle.std.specs.Prelude.{Result, Ok, Err}
use Rattle.records.specs.declared.State.{State}
use Rattle.records.specs.declared.refusal.Refusal.{Refusal}
use Rattle.records.specs.Lists.{all, concat_map, Every, none_left, and}
use Rattle.records.specs.Store.{Store, ok, stop, and_then, ◌>>=◌, give, is_concat, count, within, root_in, is_string}
use Rattle.records.specs.View.{Lent, store_of, terms_view, term_limit}
use Rattle.records.specs.Working.Audited.{Ready}
use Rattle.records.specs.Working.Doing.{Working}
use Rattle.records.proofs.Lists.{both_right, both_true, all_append, all_every, every_all, every_map, within_low, within-high}
use Rattle.records.proofs.Grown.{string-term}
use Rattle.records.proofs.Climbs.{root-term, view_count, term-within, ready_roots}
use Rattle.records.proofs.IndexStores.{keeps_same}
use Rattle.records.proofs.Doing.{working_stopped, working_is, working_left}
use Rattle.records.proofs.Sequence.{working_stop}
use Rattle.normalize.specs.Normalize.{atoms, push_forms, normal_form}
use Rattle.records.specs.Rules.{list_limit, is_list}
use Rattle.normalize.specs.Working.Flat.{bare, Appended}
use Rattle.normalize.specs.Working.Nodes.{NodeOf, with_nodes, Rooting}
use Rattle.normalize.specs.Working.Pushes.{pushed, Candidates}
use Rattle.normalize.specs.Calls.{first_words, formed}
use Rattle.normalize.proofs.Atoms.{same-atoms, atoms-plain, atoms-strings, flatten-fits, flatten-full}
use Rattle.normalize.proofs.Represents.{nodes-more, nodes-none}

module _ {m : Lent} {c : State} (ready : Ready m c) where
  abbrev s : Store
  s = store_of m c

  pub ready_rooting : Rooting (terms_view m.terms c.terms) c.terms
  ready_rooting = record { stays = ready_roots m c ready.audited.classed; ends = λ t w. ready.audited.classed.class_ends t (rw (view_count m.terms c.terms) w) }

  -- string terms are counted, and their roots are places of the table
  placed : (t : ℕ) → is_string s t ≡ true → (0 < t) × (root_in s.terms t ≤ term_limit)
  placed t e =
      let i = string-term s t e in
      let r = within-high (count s) _ (root-term s ready.audited.classed t i) in
      let z = view_count m.terms c.terms in
      let y = ready.sized.term_limited in
      (within_low (count s) t i, omega arith)

  pub strings-within : (l : List ℕ) → all (is_string s) l ≡ true → Every (λ t. within c.terms t ≡ true) l
  strings-within l e = every_map (λ t i. term-within m c t (string-term s t i)) (all_every (is_string s) l e)

  pub list-strings : (known : List ℕ) → is_list s known ≡ true → all (is_string s) known ≡ true
  list-strings known e = both_right (leb (length known) list_limit) _ e

  -- the table of the known list, and of it and more
  pub known-table : (known table : List ℕ) → is_list s known ≡ true → length table ≡ 513 → ((i : ℕ) → i < length table → get_or table i 0 ≡ 0) → (after : List ℕ) → after ≡ with_nodes s.terms known table → Candidates s known after
  known-table known table e z f after g = record {
    strings = list-strings known e;
    nodes = subst (NodeOf s.terms known) (sym g) (nodes-more s.terms [] known table (nodes-none s.terms table z f) none_left (every_map placed (all_every (is_string s) known (list-strings known e))));
  }

  pub more-table : (known table flat : List ℕ) → Candidates s known table → all (is_string s) flat ≡ true → (after : List ℕ) → after ≡ with_nodes s.terms flat table → Candidates s (known ++ flat) after
  more-table known table flat k e after g = record {
    strings = all_append (is_string s) known flat ∙ both_true _ _ k.strings e;
    nodes = subst (NodeOf s.terms (known ++ flat)) (sym g) (nodes-more s.terms known flat table k.nodes (every_map (λ t i. (placed t i).0) (all_every (is_string s) known k.strings)) (every_map placed (all_every (is_string s) flat e)));
  }

  -- from the atoms on, where they are within the limit
  atoms-done : {m' : Lent} (known : List ℕ) (t : ℕ) (flat list : List ℕ) (x : Result (ℕ × State) Refusal) → concat_map (atoms s) (t ∷ []) ≡ flat → length flat ≤ list_limit → Working (push_forms (known ++ flat) flat []) m m' c (pushed x m' list) → Working (normal_form known t) m m' c (formed x m' list)
  unfolding normal_form
  atoms-done {m'} known t flat list x e h w =
      working_is (ap (and_then (λ l. push_forms (known ++ l) l [] >>= (λ out. give (reverse out)))) (flatten-fits (t ∷ []) s (let k = ap length e in omega arith) ∙ ap (λ (l : List ℕ). ok s l) e)) (turned x w)
    where
      turned : (y : Result (ℕ × State) Refusal) → Working (push_forms (known ++ flat) flat []) m m' c (pushed y m' list) → Working (push_forms (known ++ flat) flat [] >>= (λ out. give (reverse out))) m m' c (formed y m' list)
      turned (Ok y) v = working_left (v.ready y.1 _ refl) (ap (and_then (λ out. give (reverse out))) v.says ∙ ap (λ (z : List ℕ). ok (store_of m' y.1) z) (reverse-reverse (first_words list y.0))) v.kept
      turned (Err e) v = working_stop (λ out. give (reverse out)) v

  -- a term that is no concatenation
  pub one-string : (t : ℕ) → is_string s t ≡ true → all (is_string s) (t ∷ []) ≡ true
  one-string t e = every_all (and e none_left)

  pub one-done : {m' : Lent} (known : List ℕ) (t : ℕ) (list : List ℕ) (x : Result (ℕ × State) Refusal) (b : Bool) → b ≡ is_concat s t → b ≡ false → Working (push_forms (known ++ t ∷ []) (t ∷ []) []) m m' c (pushed x m' list) → Working (normal_form known t) m m' c (formed x m' list)
  unfolding concat_map
  one-done known t list x b i d = atoms-done known t (t ∷ []) list x (append-nil (atoms s t) ∙ atoms-plain s t (sym i ∙ d)) (omega arith)

  -- flattened
  module _ (t : ℕ) (l l' : List ℕ) (n : ℕ) (a : Appended l l' 0 (atoms (bare m.terms c.terms m.cells c.cells) t) n) where
    atoms_are : concat_map (atoms s) (t ∷ []) ≡ atoms (bare m.terms c.terms m.cells c.cells) t
    unfolding concat_map
    atoms_are = append-nil (atoms s t) ∙ sym (same-atoms s (bare m.terms c.terms m.cells c.cells) refl refl t)

    pub form-passes : list_limit < n → (known : List ℕ) → Working (normal_form known t) m m c (stop 6)
    unfolding normal_form
    form-passes h known =
        let e = ap length atoms_are in
        let p = a.passes h in
        working_stopped (ap (and_then (λ flat. push_forms (known ++ flat) flat [] >>= (λ out. give (reverse out)))) (flatten-full (t ∷ []) s (omega arith))) keeps_same

    module _ (h : n ≤ list_limit) where
      flat-is : concat_map (atoms s) (t ∷ []) ≡ take n l'
      flat-is = atoms_are ∙ sym (a.fits h)

      pub flat-length : length (take n l') ≤ list_limit
      flat-length = let k = length-take n l' in omega arith

      pub flat-strings : is_string s t ≡ true → all (is_string s) (take n l') ≡ true
      unfolding concat_map
      flat-strings e = every_all (subst (Every (λ x. is_string s x ≡ true)) flat-is (subst (Every (λ x. is_string s x ≡ true)) (sym (append-nil (atoms s t))) (every_map (λ x i. i.string) (atoms-strings s ready.audited t e))))

      pub form-done : {m' : Lent} (known list : List ℕ) (x : Result (ℕ × State) Refusal) → Working (push_forms (known ++ take n l') (take n l') []) m m' c (pushed x m' list) → Working (normal_form known t) m m' c (formed x m' list)
      form-done known list x w = atoms-done known t (take n l') list x flat-is flat-length w
