-- Names are unique (src/unique.rt): hashes of texts, chains of variables by their hashes, and a walk down one chain.
use mathlib.Core.Path.{◌≡◌, refl, sym, ap, ◌∙◌}
use mathlib.Core.Bool.{Bool, true, false, not, ◌&&◌}
use mathlib.Core.List.{List, [], ◌∷◌, ◌++◌}
use Prim.Native.Nat.{ℕ, suc, ◌+◌, ◌-◌, ◌*◌, ◌/◌, ◌%◌, ◌<◌, ◌≤◌}
use mathlib.Core.Logic.{◌⊎◌, ⊎_elim}
use native.Mathlib.Nat.{eq-or-lt_of_le}
use native.Mathlib.Numerals.{add-one}
use native.Mathlib.Omega.{arith}
use lib.ListN.{length, get_or, take, drop, drop_of_length-le, set, replicate, length-set, length-replicate, get_or-replicate}
use lib.Seq.{get_or-set_same, get_or-set_other}
use lib.Dec.{eqb, ltb}
use borrow.Author.Tests.{eqb-true, eq-eqb, ne_eqb, leb-true, lt-ltb, le-ltb}
use Rattle.records.specs.declared.State.{State}
use Rattle.records.specs.Lists.{all_below, same_word}
use Rattle.records.specs.Store.{Term, Store, term, within, is_variable, text, term_in}
use Rattle.records.specs.View.{lent, store_of, term_at, chars_view, span}
use Rattle.records.specs.Working.Leaves.{has_text}
use Rattle.records.specs.Rules.{text_rule, named, name_rule}
use Rattle.records.specs.Working.Hashes.{mixed, hash_from, hash, Hashed, in_chain, highest, Tables, Passing}
use Rattle.records.proofs.Lists.{both_left, both_right, both_true, left_false, right-false, right-true, and-stop, and-next, clash, decide, within_low, within-high, below_false, below_suc, below-zero, last_hit, last-pass, last_one, last-low, last-passes, last-all, table-length, word_is, drop_head}
use Rattle.records.proofs.Views.{term_is, part-span, text-span, first-at, second_at}
use Rattle.records.proofs.Grown.{kind-term, present}

-- HASHES

pub hash-append : (h x : ℕ) (w : List ℕ) → hash_from h (w ++ (x ∷ [])) ≡ mixed (hash_from h w) x
unfolding hash_from
hash-append h x [] = refl
hash-append h x (y ∷ w) = hash-append (mixed h y) x w

pub hash-turn : (w : List ℕ) (h i x a : ℕ) → hash_from h (drop i w) ≡ a → i < length w → x ≡ get_or w i 0 → hash_from ((69069 * h + h / 65536 + x) % 4294967291) (drop (i + 1) w) ≡ a
unfolding hash_from mixed
hash-turn w h i x a e l q = rw q (rw (drop_head w i l) at e)

pub hash-done : (w : List ℕ) (h i a : ℕ) → hash_from h (drop i w) ≡ a → length w ≤ i → h ≡ a
unfolding hash_from
hash-done w h i a e l = rw (drop_of_length-le w l) at e

-- whether a text is within the count is read from the terms and the count alone
pub text_anywhere : (l e h e' h' : List ℕ) (c : State) (t : ℕ) → text_rule (store_of (lent l e h [] []) c) t ≡ text_rule (store_of (lent l e' h' [] []) c) t
unfolding text_rule
text_anywhere l e h e' h' c t = rw (table-length (λ i. get_or h i 0) c.chars, table-length (λ i. get_or h' i 0) c.chars)

up_to : (u t : ℕ) → u < t + 1 → (u ≡ t) ⊎ (u < t)
up_to u t q = eq-or-lt_of_le (omega arith)

-- no term below n has t's name
abbrev others : Store → ℕ → ℕ → Bool
others s t n = all_below (λ u. not (named (text s t) s u)) n

-- where the walk down t's chain stands: what is left to test is u and what is below it, and u is in the chain or ends it
pub record Walk (s : Store) (m t u : ℕ) : Type 0 where
  pub lower : u < t
  pub rest : others s t (suc u) ≡ others s t t
  pub chained : (u ≡ 0 → ⊥) → in_chain s (m % 64) u ≡ true

module _ (l h : List ℕ) (c : State) where
  abbrev here : Store
  here = store_of (lent l [] h [] []) c

  -- a text within the count is within the slice
  pub text-ends : (t : ℕ) → text_rule here t ≡ true → (term here t).first + (term here t).second ≤ c.chars
  unfolding text_rule
  text-ends t e = rw (table-length (λ i. get_or h i 0) c.chars) at (leb-true ((term here t).first + (term here t).second) (length (chars_view h c.chars)) e)

  pub text_is : (t : ℕ) → text_rule here t ≡ true → text here t ≡ span h (term here t).first (term here t).second
  text_is t e = text-span h c.chars (term here t) (text-ends t e)

  pub variable-within : (t : ℕ) → is_variable here t ≡ true → within c.terms t ≡ true
  variable-within t e = rw (table-length (λ i. term_at l (suc i)) c.terms) at (kind-term here t 1 (eqb-true _ 2 e))

  -- the words of a text within the count
  module _ (t : ℕ) (v : is_variable here t ≡ true) (f : text_rule here t ≡ true) (p n : ℕ) (ep : p ≡ (term_at l t).first) (en : n ≡ (term_at l t).second) where
    pub name_ends : c.chars ≤ length h → p + n ≤ length h
    name_ends r =
        let i = first-at l c.terms t p (variable-within t v) ep in
        let j = second_at l c.terms t n (variable-within t v) en in
        let e = text-ends t f in omega arith

    name_span : span h p n ≡ text here t
    name_span = rw (text_is t f, ← first-at l c.terms t p (variable-within t v) ep, ← second_at l c.terms t n (variable-within t v) en)

    pub name_part : c.chars ≤ length h → take ((p + n) - p) (drop p h) ≡ text here t
    name_part r = let e : (p + n) - p ≡ n = omega arith in rw (e, part-span h p n (name_ends r)) name_span

  -- ONE NAME

  -- variables of one name have one hash
  named-hash : (t u : ℕ) → named (text here t) here u ≡ true → hash here u ≡ hash here t
  unfolding named
  named-hash t u e = ap (hash_from 1) (word_is _ _ (both_right (is_variable here u) _ e))

  module _ (m t : ℕ) (a : Hashed here m t) where
    module _ (x u : ℕ) (k : Hashed here x u) where
      pub named_other : (x ≡ m → ⊥) → false ≡ named (text here t) here u
      named_other z = decide (named (text here t) here u) (λ e. absurd (z (k.hashed ∙ named-hash t u e ∙ sym a.hashed))) (λ e. sym e)

      pub named_test : (w : List ℕ) (b : Bool) → b ≡ has_text l h 2 w u → w ≡ text here t → b ≡ named (text here t) here u
      unfolding named has_text
      named_test w b e f =
          let v = variable-within u k.variable in
          let i = term_is l c.terms u (within_low _ u v) (within-high _ u v) in
          e ∙ ap (λ (r : Term). eqb r.kind 2 && same_word (span h r.first r.second) w) (sym i)
          ∙ ap (λ (y : List ℕ). eqb (term here u).kind 2 && same_word (span h (term here u).first (term here u).second) y) f
          ∙ ap (λ (y : List ℕ). eqb (term here u).kind 2 && same_word y (text here t)) (sym (text_is u k.fits))

    -- THE WALK down the chain

    zero-other : not (named (text here t) here 0) ≡ true
    unfolding named term_in
    zero-other = refl

    -- a term out of the chain has another name
    other-chain : (u : ℕ) → in_chain here (m % 64) u ≡ false → not (named (text here t) here u) ≡ true
    unfolding in_chain named
    other-chain u z =
        decide (named (text here t) here u)
        (λ e. clash (both_true (is_variable here u) _ (both_left (is_variable here u) _ e) (eq-eqb _ _ (ap (λ (x : ℕ). x % 64) (named-hash t u e ∙ sym a.hashed)))) z) (ap not)

    -- from b on no term has the name, and the walk goes on at the highest of the chain below b
    walk_from : (x b : ℕ) → x ≡ highest here (m % 64) b → 0 < b → b ≤ t → others here t b ≡ others here t t → Walk here m t x
    walk_from x b e z q o = rw e (record {
      lower = let i = last-low (in_chain here (m % 64)) b z in omega arith;
      rest = last-all (in_chain here (m % 64)) (λ u. not (named (text here t) here u)) b zero-other (λ k j y. other-chain k y) ∙ o;
      chained = last-passes (in_chain here (m % 64)) b;
    })

    module _ (hashes links heads : List ℕ) (b : Tables here hashes links heads t) where
      pub walk_start : Walk here m t (get_or heads (m % 64) 0)
      walk_start = walk_from _ t (b.headed (m % 64) (omega arith)) (within_low _ t (variable-within t a.variable)) (omega arith) refl

      module _ (u : ℕ) (k : Walk here m t u) (z : u ≡ 0 → ⊥) where
        walk-variable : is_variable here u ≡ true
        unfolding in_chain
        walk-variable = both_left (is_variable here u) _ (k.chained z)

        pub walk-hashed : Hashed here (get_or hashes u 0) u
        walk-hashed = b.hashed u k.lower walk-variable

        walk-link : get_or links u 0 ≡ highest here (m % 64) u
        unfolding in_chain
        walk-link = b.linked u k.lower walk-variable ∙ ap (λ (r : ℕ). highest here r u) (eqb-true _ _ (both_right (is_variable here u) _ (k.chained z)))

        pub walk_less : get_or links u 0 < u
        walk_less = let i = last-low (in_chain here (m % 64)) u (omega arith) in rw walk-link i

        pub walk_turn : (x : Bool) → x ≡ named (text here t) here u → x ≡ false → Walk here m t (get_or links u 0)
        unfolding all_below
        walk_turn x e f = walk_from _ u walk-link (omega arith) (omega (arith, k.lower)) (sym (right-true (others here t u) _ (ap not (sym e ∙ f))) ∙ k.rest)

    pub name_empty : (n : ℕ) → n ≡ (term_at l t).second → n ≡ 0 → false ≡ name_rule here t
    unfolding name_rule
    name_empty n e z =
        let j = second_at l c.terms t n (variable-within t a.variable) e in
        and-stop (ltb 0 (term here t).second) _ (le-ltb 0 (term here t).second (omega arith))

    module _ (u : ℕ) (k : Walk here m t u) where
      pub name_taken : (x : Bool) → x ≡ named (text here t) here u → x ≡ true → false ≡ name_rule here t
      unfolding name_rule
      name_taken x e z = sym (right-false (ltb 0 (term here t).second) _ (below_false (λ v. not (named (text here t) here v)) t u k.lower (ap not (sym e ∙ z))))

      pub name_free : (n : ℕ) → n ≡ (term_at l t).second → (n ≡ 0 → ⊥) → u ≡ 0 → true ≡ name_rule here t
      unfolding name_rule
      name_free n e z q =
          let j = second_at l c.terms t n (variable-within t a.variable) e in
          let i = below_suc (λ v. not (named (text here t) here v)) 0 (below-zero _) zero-other in
          and-next (ltb 0 (term here t).second) _ true (lt-ltb 0 (term here t).second (omega arith)) (sym i ∙ (rw q at k.rest))

  -- THE TABLES

  pub tables_start : (hashes links : List ℕ) → c.terms < length hashes → c.terms < length links → Tables here hashes links (replicate 64 0) 1
  unfolding term_in
  tables_start hashes links i j = record {
    hashes_room = rw (table-length (λ k. term_at l (suc k)) c.terms) i;
    links_room = rw (table-length (λ k. term_at l (suc k)) c.terms) j;
    heads_room = length-replicate {A = ℕ} 64 0;
    hashed = λ u q v. let z : u ≡ 0 = omega arith in clash v (rw z);
    linked = λ u q v. let z : u ≡ 0 = omega arith in clash v (rw z);
    headed = λ r q. get_or-replicate 64 r 0 0 q ∙ sym (last_one _);
  }

  module _ (hashes links heads : List ℕ) (t : ℕ) where
    module _ (b : Tables here hashes links heads t) where
      -- a term that is no variable
      pub tables_skip : is_variable here t ≡ false → Tables here hashes links heads (t + 1)
      unfolding in_chain
      tables_skip v = record {
        hashes_room = b.hashes_room;
        links_room = b.links_room;
        heads_room = b.heads_room;
        hashed = λ u q w. b.hashed u (other u q w) w;
        linked = λ u q w. b.linked u (other u q w) w;
        headed = λ r q. b.headed r q ∙ sym (rw add-one (last-pass (in_chain here r) t (left_false _ _ v)));
      }
        where
          other : (u : ℕ) → u < t + 1 → is_variable here u ≡ true → u < t
          other u q w = ⊎_elim (λ j. clash w (rw j v)) (λ j. j) (up_to u t q)

      pub tables-room : is_variable here t ≡ true → (t < length hashes) × (t < length links)
      tables-room v = let i = present here t 1 (eqb-true _ 2 v) in (omega (arith, b.hashes_room), omega (arith, b.links_room))

      -- a variable, at the head of its chain
      module _ (m : ℕ) (a : Hashed here m t) where
        head_is : (r : ℕ) → r < 64 → get_or (set heads (m % 64) t) r 0 ≡ highest here r (suc t)
        unfolding in_chain
        head_is r q =
            decide (eqb (hash here t % 64) r)
            (λ e.
            let i : m % 64 ≡ r = ap (λ (x : ℕ). x % 64) a.hashed ∙ eqb-true _ _ e in
            rw i (get_or-set_same heads r t 0 (let j = b.heads_room in omega arith) ∙ sym (last_hit (in_chain here r) t (both_true _ _ a.variable e))))
            (λ e.
            let i : r ≡ m % 64 → ⊥ = λ z. clash (eq-eqb _ _ (sym (ap (λ (x : ℕ). x % 64) a.hashed) ∙ sym z)) e in
            get_or-set_other heads (m % 64) r t 0 i ∙ b.headed r q ∙ sym (last-pass (in_chain here r) t (right-false (is_variable here t) _ e)))

        pub tables-keep : Tables here (set hashes t m) (set links t (get_or heads (m % 64) 0)) (set heads (m % 64) t) (t + 1)
        tables-keep = record {
          hashes_room = simp length-set b.hashes_room;
          links_room = simp length-set b.links_room;
          heads_room = simp length-set b.heads_room;
          hashed = λ u q w.
              ⊎_elim (λ j. rw j (rw (get_or-set_same hashes t m 0 (tables-room a.variable).0) a))
              (λ j. rw (get_or-set_other hashes t u m 0 (λ k. omega arith)) (b.hashed u j w)) (up_to u t q);
          linked = λ u q w.
              ⊎_elim (λ j. rw j (get_or-set_same links t _ 0 (tables-room a.variable).1 ∙ b.headed (m % 64) (omega arith) ∙ ap (λ (x : ℕ). highest here (x % 64) t) a.hashed))
              (λ j. get_or-set_other links t u _ 0 (λ k. omega arith) ∙ b.linked u j w) (up_to u t q);
          headed = λ r q. rw add-one (head_is r q);
        }

    -- what a term that fails, and one that is no variable, leave of them
    module _ (rule : Bool) where
      pub passing-not : false ≡ rule → Passing here rule hashes links heads t false
      passing-not e = record { passes = e; tables = λ z. clash z refl }

      pub passing-other : (k : ℕ) (r : Bool) → Tables here hashes links heads t → k ≡ (term here t).kind → (k ≡ 2 → ⊥) → r ≡ rule → Passing here rule hashes links heads t r
      passing-other k r b e z q = record { passes = q; tables = λ y. tables_skip b (ne_eqb _ 2 (λ i. z (e ∙ i))) }
