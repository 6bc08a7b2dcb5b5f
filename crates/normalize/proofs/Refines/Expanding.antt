-- The ways of expanding an atom, and of the loop over a round's list.
use Rattle.std.specs.Prelude.{Result, Ok, Err, Some, None, if◌then◌else◌}
use Rattle.std.specs.Prelude as code
use mathlib.Core.Path.{◌≡◌, refl, sym, ap, subst, ◌∙◌}
use mathlib.Core.Bool.{Bool, true, false}
use mathlib.Core.List.{List, [], ◌∷◌, ◌++◌}
use mathlib.Core.Option.{Option, none, some}
use Prim.Native.Nat.{ℕ, suc, ◌+◌, ◌*◌, ◌≤◌, ◌<◌}
use native.Mathlib.Numerals.{add-one}
use native.Mathlib.Omega.{arith}
use lib.ListN.{replicate, length, take, drop, get_or, set, length-set, length-append, drop_of_length-le}
use lib.Seq.{drop-cons, length-take-le, get_or-set_same, get_or-set_other}
use lib.Dec.{eqb, ltb, lit≤}
use borrow.Author.Tests.{eqb-true, eqb-false, eq-eqb, ne_eqb, ltb-false, lt-ltb, le-ltb}
use Rattle.records.specs.declared.State.{State}
use Rattle.records.specs.declared.refusal.Refusal.{Refusal}
use Rattle.records.specs.Lists.{all, any, is_in, none_left, and}
use Rattle.records.specs.Store.{Store, Out, ok, stop, Work, and_then, give, count, is_string}
use Rattle.records.specs.View.{Lent, store_of, term_limit}
use Rattle.records.specs.Working.Audited.{Ready}
use Rattle.records.specs.Working.Doing.{Working}
use Rattle.records.proofs.Lists.{decide, all_every, every_all, every_at, within-high}
use Rattle.records.proofs.Works.{via}
use Rattle.records.proofs.Grown.{string-term, Strings, strings-later}
use Rattle.records.proofs.Climbs.{view_count}
use Rattle.records.proofs.IndexStores.{keeps_same}
use Rattle.records.proofs.Doing.{ready_for, working_left}
use Rattle.records.proofs.Sequence.{working_stop}
use Rattle.normalize.specs.Normalize.{deep_limit, normal_form, opens, Round, expand}
use Rattle.records.specs.Rules.{list_limit}
use Rattle.normalize.specs.Working.Pushes.{Candidates}
use Rattle.normalize.specs.Calls.{first_words, deepened}
use Rattle.normalize.specs.Working.Deeps.{opens_in, Met, MetTable, RoundOf, expand_atom, expanded, ExpandedTo, Expands}
use Rattle.normalize.proofs.Rewritten.{Rewritten}
use Rattle.normalize.proofs.Formed.{form-ends}
use Rattle.normalize.proofs.Deep.{expand-ends}
use Rattle.normalize.proofs.Carried.{Carried, carried_none, carried-kept, carried-then}
use Rattle.normalize.proofs.Candidates.{candidates_later}
use Rattle.normalize.proofs.Refines.Words.{words-length, words-none, words-put, words-take, words-whole}

-- ONE EXPANSION

module _ (known : List ℕ) (a : ℕ) (next : List ℕ) (j : ℕ) where
  abbrev so : List ℕ
  so = first_words next j

  -- after the list so far, where it is not too long
  rest : List ℕ → Work (Option (List ℕ))
  rest f = if ltb deep_limit (length (so ++ f)) then give none else give (some (so ++ f))

  pub atom-stopped : {m m' : Lent} {c : State} {n : ℕ} → Working (normal_form known a) m m' c (stop n) → Working (expand_atom known a so) m m' c (stop n)
  unfolding expand_atom rest
  atom-stopped w = working_stop rest w

  module _ {m m' : Lent} {c : State} (list : List ℕ) (n : ℕ) (d : State) (w : Working (normal_form known a) m m' c (ok (store_of m' d) (first_words list n))) where
    pub form-short : Ready m c → (table : List ℕ) → Candidates (store_of m c) known table → is_string (store_of m c) a ≡ true → n ≤ list_limit
    form-short ready table k i =
        let f = (form-ends known a (store_of m c) ready.audited (all_every (is_string (store_of m c)) known k.strings) i).given (store_of m' d) (first_words list n) w.says in
        let l = f.long in
        let z = words-length list n in omega arith

    long_is : length (so ++ first_words list n) ≡ j + n
    long_is = length-append so (first_words list n) ∙ (let p = words-length next j in let q = words-length list n in omega arith)

    pub atom-none : deep_limit < j + n → Working (expand_atom known a so) m m' c (ok (store_of m' d) none)
    unfolding expand_atom rest
    atom-none h =
        working_left (w.ready d _ refl) (ap (and_then rest) w.says ∙ rw (lt-ltb deep_limit (length (so ++ first_words list n)) (let z = long_is in omega arith))) w.kept

    pub atom-some : (next' : List ℕ) → j + n ≤ deep_limit → first_words next' (j + n) ≡ so ++ first_words list n → Working (expand_atom known a so) m m' c (ok (store_of m' d) (some (first_words next' (j + n))))
    unfolding expand_atom rest
    atom-some next' h q =
        working_left (w.ready d _ refl) (ap (and_then rest) w.says ∙ rw (le-ltb deep_limit (length (so ++ first_words list n)) (let z = long_is in omega arith), q)) w.kept

-- what it answers has 256 atoms at most
atom-length : (known : List ℕ) (a : ℕ) (l : List ℕ) (s s' : Store) (l' : List ℕ) → expand_atom known a l s ≡ ok s' (some l') → length l' ≤ deep_limit
unfolding expand_atom
atom-length known a l s s' l' e = via (λ f. if ltb deep_limit (length (l ++ f)) then give none else give (some (l ++ f))) (normal_form known a s) e (λ s₁ f i d. short s₁ f (ltb deep_limit (length (l ++ f))) refl d)
  where
    short : (s₁ : Store) (f : List ℕ) (b : Bool) → ltb deep_limit (length (l ++ f)) ≡ b → (if b then give none else give (some (l ++ f))) s₁ ≡ ok s' (some l') → length l' ≤ deep_limit
    short s₁ f true q d = let z : ◌≡◌ {A = ℕ} 0 1 = cc in absurd (omega arith)
    short s₁ f false q d = let z : l ++ f ≡ l' = cc in subst (λ (x : List ℕ). length x ≤ deep_limit) z (ltb-false _ _ q)

-- CONCATENATIONS MET

pub met-none : (table : List ℕ) → length table ≡ 513 → ((i : ℕ) → i < length table → get_or table i 0 ≡ 0) → Met table []
unfolding is_in any
met-none table e f = record { size = e; tells = λ x h. rw (f x (omega arith)) }

met-more : (table met : List ℕ) (a : ℕ) → Met table met → a ≤ term_limit → Met (set table a 1) (a ∷ met)
unfolding is_in any
met-more table met a h l = record {
  size = length-set table a 1 ∙ h.size;
  tells = λ x k.
      decide (eqb x a)
      (λ e. let q : x ≡ a = eqb-true x a e in rw (e, q, get_or-set_same table a 1 0 (let z = h.size in omega arith)))
      (λ e. rw (e, get_or-set_other table a x 1 0 (eqb-false x a e)) (h.tells x k));
}

-- ONE ATOM OF A ROUND

module _ (known : List ℕ) (t a : ℕ) (s : Store) where
  -- a list as a round's
  abbrev as_round : List ℕ → Option (List ℕ) → Work (Option Round)
  as_round met none = give none
  as_round met (some l) = give (some (record { list = l; met = met }))

  module _ (r : Round) where
    expand-plain : opens s t a ≡ false → expand known t (a ∷ []) r s ≡ ok s (some (record { list = r.list ++ a ∷ []; met = r.met }))
    unfolding expand
    expand-plain e = rw e

    expand-again : opens s t a ≡ true → is_in a r.met ≡ true → expand known t (a ∷ []) r s ≡ ok s none
    unfolding expand
    expand-again e q = rw (e, q)

    expand_open : opens s t a ≡ true → is_in a r.met ≡ false → expand known t (a ∷ []) r s ≡ and_then (as_round (a ∷ r.met)) (expand_atom known a r.list s)
    unfolding expand expand_atom
    expand_open e q = rw (e, q) (go (normal_form known a s))
      where
        inner : (s₁ : Store) (f : List ℕ) (b : Bool) → (if b then give none else give (some (record { list = r.list ++ f; met = a ∷ r.met }))) s₁ ≡ and_then (as_round (a ∷ r.met)) ((if b then give none else give (some (r.list ++ f))) s₁)
        inner s₁ f true = refl
        inner s₁ f false = refl

        go : (o : Out (List ℕ)) → and_then (λ f. if ltb deep_limit (length (r.list ++ f)) then give none else give (some (record { list = r.list ++ f; met = a ∷ r.met }))) o
            ≡ and_then (as_round (a ∷ r.met)) (and_then (λ f. if ltb deep_limit (length (r.list ++ f)) then give none else give (some (r.list ++ f))) o)
        go (ok s₁ f) = inner s₁ f (ltb deep_limit (length (r.list ++ f)))
        go (stop n) = refl

-- what gives no list
no_list : {X : Type 0} {c : State} {n : ℕ} {d : State} → ◌≡◌ {A = Result (code.Option ℕ × State) Refusal} (Ok (None, c)) (Ok (Some n, d)) → X
no_list {c = c} {n = n} {d = d} e =
    let p : ◌≡◌ {A = code.Option ℕ × State} (None, c) (Some n, d) = cc in
    let q : ◌≡◌ {A = code.Option ℕ} None (Some n) = ap (λ (x : code.Option ℕ × State). x.0) p in
    let z : ◌≡◌ {A = ℕ} 0 1 = cc in absurd (omega arith)

no_refusal : {X : Type 0} {j : Refusal} {n : ℕ} {d : State} → ◌≡◌ {A = Result (code.Option ℕ × State) Refusal} (Err j) (Ok (Some n, d)) → X
no_refusal e = let z : ◌≡◌ {A = ℕ} 0 1 = cc in absurd (omega arith)

module _ {m : Lent} {c : State} (ready : Ready m c) (known : List ℕ) (t a : ℕ) (i : is_string (store_of m c) a ≡ true) (next : List ℕ) (k : ℕ) (table : List ℕ) (b : Bool) (e : b ≡ opens_in (store_of m c).terms t a) where
  abbrev st : Store
  st = store_of m c

  pub atom-place : a ≤ term_limit
  atom-place =
      let h = within-high (count st) a (string-term st a i) in
      let z = view_count m.terms c.terms in
      let y = ready.sized.term_limited in omega arith

  pub one_plain : b ≡ false → k < length next → Expands known t (a ∷ []) next k table m m c (set next k a) table (Ok (Some (k + 1), c))
  one_plain h l = record {
    kept = keeps_same;
    ready = ready_for ready;
    is = λ met q. record {
      met = met;
      is = expand-plain known t a st (record { list = first_words next k; met = met }) (sym e ∙ h)
          ∙ ap (λ (w : List ℕ). ok st (some (record { list = w; met = met }))) (sym (words-put next k a l) ∙ ap (first_words (set next k a)) (sym (add-one k)));
      tells = λ n d z. q;
    };
  }

  module _ (h : b ≡ true) where
    opened : opens st t a ≡ true
    opened = sym e ∙ h

    met-is : (met : List ℕ) → Met table met → is_in a met ≡ eqb (get_or table a 0) 1
    met-is met q = sym (q.tells a atom-place)

    pub one_again : get_or table a 0 ≡ 1 → Expands known t (a ∷ []) next k table m m c next table (Ok (None, c))
    one_again d = record {
      kept = keeps_same;
      ready = ready_for ready;
      is = λ met q. record {
        met = [];
        is = expand-again known t a st (record { list = first_words next k; met = met }) opened (met-is met q ∙ eq-eqb (get_or table a 0) 1 d);
        tells = λ n f z. no_list z;
      };
    }

    pub one-opened : (get_or table a 0 ≡ 1 → ⊥) → {m' : Lent} (x : Result (code.Option ℕ × State) Refusal) (next' : List ℕ) → Working (expand_atom known a (first_words next k)) m m' c (deepened x m' next') → Expands known t (a ∷ []) next k table m m' c next' (set table a 1) x
    one-opened d {m'} x next' w = record {
      kept = w.kept;
      ready = w.ready;
      is = λ met q. record {
        met = a ∷ met;
        is = expand_open known t a st (record { list = first_words next k; met = met }) opened (met-is met q ∙ ne_eqb (get_or table a 0) 1 d) ∙ ap (and_then (as_round known t a st (a ∷ met))) w.says ∙ turned met x;
        tells = λ n f z. met-more table met a q atom-place;
      };
    }
      where
        turned : (met : List ℕ) (y : Result (code.Option ℕ × State) Refusal) → and_then (as_round known t a st (a ∷ met)) (deepened y m' next') ≡ expanded y (a ∷ met) m' next'
        turned met (Ok (Some n, f)) = refl
        turned met (Ok (None, f)) = refl
        turned met (Err e) = refl

-- THE LOOP OVER A ROUND'S LIST

-- one atom, then the others
abbrev next_round : (Round → Work (Option Round)) → Option Round → Work (Option Round)
next_round f none = give none
next_round f (some r) = f r

module _ (known : List ℕ) (t : ℕ) where
  expand-step : (a : ℕ) (l : List ℕ) (r : Round) (s : Store) → expand known t (a ∷ l) r s ≡ and_then (next_round (expand known t l)) (expand known t (a ∷ []) r s)
  unfolding expand
  expand-step a l r s =
      decide (opens s t a) (λ e. decide (is_in a r.met) (λ q. rw (e, q)) (λ q. rw (e, q) (go (normal_form known a s)))) (λ e. rw e)
    where
      grown : List ℕ → Round
      grown f = record { list = r.list ++ f; met = a ∷ r.met }

      inner : (s₁ : Store) (f : List ℕ) (b : Bool) → (if b then give none else expand known t l (grown f)) s₁ ≡ and_then (next_round (expand known t l)) ((if b then give none else give (some (grown f))) s₁)
      inner s₁ f true = refl
      inner s₁ f false = refl

      go : (o : Out (List ℕ)) → and_then (λ f. if ltb deep_limit (length (r.list ++ f)) then give none else expand known t l (grown f)) o
          ≡ and_then (next_round (expand known t l)) (and_then (λ f. if ltb deep_limit (length (r.list ++ f)) then give none else give (some (grown f))) o)
      go (ok s₁ f) = inner s₁ f (ltb deep_limit (length (r.list ++ f)))
      go (stop n) = refl

  -- an atom makes the list one longer, or leaves it at 256 atoms at most
  expand-short : (a : ℕ) (r : Round) (s s' : Store) (r' : Round) (j : ℕ) → expand known t (a ∷ []) r s ≡ ok s' (some r') → length r.list ≤ j → deep_limit ≤ j → length r'.list ≤ suc j
  expand-short a r s s' r' j e h p = decide (opens s t a) (λ q. decide (is_in a r.met) (λ z. again (sym (expand-again known t a s r q z) ∙ e)) (λ z. opened (sym (expand_open known t a s r q z) ∙ e))) (λ q. plain (sym (expand-plain known t a s r q) ∙ e))
    where
      list-is : {x y : Round} → x ≡ y → length x.list ≡ length y.list
      list-is q = ap (λ (z : Round). length z.list) q

      again : ok s none ≡ ok s' (some r') → length r'.list ≤ suc j
      again d = let z : ◌≡◌ {A = ℕ} 0 1 = cc in absurd (omega arith)

      plain : ok s (some (record { list = r.list ++ a ∷ []; met = r.met })) ≡ ok s' (some r') → length r'.list ≤ suc j
      plain d = let z : (record { list = r.list ++ a ∷ []; met = r.met }) ≡ r' = cc in let q = list-is z in let n = length-append r.list (a ∷ []) in omega arith

      opened : and_then (as_round known t a s (a ∷ r.met)) (expand_atom known a r.list s) ≡ ok s' (some r') → length r'.list ≤ suc j
      opened d = via (as_round known t a s (a ∷ r.met)) (expand_atom known a r.list s) d (λ s₁ o i k. last s₁ o i k)
        where
          last : (s₁ : Store) (o : Option (List ℕ)) → expand_atom known a r.list s ≡ ok s₁ o → as_round known t a s (a ∷ r.met) o s₁ ≡ ok s' (some r') → length r'.list ≤ suc j
          last s₁ none i k = let z : ◌≡◌ {A = ℕ} 0 1 = cc in absurd (omega arith)
          last s₁ (some l) i k = let z : (record { list = l; met = a ∷ r.met }) ≡ r' = cc in let q = list-is z in let n = atom-length known a r.list s s₁ l i in omega arith

  expand_shorts : (l : List ℕ) (r : Round) (s s' : Store) (r' : Round) (j : ℕ) → expand known t l r s ≡ ok s' (some r') → length r.list ≤ j → deep_limit ≤ j → length r'.list ≤ j + length l
  unfolding expand
  expand_shorts [] r s s' r' j e h p = let z : r ≡ r' = cc in let q = ap (λ (x : Round). length x.list) z in omega arith
  expand_shorts (a ∷ l) r s s' r' j e h p =
      via (next_round (expand known t l)) (expand known t (a ∷ []) r s) (sym (expand-step a l r s) ∙ e) (λ s₁ o i k. last (expand_shorts l) s₁ o i k)
    where
      last : ((r : Round) (s s' : Store) (r' : Round) (j : ℕ) → expand known t l r s ≡ ok s' (some r') → length r.list ≤ j → deep_limit ≤ j → length r'.list ≤ j + length l)
          → (s₁ : Store) (o : Option Round) → expand known t (a ∷ []) r s ≡ ok s₁ o → next_round (expand known t l) o s₁ ≡ ok s' (some r') → length r'.list ≤ j + length (a ∷ l)
      last ih s₁ none i k = let z : ◌≡◌ {A = ℕ} 0 1 = cc in absurd (omega arith)
      last ih s₁ (some r₁) i k = let n = expand-short a r s s₁ r₁ j i h p in let q = ih r₁ s₁ s' r' (suc j) k n (omega arith) in omega arith

-- what is left of the list, after the round's list so far, is what is asked
pub record Rest (known : List ℕ) (t : ℕ) (l next₀ : List ℕ) (m₀ : Lent) (c : State) (m : Lent) (d : State) (next : List ℕ) (k : ℕ) (table : List ℕ) (i : ℕ) (met : List ℕ) : Type 0 where
  pub now : List ℕ
  pub tells : Met table now
  pub is : expand known t (drop i l) (record { list = first_words next k; met = now }) (store_of m d) ≡ expand known t l (record { list = first_words next₀ 0; met = met }) (store_of m₀ c)

pub record Walking (known : List ℕ) (t : ℕ) (l next₀ table₀ : List ℕ) (m₀ : Lent) (c : State) (m : Lent) (d : State) (next : List ℕ) (k : ℕ) (table : List ℕ) (i : ℕ) : Type 0 where
  pub carried : Carried m₀ c m d
  pub out : Strings (store_of m d) (first_words next k)
  pub low : k ≤ deep_limit + i
  pub rest : (met : List ℕ) → Met table₀ met → Rest known t l next₀ m₀ c m d next k table i met

pub walking_none : {m : Lent} {c : State} (known : List ℕ) (t : ℕ) (l next table : List ℕ) → Ready m c → Walking known t l next table m c m c next 0 table 0
walking_none {m} {c} known t l next table r = record {
  carried = carried_none r;
  out = subst (Strings (store_of m c)) (sym (words-none next)) none_left;
  low = omega arith;
  rest = λ met q. record { now = met; tells = q; is = refl };
}

module _ (list : List ℕ) {known : List ℕ} {t : ℕ} {next₀ table₀ : List ℕ} {m₀ m : Lent} {c d : State} {next : List ℕ} {k : ℕ} {table : List ℕ} {i : ℕ}
    (g : Walking known t list next₀ table₀ m₀ c m d next k table i) (nodes : List ℕ) (cs : Candidates (store_of m₀ c) known nodes)
    (o : RoundOf (store_of m₀ c) list (length list) table₀ next₀) (h : i < length list) where
  abbrev sw : Store
  sw = store_of m d

  abbrev at : ℕ
  at = get_or list i 0

  pub walk_candidates : Candidates sw known nodes
  walk_candidates = candidates_later cs g.carried.later

  left_is : drop i list ≡ at ∷ drop (suc i) list
  left_is = drop-cons list i 0 h

  pub walk-string : is_string sw at ≡ true
  walk-string = every_at list i 0 (strings-later g.carried.later.grown (all_every (is_string (store_of m₀ c)) _ (rw (words-whole list) at o.strings))) h

  module _ {m' : Lent} (next' table' : List ℕ) (x : Result (code.Option ℕ × State) Refusal) (w : Expands known t (at ∷ []) next k table m m' d next' table' x) where
    one : (met : List ℕ) (z : Met table₀ met) → ExpandedTo (expand known t (at ∷ []) (record { list = first_words next k; met = (g.rest met z).now }) sw) m' next' table' x
    one met z = w.is (g.rest met z).now (g.rest met z).tells

    rest-says : (met : List ℕ) (z : Met table₀ met)
        → and_then (next_round (expand known t (drop (suc i) list))) (expanded x (one met z).met m' next') ≡ expand known t list (record { list = first_words next₀ 0; met = met }) (store_of m₀ c)
    rest-says met z =
        ap (and_then (next_round (expand known t (drop (suc i) list)))) (sym (one met z).is)
        ∙ sym (expand-step known t at (drop (suc i) list) (record { list = first_words next k; met = (g.rest met z).now }) sw)
        ∙ ap (λ (l : List ℕ). expand known t l (record { list = first_words next k; met = (g.rest met z).now }) sw) (sym left_is) ∙ (g.rest met z).is

  module _ {m' : Lent} (next' table' : List ℕ) where
    module _ (n : ℕ) (d' : State) (w : Expands known t (at ∷ []) next k table m m' d next' table' (Ok (Some n, d'))) where
      first_one : ExpandedTo (expand known t (at ∷ []) (record { list = first_words next k; met = (g.rest o.told.met o.told.is).now }) sw) m' next' table' (Ok (Some n, d'))
      first_one = one next' table' (Ok (Some n, d')) w o.told.met o.told.is

      rewritten : Rewritten sw (store_of m' d') (first_words next k ++ at ∷ []) (first_words next' n)
      rewritten =
          (expand-ends known t (at ∷ []) (record { list = first_words next k; met = (g.rest o.told.met o.told.is).now }) sw g.carried.later.audited
          (all_every (is_string sw) known walk_candidates.strings) (and walk-string none_left) g.out).given (store_of m' d') (some (record { list = first_words next' n; met = first_one.met })) first_one.is

      pub walking_turn : Walking known t list next₀ table₀ m₀ c m' d' next' n table' (i + 1)
      walking_turn = record {
        carried = carried-then g.carried m' d' w.kept rewritten.later (w.ready d' (some (first_words next' n)) refl);
        out = rewritten.strings;
        low = (let l = expand-short known t at (record { list = first_words next k; met = (g.rest o.told.met o.told.is).now }) sw (store_of m' d') (record { list = first_words next' n; met = first_one.met }) (deep_limit + i) first_one.is (let y = words-length next k in let z = g.low in omega arith) (omega arith) in
            let y = words-length next' n in omega arith);
        rest = λ met z. record {
          now = (one next' table' (Ok (Some n, d')) w met z).met;
          tells = (one next' table' (Ok (Some n, d')) w met z).tells n d' refl;
          is = rw add-one (rest-says next' table' (Ok (Some n, d')) w met z);
        };
      }

    -- None and a refusal end the loop
    pub walking_ended : {d' : State} → Expands known t (at ∷ []) next k table m m' d next' table' (Ok (None, d')) → Expands known t list next₀ 0 table₀ m₀ m' c next' table' (Ok (None, d'))
    walking_ended w = record { kept = carried-kept g.carried m' w.kept; ready = w.ready; is = λ met z. record { met = []; is = sym (rest-says next' table' _ w met z); tells = λ n f y. no_list y } }

    pub walking_stopped : {e : Refusal} → Expands known t (at ∷ []) next k table m m' d next' table' (Err e) → Expands known t list next₀ 0 table₀ m₀ m' c next' table' (Err e)
    walking_stopped w = record { kept = carried-kept g.carried m' w.kept; ready = w.ready; is = λ met z. record { met = []; is = sym (rest-says next' table' _ w met z); tells = λ n f y. no_refusal y } }

pub walking_done : (list : List ℕ) {known : List ℕ} {t : ℕ} {next₀ table₀ : List ℕ} {m₀ m : Lent} {c d : State} {next : List ℕ} {k : ℕ} {table : List ℕ} {i : ℕ}
    → Walking known t list next₀ table₀ m₀ c m d next k table i → length list ≤ i → Expands known t list next₀ 0 table₀ m₀ m c next table (Ok (Some k, d))
unfolding expand
walking_done list g h = record {
  kept = g.carried.kept;
  ready = ready_for g.carried.ready;
  is = λ met z. record {
    met = (g.rest met z).now;
    is = sym (rw (drop_of_length-le list h) at (g.rest met z).is);
    tells = λ j f y. (g.rest met z).tells;
  };
}

-- A ROUND'S LIST

-- the first words of a slice, as a round begins with them
module _ (list : List ℕ) (n : ℕ) (p : (n ≤ deep_limit) × (list_limit ≤ length list)) where
  pub words-list : first_words list n ≡ take n list
  words-list = words-take list n (omega arith)

  pub round_of : {s : Store} {table : List ℕ} → all (is_string s) (first_words list n) ≡ true → MetTable table → RoundOf s (take n list) (length (take n list)) table (replicate 512 0)
  round_of e met = record {
    strings = rw (words-whole (take n list), ← words-list) e;
    short = (let z = length-take-le n list (omega arith) in omega arith);
    within = omega arith;
    told = met;
    room = lit≤ tt;
  }

pub expanded-ready : {known : List ℕ} {t : ℕ} {l next : List ℕ} {j : ℕ} {table : List ℕ} {m m' : Lent} {c : State} {next' table' : List ℕ} {k : ℕ} {d : State} → Expands known t l next j table m m' c next' table' (Ok (Some k, d)) → Ready m' d
expanded-ready {next' = next'} {k = k} {d = d} w = w.ready d (some (first_words next' k)) refl

module _ {m m' : Lent} {c : State} (ready : Ready m c) (known nodes : List ℕ) (cs : Candidates (store_of m c) known nodes) (t : ℕ) {list next table next' table' : List ℕ} (o : RoundOf (store_of m c) list (length list) table next)
    (k : ℕ) (d : State) (w : Expands known t list next 0 table m m' c next' table' (Ok (Some k, d))) where
  witness : ExpandedTo (expand known t list (record { list = first_words next 0; met = o.told.met }) (store_of m c)) m' next' table' (Ok (Some k, d))
  witness = w.is o.told.met o.told.is

  says : expand known t list (record { list = first_words next 0; met = o.told.met }) (store_of m c) ≡ ok (store_of m' d) (some (record { list = first_words next' k; met = witness.met }))
  says = witness.is

  list-ends : Rewritten (store_of m c) (store_of m' d) (first_words next 0 ++ list) (first_words next' k)
  list-ends =
      (expand-ends known t list (record { list = first_words next 0; met = o.told.met }) (store_of m c) ready.audited (all_every (is_string (store_of m c)) known cs.strings)
      (all_every (is_string (store_of m c)) _ (rw (words-whole list) at o.strings)) (subst (Strings (store_of m c)) (sym (words-none next)) none_left)).given (store_of m' d) (some (record { list = first_words next' k; met = witness.met })) says

  pub round-carried : Carried m c m' d
  round-carried = carried-then (carried_none ready) m' d w.kept list-ends.later (expanded-ready w)

  round-short : k ≤ 2 * deep_limit
  round-short =
      let z = expand_shorts known t list (record { list = first_words next 0; met = o.told.met }) (store_of m c) (store_of m' d) (record { list = first_words next' k; met = witness.met }) deep_limit says (let y = words-length next 0 in omega arith) (omega arith) in
      let a = words-length next' k in
      let s = o.short in omega arith

  pub round-listed : k ≤ list_limit
  round-listed = let s = round-short in omega arith

  module _ (e : length next' ≡ length next) where
    pub round-fits : k ≤ length next'
    round-fits = let s = round-short in let r = o.room in omega arith

    pub round-strings : all (is_string (store_of m' d)) (take k next') ≡ true
    round-strings = rw (← words-take next' k round-fits) (every_all list-ends.strings)
