-- Working functions: how one is proved from its definition, or from another working function.
use mathlib.Core.Path.{◌≡◌, refl, sym, ap, subst, ◌∙◌}
use mathlib.Core.Bool.{true}
use mathlib.Core.List.{List, [], ◌∷◌, ◌++◌}
use mathlib.Core.Logic.{◌⊎◌, inl, inr}
use Prim.Native.Nat.{ℕ, suc}
use lib.ListN.{length}
use lib.Dec.{leb}
use borrow.Author.Tests.{leb-true}
use Rattle.records.specs.declared.State.{State}
use Rattle.records.specs.Lists.{all, firsts}
use Rattle.records.specs.Store.{Term, Cell, Store, Out, ok, stop, Work, and_then, ◌>>=◌, term, count, within, text_in, chain_in}
use Rattle.records.specs.View.{Lent, store_of, term_at, names_at}
use Rattle.records.specs.Index.{bucket_of, bucket, IndexOf, Indexed}
use Rattle.records.specs.Rules.{is_char, is_list}
use Rattle.records.specs.Make.{own, chain_from, constant_arguments, make_constant, variable_arguments, make_variable, concat_arguments, make_concat, length_arguments, make_length, equation_arguments, make_equation}
use Rattle.records.specs.Working.Audited.{Audited, Ready}
use Rattle.records.specs.Working.Indexing.{SameBuckets, Linked}
use Rattle.records.specs.Working.Doing.{Keeps, ReadyFor, Working, Building}
use Rattle.records.proofs.Lists.{both_left, both_right, table-length}
use Rattle.records.proofs.Works.{stop-not, one_store, via}
use Rattle.records.proofs.Chains.{chain-made, plain-firsts}
use Rattle.records.proofs.Append.{grow, longer, new_term}
use Rattle.records.proofs.IndexStores.{bucket-grown, bucket-text, bucket-parts, bucket-length, bucket-equation, indexed-grown, keeps_same}
use Rattle.records.proofs.Passed.{ready_as, ready-later, ready-beside}
use Rattle.records.proofs.Kept.{MadeIn, text-read, constant-kept, variable-kept, concat-kept, length-kept, equation-kept, names-audited}
use Rattle.records.proofs.ListLaws.{list-strings}

-- an answer with the counts d, for which the slices are ready
pub ready_for : {A : Type 0} {m : Lent} {d : State} {a : A} → Ready m d → ReadyFor m (ok (store_of m d) a)
ready_for {m = m} {d = d} r = λ d' a q. (let p : store_of m d ≡ store_of m d' = cc in ready_as r (sym p))

pub working_left : {A : Type 0} {work : Work A} {m m' : Lent} {c d : State} {a : A} → Ready m' d → work (store_of m c) ≡ ok (store_of m' d) a → Keeps m m' c → Working work m m' c (ok (store_of m' d) a)
working_left r e k = record { says = e; kept = k; ready = ready_for r }

-- the store is as it was
pub working_same : {A : Type 0} {work : Work A} {m : Lent} {c : State} {x : A} → Ready m c → work (store_of m c) ≡ ok (store_of m c) x → Working work m m c (ok (store_of m c) x)
working_same r e = working_left r e keeps_same

module _ {A : Type 0} {work : Work A} {m m' : Lent} {c : State} where
  -- the work stops
  pub working_stopped : {k : ℕ} → work (store_of m c) ≡ stop k → Keeps m m' c → Working work m m' c (stop k)
  working_stopped e k = record { says = e; kept = k; ready = λ d a q. stop-not q }

  -- the same outcome, said otherwise
  pub working_at : {o o' : Out A} → o ≡ o' → Working work m m' c o → Working work m m' c o'
  working_at e w = subst (λ (x : Out A). Working work m m' c x) e w

  -- a part of a make, where what the work leaves is audited and the old terms keep their buckets
  pub works : {o : Out A} → Ready m c → ((s : Store) (a : A) → work (store_of m c) ≡ ok s a → Audited s × SameBuckets (store_of m c) s) → Building work m m' c o → Working work m m' c o
  works r k b = record {
    says = b.says;
    kept = b.kept;
    ready = λ d a e. let g = k (store_of m' d) a (b.says ∙ e) in ready-later r b.kept.store g.0 (b.indexed d a e g.1);
  }

-- a part of a make that stops before a word is written, and one that finds its term
module _ {A : Type 0} {work : Work A} {m : Lent} {c : State} where
  pub building_stopped : {k : ℕ} → work (store_of m c) ≡ stop k → Building work m m c (stop k)
  building_stopped e = record { says = e; kept = keeps_same; indexed = λ d a q. stop-not q }

  pub building_found : {a : A} → Ready m c → work (store_of m c) ≡ ok (store_of m c) a → Building work m m c (ok (store_of m c) a)
  building_found r e = record { says = e; kept = keeps_same; indexed = λ d a q s. (ready_as r (sym (one_store q))).indexed }

-- the index of the terms counted
pub ready-index : {m : Lent} {c : State} → Ready m c → IndexOf (bucket (store_of m c)) c.terms m.terms
ready-index {m} {c} r = subst (λ (n : ℕ). IndexOf (bucket (store_of m c)) n m.terms) (table-length (λ i. term_at m.terms (suc i)) c.terms) r.indexed

-- one term appended, over cells ds and characters hs, and put at the end of its chain: s' is the store seen in the words l'
pub indexed-made : (m : Lent) (c : State) (l' : List ℕ) (b : ℕ) (ds : List Cell) (hs : List ℕ) (k x y : ℕ) (s₁ s' : Store) → Ready m c → Linked m.terms l' c.terms b → s₁ ≡ s'
    → s₁ ≡ grow (store_of m c) ds hs k x y → SameBuckets (store_of m c) s' → ((s : Store) → s ≡ grow (store_of m c) ds hs k x y → bucket s (suc (count (store_of m c))) ≡ b) → Indexed l' s'
indexed-made m c l' b ds hs k x y s₁ s' r linked p e same here =
    let n : count (store_of m c) ≡ c.terms = table-length (λ i. term_at m.terms (suc i)) c.terms in
    let g : s' ≡ grow (store_of m c) ds hs k x y = sym p ∙ e in
    indexed-grown (store_of m c) s' m.terms l' c.terms b n (ap count g ∙ longer (store_of m c) ds hs k x y ∙ ap suc n) r.indexed same (rw n at (here s' g)) linked

-- the bucket of a term appended
pub made-text : (k : ℕ) (w : List ℕ) (s s' : Store) → within 2 k ≡ true → s' ≡ grow s s.cells (s.chars ++ w) k (length s.chars) (length w) → bucket s' (suc (count s)) ≡ bucket_of k w
made-text k w s s' h e =
    let x = ap (λ (z : Store). term z (suc (count s))) e ∙ new_term s s.cells (s.chars ++ w) k (length s.chars) (length w) in
    bucket-text s' (suc (count s)) k w h (ap (λ (z : Term). z.kind) x)
    (ap (λ (z : Term). text_in s'.chars z) x ∙ ap (λ (z : Store). text_in z.chars (own (suc (count s)) k (length s.chars) (length w))) e ∙ text-read s k w)

pub made-parts : (l : List ℕ) (s s' : Store) → s' ≡ grow s (s.cells ++ chain_from (suc (length s.cells)) l) s.chars 3 (suc (length s.cells)) 0 → bucket s' (suc (count s)) ≡ bucket_of 3 l
made-parts l s s' e =
    let ds = s.cells ++ chain_from (suc (length s.cells)) l in
    let x = ap (λ (z : Store). term z (suc (count s))) e ∙ new_term s ds s.chars 3 (suc (length s.cells)) 0 in
    bucket-parts s' (suc (count s)) l (ap (λ (z : Term). z.kind) x)
    (ap (λ (z : Term). firsts (chain_in s'.cells z.first)) x ∙ ap (λ (z : Store). firsts (chain_in z.cells (suc (length s.cells)))) e
    ∙ ap firsts (chain-made s.cells l) ∙ plain-firsts l)

pub made-sides : (k a b : ℕ) (s s' : Store) → ((k ≡ 4) × (b ≡ 0)) ⊎ (k ≡ 5) → s' ≡ grow s s.cells s.chars k a b → bucket s' (suc (count s)) ≡ bucket_of k (a ∷ b ∷ [])
made-sides k a b s s' two e = go two
  where
    x : term s' (suc (count s)) ≡ own (suc (count s)) k a b
    x = ap (λ (z : Store). term z (suc (count s))) e ∙ new_term s s.cells s.chars k a b

    go : ((k ≡ 4) × (b ≡ 0)) ⊎ (k ≡ 5) → bucket s' (suc (count s)) ≡ bucket_of k (a ∷ b ∷ [])
    go (inl p) = rw (p.0, p.1) (bucket-length s' (suc (count s)) a (ap (λ (z : Term). z.kind) x ∙ p.0) (ap (λ (z : Term). z.first) x))
    go (inr p) = rw p (bucket-equation s' (suc (count s)) a b (ap (λ (z : Term). z.kind) x ∙ p) (ap (λ (z : Term). z.first) x) (ap (λ (z : Term). z.second) x))

-- work that comes to the same
module _ {A : Type 0} {v w : Work A} {m m' : Lent} {c : State} {o : Out A} (e : v (store_of m c) ≡ w (store_of m c)) where
  pub working_is : Working w m m' c o → Working v m m' c o
  working_is p = record { says = e ∙ p.says; kept = p.kept; ready = p.ready }

  pub building_is : Building w m m' c o → Building v m m' c o
  building_is p = record { says = e ∙ p.says; kept = p.kept; indexed = p.indexed }

-- work and then an answer, which leaves the store as it is
module _ {A B : Type 0} (f : A → Work B) (idle : (a : A) (s s' : Store) (b : B) → f a s ≡ ok s' b → s ≡ s') where
  pub working_answer : {w : Work A} {m m' : Lent} {c : State} {o : Out A} → Working w m m' c o → Working (w >>= f) m m' c (and_then f o)
  working_answer {m' = m'} {o = o} w = record {
    says = ap (and_then f) w.says;
    kept = w.kept;
    ready = λ d b q. via f o q (λ s a i j. w.ready d a (i ∙ ap (λ (x : Store). ok x a) (idle a s (store_of m' d) b j)));
  }

-- a name taken moves the counter alone
pub ready-names : {m : Lent} {c : State} (n : ℕ) → Ready m c → Ready m (names_at c n)
ready-names {m} {c} n r = ready-beside r refl refl (names-audited (store_of m c) n r.audited) (record { terms = refl; cells = refl; chars = refl })

-- what a make leaves is audited, and the old terms keep their buckets
pub made-good : {s s' : Store} {t k : ℕ} → MadeIn s s' t k → Audited s' × SameBuckets s s'
made-good m = (m.audited, bucket-grown m.grown)

-- WHAT A MAKE GIVES, where its arguments pass

module _ (s s' : Store) (t : ℕ) (audited : Audited s) where
  pub constant-fit : (w : List ℕ) → constant_arguments w s ≡ true → make_constant w s ≡ ok s' t → MadeIn s s' t 1
  constant-fit w good e = (constant-kept w s s' t audited good e).made

  pub variable-fit : (w : List ℕ) → variable_arguments w s ≡ true → make_variable w s ≡ ok s' t → MadeIn s s' t 2
  variable-fit w good e = (variable-kept w s s' t audited (both_right (leb 1 (length w)) (all is_char w) good) (leb-true 1 (length w) (both_left _ _ good)) e).made

  pub concat-fit : (l : List ℕ) → concat_arguments l s ≡ true → make_concat l s ≡ ok s' t → MadeIn s s' t 3
  concat-fit l good e = (concat-kept l s s' t audited (leb-true 2 (length l) (both_left _ _ good)) (list-strings s l (both_right (leb 2 (length l)) (is_list s l) good)) e).made

  pub length-fit : (a : ℕ) → length_arguments a s ≡ true → make_length a s ≡ ok s' t → MadeIn s s' t 4
  length-fit a good e = (length-kept a s s' t audited good e).made

  pub equation-fit : (a b : ℕ) → equation_arguments a b s ≡ true → make_equation a b s ≡ ok s' t → MadeIn s s' t 5
  equation-fit a b good e = (equation-kept a b s s' t audited good e).made
