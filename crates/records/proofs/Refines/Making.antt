-- Making constants and variables.
use mathlib.Core.Path.{◌≡◌, refl, sym, ap, ◌∙◌}
use mathlib.Core.Bool.{Bool, true, false, not, ◌&&◌}
use mathlib.Core.List.{List, [], ◌∷◌, ◌++◌}
use mathlib.Core.Option.{Option, none, some}
use Prim.Native.Nat.{ℕ, zero, suc, ◌+◌, ◌-◌, ◌<◌, ◌≤◌}
use native.Mathlib.Numerals.{add-one}
use native.Mathlib.Omega.{arith}
use lib.ListN.{length, get_or}
use lib.Dec.{eqb, ltb, leb}
use borrow.Author.Tests.{not-true, not-false, leb-true, le-leb, eqb-true}
use Rattle.records.specs.Lists.{same_word, first_below}
use Rattle.records.specs.declared.State.{State}
use Rattle.records.specs.Store.{Term as Record, Store, Out, ok, stop, Work, count, within, term, kind, term_in, text_in}
use Rattle.std.specs.Prelude.{Ok, Err}
use Rattle.records.specs.declared.refusal.Refusal.TheVariants.{Room}
use Rattle.records.specs.View.{buckets, lent, term_words, term_limit, char_limit, char_room, term_room, one_term, more_chars, Lent, store_of, term_at, terms_view, chars_view, span, text_at}
use Rattle.records.specs.Working.Audited.{Ready, Sized}
use Rattle.records.specs.Calls.{made}
use Rattle.records.specs.Working.Doing.{Working, Building}
use Rattle.records.specs.Working.Puts.{CharsPut, TermPut}
use Rattle.records.specs.Index.{bucket_of, bucket}
use Rattle.records.specs.Make.{number_of, lookup, or_make, lowest, add_text, add_term, with_chars, with_terms, own, make_constant, make_variable, constant_of, constant_arguments, variable_arguments}
use Rattle.records.specs.Working.Indexing.{Walkable, Searchable}
use Rattle.records.specs.Working.Leaves.{text_of, has_text, append_text, make_text}
use Rattle.records.specs.Rules.{named}
use Rattle.records.proofs.Views.{term_is, text-span}
use Rattle.records.proofs.Refines.Rooms.{chars_fit_lem, chars-limit, chars-room, chars-over, term_limit_lem, term_room_lem}
use Rattle.records.proofs.Works.{one_store}
use Rattle.records.proofs.Append.{grow}
use Rattle.records.proofs.IndexSays.{bucket-small}
use Rattle.records.proofs.IndexLaws.{index_walkable}
use Rattle.records.proofs.IndexStores.{bucket-text}
use Rattle.records.proofs.Doing.{works, building_is, building_stopped, building_found, indexed-made, made-text, ready-index, made-good, constant-fit, variable-fit}
use Rattle.records.proofs.Lists.{same_test, decide, within_low, within-high, first-same, both_left, both_right, word_is, word-differs, table-length}

-- WHETHER A TERM HAS A TEXT

module _ (l h : List ℕ) (w : List ℕ) (t : ℕ) where
  -- a text of another length is another
  pub word_long : ((term_at l t).second ≡ length w → ⊥) → same_word (text_at l h t) w ≡ false
  word_long d =
      word-differs _ w (λ e. d (sym (table-length (λ i. get_or h ((term_at l t).first + i) 0) (term_at l t).second) ∙ ap length e))

  -- of one of the same length the characters are looked at
  pub word_spelled : (term_at l t).second ≡ length w → same_word (text_at l h t) w ≡ same_word (span h (term_at l t).first (length w)) w
  word_spelled e = rw e refl

-- THE LOWEST-NUMBERED in the store

-- each text of kind k is within the characters
abbrev pub Texts : Lent → State → ℕ → Type 0
Texts m c k = (t : ℕ) → kind (store_of m c) t ≡ k → (term (store_of m c) t).first + (term (store_of m c) t).second ≤ length (store_of m c).chars

pub texts-within : (m : Lent) (c : State) (k : ℕ) → Ready m c → within 2 k ≡ true → Texts m c k
texts-within m c k a h t e = go k (within_low 2 k h) (within-high 2 k h) e
  where
    go : (j : ℕ) → 0 < j → j ≤ 2 → kind (store_of m c) t ≡ j → (term (store_of m c) t).first + (term (store_of m c) t).second ≤ length (store_of m c).chars
    go zero p q e = absurd (omega arith)
    go (suc zero) p q e = a.audited.recorded.constants t e
    go (suc (suc zero)) p q e = a.audited.recorded.variables t e
    go (suc (suc (suc j))) p q e = absurd (omega arith)

module _ (m : Lent) (c : State) (k : ℕ) (w : List ℕ) where
  has_text_lem : Texts m c k → (i : ℕ) → i < c.terms → has_text m.terms m.chars k w (suc i) ≡ text_of k w (store_of m c) (suc i)
  unfolding has_text text_of
  has_text_lem texts i b = decide (eqb x.kind k)
      (λ q. let h = texts (suc i) (ap (λ (y : Record). y.kind) e ∙ eqb-true _ _ q) in
      let g : x.first + x.second ≤ c.chars = rw table-length at (rw e at h) in
      rw (text-span m.chars c.chars x g))
      (λ q. rw q)
      ∙ sym (ap (λ (y : Record). eqb y.kind k && same_word (text_in (chars_view m.chars c.chars) y) w) e)
    where
      x : Record
      x = term_at m.terms (suc i)

      e : term_in (terms_view m.terms c.terms) (suc i) ≡ x
      e = term_is m.terms c.terms (suc i) (omega arith) b

  pub found-text : Texts m c k → first_below (λ i. has_text m.terms m.chars k w (suc i)) c.terms ≡ lookup (text_of k w) (store_of m c)
  unfolding lookup
  found-text texts =
      rw (table-length (λ i. term_at m.terms (suc i)) c.terms)
      (first-same (λ i. has_text m.terms m.chars k w (suc i)) (λ i. text_of k w (store_of m c) (suc i)) c.terms (has_text_lem texts))

  -- each term that has the text lies in its bucket
  pub text_searchable : Ready m c → within 2 k ≡ true → Searchable m.terms c.terms (bucket_of k w) (has_text m.terms m.chars k w)
  unfolding text_of
  text_searchable ready h = record { f = bucket (store_of m c); indexed = ready-index ready; small = bucket-small k w; lies = lies }
    where
      lies : (t : ℕ) → within c.terms t ≡ true → has_text m.terms m.chars k w t ≡ true → bucket (store_of m c) t ≡ bucket_of k w
      lies zero u e = let z = within_low c.terms 0 u in absurd (omega arith)
      lies (suc i) u e =
          let g : text_of k w (store_of m c) (suc i) ≡ true = sym (has_text_lem (texts-within m c k ready h) i (within-high c.terms (suc i) u)) ∙ e in
          bucket-text (store_of m c) (suc i) k w h (eqb-true _ _ (both_left _ _ g)) (word_is _ w (both_right (eqb (kind (store_of m c) (suc i)) k) _ g))

pub name_kind : within 2 2 ≡ true
unfolding within
name_kind = refl

-- a variable of a name
pub name_searchable : (m : Lent) (c : State) (w : List ℕ) → Ready m c → Searchable m.terms c.terms (bucket_of 2 w) (has_text m.terms m.chars 2 w)
name_searchable m c w ready = text_searchable m c 2 w ready name_kind

-- THE LOWEST EQUAL RECORD, OR A NEW ONE

module _ (equal : Store → ℕ → Bool) (make : Work ℕ) (s : Store) (t : ℕ) (look : t ≡ number_of (lookup equal s)) where
  pub lowest-old : (t ≡ 0 → ⊥) → lowest equal make s ≡ ok s t
  unfolding lowest
  lowest-old d = go (lookup equal s) look
    where
      go : (o : Option ℕ) → t ≡ number_of o → or_make make o s ≡ ok s t
      go none e = absurd (d e)
      go (some i) e = rw e

  pub lowest-new : t ≡ 0 → lowest equal make s ≡ make s
  unfolding lowest
  lowest-new z = go (lookup equal s) look
    where
      go : (o : Option ℕ) → t ≡ number_of o → or_make make o s ≡ make s
      go none e = refl
      go (some i) e = absurd (omega arith)

-- A NEW TEXT in the store

module _ (k : ℕ) (w : List ℕ) (s : Store) where
  append-long : leb (length s.chars + length w) s.room.chars ≡ false → append_text k w s ≡ stop 8
  unfolding add_text
  append-long e = rw e

  module _ (e : leb (length s.chars + length w) s.room.chars ≡ true) where
    append-full : ltb (count s) s.room.terms ≡ false → append_text k w s ≡ stop 8
    unfolding add_text add_term
    append-full f = rw (e, f)

    append-new : ltb (count s) s.room.terms ≡ true
        → append_text k w s
        ≡ ok (with_terms (with_chars s (s.chars ++ w)) (s.terms ++ (own (suc (count s)) k (length s.chars) (length w) ∷ []))) (suc (count s))
    unfolding add_text add_term
    append-new f = rw (e, f)

-- ROOM for k characters more

module _ (l : List ℕ) (n k : ℕ) (limit : n ≤ char_limit) where
  pub text-over : char_limit - n < k → false ≡ leb (n + k) (char_room l)
  text-over h = sym (chars-over l n k (omega arith))

  pub text_test : k ≤ char_limit - n → leb (n + k) (length l) ≡ leb (n + k) (char_room l)
  text_test h =
      same_test _ _ (λ e. chars_fit_lem l n k (omega arith) (leb-true (n + k) (length l) e)) (λ e. le-leb (n + k) (length l) (chars-room l n k e))

-- what a term requires of the chain that it goes to: b is the bucket of kind k with the numbers w
pub walk-to : {m : Lent} {c : State} (k : ℕ) (w : List ℕ) → Ready m c → (b : ℕ) → b ≡ bucket_of k w → (b < buckets) × Walkable m.terms c.terms b
walk-to {m} {c} k w ready b e = let small : b < buckets = rw e (bucket-small k w) in (small, index_walkable (bucket (store_of m c)) c.terms m.terms (ready-index ready) b small)

-- A NEW TEXT in the words: the tests of room, for n characters

module _ {t e h r ks : List ℕ} {c : State} (k : ℕ) (w : List ℕ) (n : ℕ) (long : n ≡ length w) (f : Bool) (fits : f ≡ leb (c.chars + n) (char_room h)) where
  pub text-long : not f ≡ true → Building (append_text k w) (lent t e h r ks) (lent t e h r ks) c (made (Err Room) (lent t e h r ks))
  text-long q = building_stopped (append-long k w _ (rw (table-length, ← long) (sym fits ∙ not-true f q)))

  module _ (q : not f ≡ false) (g : Bool) (one : g ≡ ltb c.terms (term_room t)) where
    pub text-full : not g ≡ true → Building (append_text k w) (lent t e h r ks) (lent t e h r ks) c (made (Err Room) (lent t e h r ks))
    text-full u = building_stopped (append-full k w _ (rw (table-length, ← long) (sym fits ∙ not-false f q)) (rw table-length (sym one ∙ not-true g u)))

    module _ (ready : Ready (lent t e h r ks) c) (text : within 2 k ≡ true) (b : ℕ) (bucketed : b ≡ bucket_of k w) where
      pub text-made : not g ≡ false → {t' h' : List ℕ} {d d' : State} → CharsPut h h' c.chars w → length h' ≡ length h
          → TermPut t t' c.terms k c.chars n b → length t' ≡ length t → d ≡ more_chars c n → d' ≡ one_term d
          → Building (append_text k w) (lent t e h r ks) (lent t' e h' r ks) c (made (Ok ((c.terms + 1), d')) (lent t' e h' r ks))
      text-made u {t'} {h'} {d} {d'} p lp v lv x y =
          record {
            says = new ∙ stored;
            kept = record { store = (let a = v.kept in let b = p.kept in let z = v.zero in cc); index = v.linked.kept };
            indexed = λ f a q same. indexed-made (lent t e h r ks) c t' b s₀.cells (s₀.chars ++ w) k (length s₀.chars) (length w) (store_of (lent t' e h' r ks) d') (store_of (lent t' e h' r ks) f) ready v.linked (one_store q) (sym stored_is) same (λ s i. made-text k w s₀ s text i ∙ sym bucketed);
          }
        where
          s₀ : Store
          s₀ = store_of (lent t e h r ks) c

          new : append_text k w s₀ ≡ ok (grow s₀ s₀.cells (s₀.chars ++ w) k (length s₀.chars) (length w)) (suc (count s₀))
          new = append-new k w s₀ (rw (table-length, ← long) (sym fits ∙ not-false f q)) (rw table-length (sym one ∙ not-false g u))

          stored : ok (grow s₀ s₀.cells (s₀.chars ++ w) k (length s₀.chars) (length w)) (suc (count s₀)) ≡ ok (store_of (lent t' e h' r ks) d') (c.terms + 1)
          stored = rw (y, x, add-one, v.grown, long, p.grown, v.zero, lp, lv, table-length, table-length)

          stored_is : grow s₀ s₀.cells (s₀.chars ++ w) k (length s₀.chars) (length w) ≡ store_of (lent t' e h' r ks) d'
          stored_is = one_store stored

-- THE TEXT SOUGHT in the words: t₀ is what the search found

module _ {t e h r ks : List ℕ} {c : State} (ready : Ready (lent t e h r ks) c) (k : ℕ) (text : within 2 k ≡ true) (w : List ℕ) (t₀ : ℕ)
    (look : t₀ ≡ number_of (first_below (λ i. has_text t h k w (suc i)) c.terms)) where
  looked : t₀ ≡ number_of (lookup (text_of k w) (store_of (lent t e h r ks) c))
  looked = look ∙ ap number_of (found-text (lent t e h r ks) c k w (texts-within (lent t e h r ks) c k ready text))

  pub text-found : (t₀ ≡ 0 → ⊥) → Building (make_text k w) (lent t e h r ks) (lent t e h r ks) c (made (Ok (t₀, c)) (lent t e h r ks))
  unfolding make_text
  text-found d = building_found ready (lowest-old (text_of k w) (append_text k w) (store_of (lent t e h r ks) c) t₀ looked d)

  pub text-new : {m' : Lent} {o : Out ℕ} → t₀ ≡ 0 → Building (append_text k w) (lent t e h r ks) m' c o → Building (make_text k w) (lent t e h r ks) m' c o
  unfolding make_text
  text-new z p = building_is (lowest-new (text_of k w) (append_text k w) (store_of (lent t e h r ks) c) t₀ looked z) p

-- what the tests of room say of the numbers
module _ {t e h r ks : List ℕ} {c : State} (sized : Sized (lent t e h r ks) c) (f : Bool) (q : not f ≡ false) where
  pub long-limit : (n : ℕ) → f ≡ leb (c.chars + n) (char_room h) → c.chars + n ≤ char_limit
  long-limit n e = chars-limit h c.chars n (sym e ∙ not-false f q)

  pub long-room : (n : ℕ) → f ≡ leb (c.chars + n) (char_room h) → c.chars + n ≤ length h
  long-room n e = chars-room h c.chars n (sym e ∙ not-false f q)

  pub one-limit : f ≡ ltb c.terms (term_room t) → c.terms < term_limit
  one-limit e = term_limit_lem t c.terms (sym e ∙ not-false f q)

  pub one-room : f ≡ ltb c.terms (term_room t) → term_words (c.terms + 1) ≤ length t
  one-room e = term_room_lem t c.terms (sym e ∙ not-false f q)

  pub next-limit : {d : State} (n : ℕ) → d ≡ more_chars c n → f ≡ ltb c.terms (term_room t) → d.terms < term_limit
  next-limit n x e = rw x (one-limit e)

-- a constant is a text of kind 1, a variable one of kind 2
constant-is : (w : List ℕ) (s : Store) → make_constant w s ≡ make_text 1 w s
unfolding make_text make_constant lowest lookup text_of constant_of
constant-is w s = refl

variable-is : (w : List ℕ) (s : Store) → make_variable w s ≡ make_text 2 w s
unfolding make_text make_variable lowest lookup text_of named
variable-is w s = refl

-- a name that is not found
name_is-new : (w : List ℕ) (s : Store) → lookup (named w) s ≡ none → make_variable w s ≡ append_text 2 w s
unfolding make_variable lowest
name_is-new w s e = rw e

module _ (w : List ℕ) {m m' : Lent} {c : State} {o : Out ℕ} (ready : Ready m c) where
  pub constant-made : constant_arguments w (store_of m c) ≡ true → Building (make_text 1 w) m m' c o → Working (make_constant w) m m' c o
  constant-made good b = works ready (λ s t e. made-good (constant-fit (store_of m c) s t ready.audited w good e)) (building_is (constant-is w (store_of m c)) b)

  module _ (good : variable_arguments w (store_of m c) ≡ true) where
    variable-works : Building (make_variable w) m m' c o → Working (make_variable w) m m' c o
    variable-works b = works ready (λ s t e. made-good (variable-fit (store_of m c) s t ready.audited w good e)) b

    pub variable-made : Building (make_text 2 w) m m' c o → Working (make_variable w) m m' c o
    variable-made b = variable-works (building_is (variable-is w (store_of m c)) b)

    pub variable-new : lookup (named w) (store_of m c) ≡ none → Building (append_text 2 w) m m' c o → Working (make_variable w) m m' c o
    variable-new e b = variable-works (building_is (name_is-new w (store_of m c) e) b)
