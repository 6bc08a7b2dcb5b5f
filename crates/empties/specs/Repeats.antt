-- Document 02, Note 3: 'the list that repeated calls would give, each merge landed by Note 1 before the next call'.
use Rattle.std.specs.Prelude.{◌≡◌, Bool, true, false, ◌&&◌, List, [], ◌∷◌, ◌++◌, map, ℕ, zero, suc, ◌<◌, length, get_or, ℤ}
use Rattle.records.specs.Lists.{concat_map}
use Rattle.records.specs.Store.{Store, Out, ok, stop, same_class}
use Rattle.records.specs.Rules.{is_reason_kind, is_number}
use Rattle.normalize.specs.Normalize.{atoms}
use Rattle.sides.specs.Wordeq.{Answer, done, saturated, conflict, propagate, split, resolve}
use Rattle.classes.specs.Marks.{Trail}
use Rattle.classes.specs.Calls.{Outcome, gives, refuses, join_terms}
use Rattle.empties.specs.Empties.{is_label, Parts}

-- a Propagate: the variable, the word, the link flag
pub record Entry : Type 0 where
  pub variable : ℕ
  pub word : ℕ
  pub link : Bool

-- the Propagates that calls gave, in order, and the answer of the call after the last of them; or the number of a refusal; or every call
-- gave a Propagate
pub data Listing : Type 0 where
  lists : List Entry → Answer → Listing
  stops : ℕ → Listing
  goes_on : Listing

abbrev pub put : Entry → Listing → Listing
put e (lists l a) = lists (e ∷ l) a
put e (stops k) = stops k
put e goes_on = goes_on

-- 'each merge landed by Note 1 before the next call': next is what the calls after it give
abbrev pub landed : (Store → Trail → Listing) → Outcome → Listing
landed next (gives s x n) = next s x
landed next (refuses k) = stops k

-- a Propagate's variable is joined with its word under a reason of kind k and number n, and the call is made again; any other answer is
-- the end
abbrev pub answered : (Store → Trail → Listing) → ℕ → ℕ → Trail → Out Answer → Listing
answered next k n x (ok s done) = lists [] done
answered next k n x (ok s saturated) = lists [] saturated
answered next k n x (ok s conflict) = lists [] conflict
answered next k n x (ok s (propagate v w f)) = put (record { variable = v; word = w; link = f }) (landed next (join_terms v w k n s x))
answered next k n x (ok s (split l g j)) = lists [] (split l g j)
answered next k n x (stop j) = stops j

-- the ordinary call on two lists, again and again, at most as many times as is said; `why` has the reason of each merge
unfoldable pub repeated : ℕ → (ℕ → ℕ × ℕ) → List ℕ → List ℕ → ℤ → Store → Trail → Listing
repeated zero why l r g s x = goes_on
repeated (suc m) why l r g s x = answered (repeated m why l r g) (why m).0 (why m).1 x (resolve l r g s)

-- the variables of l as Propagates, each with the word e and the link flag f
abbrev pub entries : ℕ → Bool → List ℕ → List Entry
entries e f l = map (λ v. record { variable = v; word = e; link = f }) l

-- what the one call lists: each variable with the number of "" and the link flag, which 'holds for all entries'; and Done after them
abbrev pub listing : Out Parts → Listing
listing (ok s x) = lists (entries x.empty x.link x.listed) done
listing (stop k) = stops k

-- reasons that a join takes
abbrev pub Reasons : (ℕ → ℕ × ℕ) → Type 0
Reasons why = (i : ℕ) → (is_reason_kind (why i).0 && is_number (why i).1) ≡ true

-- s is the store at entry, o the answer. 'It gives the list that repeated calls would give': for lists of the form, more calls than there
-- are atoms give these Propagates and then Done. 'For lists of that form an empty result means that the ordinary call gives no Propagate.'
-- 'Two variables of one class give one entry'
pub record Repeats (s : Store) (l r : List ℕ) (o : Out Parts) : Type 0 where
  pub list : is_label s l r ≡ true → (calls : ℕ) → length (concat_map (atoms s) (l ++ r)) < calls
      → (why : ℕ → ℕ × ℕ) → Reasons why → (g : ℤ) (x : Trail) → repeated calls why l r g s x ≡ listing o
  pub none : is_label s l r ≡ true → (s' : Store) (x : Parts) → o ≡ ok s' x → x.listed ≡ []
      → (g : ℤ) (s'' : Store) (v w : ℕ) (f : Bool) → resolve l r g s ≡ ok s'' (propagate v w f) → ⊥
  pub apart : (s' : Store) (x : Parts) → o ≡ ok s' x → (i j : ℕ) → i < j → j < length x.listed
      → same_class s' (get_or x.listed i 0) (get_or x.listed j 0) ≡ false
