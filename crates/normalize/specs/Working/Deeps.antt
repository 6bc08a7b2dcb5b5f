-- Working definitions: the rounds of a deep form, with the concatenations met in a table.
use Rattle.std.specs.Prelude.{◌≡◌, Bool, true, not, ◌&&◌, List, [], ◌++◌, reverse, ℕ, ◌*◌, ◌≤◌, length, get_or, eqb, ltb, Result, Ok, Err, Some, None, if◌then◌else◌}
use Rattle.std.specs.Prelude as code
use Rattle.std.proofs.Math.Option.{Option, none, some}
use Rattle.records.specs.declared.State.{State}
use Rattle.records.specs.declared.refusal.Refusal.{Refusal}
use Rattle.records.specs.Refusal.{number}
use Rattle.records.specs.Lists.{all, any, is_in}
use Rattle.records.specs.Store.{Term, Store, Out, ok, stop, Work, ◌>>=◌, give, store, term_in, is_string}
use Rattle.records.specs.View.{Lent, store_of, term_limit}
use Rattle.records.specs.Working.Doing.{Keeps, ReadyFor}
use Rattle.normalize.specs.Normalize.{normal_form, push_all, deep_limit, opens, Round, expand, settle, after_expand}
use Rattle.normalize.specs.Calls.{first_words, words_if, deepened}
use Rattle.normalize.specs.declared.Turn.{Turn}
use Rattle.normalize.specs.declared.Turn.TheVariants as turn

abbrev pub opens_in : List Term → ℕ → ℕ → Bool
opens_in ts t a = eqb (term_in ts a).kind 3 && not (eqb a t)

abbrev pub is_met : List ℕ → ℕ → Bool
is_met table x = eqb (get_or table x 0) 1

-- the concatenations met are those of which the table tells
pub record Met (table met : List ℕ) : Type 0 where
  pub size : length table ≡ 513
  pub tells : (x : ℕ) → x ≤ term_limit → is_met table x ≡ is_in x met

pub record MetTable (table : List ℕ) : Type 0 where
  pub met : List ℕ
  pub is : Met table met

-- a round's list of at most 256 string terms, the table of what was met, and room for the next list
pub record RoundOf (s : Store) (list : List ℕ) (count : ℕ) (table next : List ℕ) : Type 0 where
  pub strings : all (is_string s) (first_words list count) ≡ true
  pub short : count ≤ deep_limit
  pub within : count ≤ length list
  pub told : MetTable table
  pub room : 2 * deep_limit ≤ length next

-- the normal form of a concatenation after the list so far
unfoldable pub expand_atom : List ℕ → ℕ → List ℕ → Work (Option (List ℕ))
expand_atom known a list = do
  form ← normal_form known a
  if ltb deep_limit (length (list ++ form)) then give none else give (some (list ++ form))

-- a round so far, unless the count of its list is None
abbrev pub round_if : code.Option ℕ → List ℕ → List ℕ → Option Round
round_if (Some n) met l = some (record { list = first_words l n; met = met })
round_if None met l = none

-- what an expansion ends with: the list so far, None, or the refusal
abbrev pub expanded : Result (code.Option ℕ × State) Refusal → List ℕ → Lent → List ℕ → Out (Option Round)
expanded (Ok x) met m l = ok (store_of m x.1) (round_if x.0 met l)
expanded (Err e) met m l = stop (number e)

pub record ExpandedTo (o : Out (Option Round)) (m : Lent) (next table : List ℕ) (x : Result (code.Option ℕ × State) Refusal) : Type 0 where
  pub met : List ℕ
  pub is : o ≡ expanded x met m next
  pub tells : (n : ℕ) (c : State) → x ≡ Ok (Some n, c) → Met table met

-- the atoms l expanded after the first k words of a slice
pub record Expands (known : List ℕ) (t : ℕ) (l next : List ℕ) (k : ℕ) (table : List ℕ) (m m' : Lent) (c : State) (next' table' : List ℕ) (x : Result (code.Option ℕ × State) Refusal) : Type 0 where
  pub kept : Keeps m m' c
  pub ready : ReadyFor m' (deepened x m' next')
  pub is : (met : List ℕ) → Met table met → ExpandedTo (expand known t l (record { list = first_words next k; met = met }) (store_of m c)) m' next' table' x

-- what a round ends with: another round over its list, the answer, or the refusal
abbrev pub settled : Result Turn Refusal → (List ℕ → Work (Option (List ℕ))) → Lent → List ℕ → Out (Option (List ℕ))
settled (Ok (turn.Again n c)) more m l = more (first_words l n) (store_of m c)
settled (Ok (turn.Ends x c)) more m l = ok (store_of m c) (words_if x l)
settled (Err e) more m l = stop (number e)

-- its list, the answer, or the refusal
abbrev pub turned : Result Turn Refusal → Lent → List ℕ → Out (Option (List ℕ))
turned x m l = settled x (λ v. give (some v)) m l

-- the joining after a round that began with `before`
abbrev pub settling : List ℕ → List ℕ → (List ℕ → Work (Option (List ℕ))) → Work (Option (List ℕ))
settling before list more = push_all list [] >>= (λ out. settle before more (reverse out))

pub record Settles (before list : List ℕ) (m m' : Lent) (c : State) (l : List ℕ) (x : Result Turn Refusal) : Type 0 where
  pub kept : Keeps m m' c
  pub ready : ReadyFor m' (turned x m' l)
  pub is : (more : List ℕ → Work (Option (List ℕ))) → settling before list more (store_of m c) ≡ settled x more m' l

-- one round, and what follows it
unfoldable pub round_then : List ℕ → ℕ → List ℕ → List ℕ → (List ℕ → List ℕ → Work (Option (List ℕ))) → Work (Option (List ℕ))
round_then known t met l more = do
  s ← store
  if any (opens s t) l then (expand known t l (record { list = []; met = met }) >>= after_expand l more) else give (some l)

pub record TurnedTo (o : (List ℕ → List ℕ → Work (Option (List ℕ))) → Out (Option (List ℕ))) (m : Lent) (l table : List ℕ) (x : Result Turn Refusal) : Type 0 where
  pub met : List ℕ
  pub is : (more : List ℕ → List ℕ → Work (Option (List ℕ))) → o more ≡ settled x (more met) m l
  pub tells : (n : ℕ) (c : State) → x ≡ Ok (turn.Again n c) → Met table met

pub record Turns (known : List ℕ) (t : ℕ) (l table : List ℕ) (m m' : Lent) (c : State) (l' table' : List ℕ) (x : Result Turn Refusal) : Type 0 where
  pub kept : Keeps m m' c
  pub ready : ReadyFor m' (turned x m' l')
  pub is : (met : List ℕ) → Met table met → TurnedTo (λ more. round_then known t met l more (store_of m c)) m' l' table' x
