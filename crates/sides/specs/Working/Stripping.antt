-- What the working functions of step 1 read, and what they answer.
use Rattle.std.specs.Prelude.{◌≡◌, Bool, true, false, List, reverse, ℕ, ◌-◌, ◌≤◌, length, take, drop, Result, Ok, Err}
use Rattle.records.specs.declared.State.{State}
use Rattle.records.specs.declared.refusal.Refusal.{Refusal}
use Rattle.records.specs.Refusal.{number}
use Rattle.records.specs.Lists.{any}
use Rattle.records.specs.Store.{Store, Out, ok, stop, is_string}
use Rattle.records.specs.View.{Lent, lent, store_of}
use Rattle.records.specs.Working.Audited.{Ready}
use Rattle.records.specs.Working.Doing.{Working}
use Rattle.sides.specs.declared.Rest.{Rest}
use Rattle.sides.specs.declared.Stripped.{Stripped}
use Rattle.sides.specs.Wordeq.{same_heads, same_tails, matches, needs_reason, rest, is_bare, strip}

-- the terms and the characters of a store that passes the audit
pub record Readable (t h : List ℕ) (c : State) : Type 0 where
  pub cells : List ℕ
  pub reasons : List ℕ
  pub keys : List ℕ
  pub ready : Ready (lent t cells h reasons keys) c

-- two string terms
pub record Pair (s : Store) (a b : ℕ) : Type 0 where
  pub one : is_string s a ≡ true
  pub other : is_string s b ≡ true

-- a list from its front on, or from its end on
unfoldable pub way : Bool → List ℕ → List ℕ
way false l = l
way true l = reverse l

-- the part of a list from place i up to place e
abbrev pub part : List ℕ → ℕ → ℕ → List ℕ
part l i e = take (e - i) (drop i l)

-- two parts from place i on, up to x and y, are within the lists
abbrev pub Within : ℕ → ℕ → ℕ → List ℕ → List ℕ → Type 0
Within i x y l r = (i ≤ x) × (x ≤ length l) × (i ≤ y) × (y ≤ length r)

-- the places of what is left: where both parts begin, and where the left and the right one end
pub record Finds (s : Store) (l r : List ℕ) (x : Rest) : Type 0 where
  pub heads : x.from ≡ length (same_heads s l r)
  pub left : x.lhs ≡ length l - length (same_tails s x.from l r)
  pub right : x.rhs ≡ length r - length (same_tails s x.from l r)
  pub is : rest s l r ≡ (part l x.from x.lhs, part r x.from x.rhs)
  pub inside : Within x.from x.lhs x.rhs l r

-- some of these matches needs a reason
pub record Needs (m : Lent) (c : State) (ps : List (ℕ × ℕ)) (b : Bool) : Type 0 where
  pub is : b ≡ any (needs_reason (store_of m c)) ps

-- that some stripped match needs a reason, asked where something is left
pub record Asked (m : Lent) (c : State) (l r : List ℕ) (i x y : ℕ) (b : Bool) : Type 0 where
  pub is : is_bare (part l i x) (part r i y) ≡ false → b ≡ any (needs_reason (store_of m c)) (matches (store_of m c) l r)

abbrev pub stripped : Result Stripped Refusal → Lent → List ℕ → List ℕ → Out (List ℕ × List ℕ)
stripped (Ok x) m l r = ok (store_of m x.counts) (part l x.rest.from x.rest.lhs, part r x.rest.from x.rest.rhs)
stripped (Err e) m l r = stop (number e)

abbrev pub Inside : Result Stripped Refusal → List ℕ → List ℕ → Type 0
Inside (Ok x) l r = Within x.rest.from x.rest.lhs x.rest.rhs l r
Inside (Err e) l r = Unit {0}

abbrev pub Needed : Lent → State → List ℕ → List ℕ → Result Stripped Refusal → Type 0
Needed m c l r (Ok x) = Asked m c l r x.rest.from x.rest.lhs x.rest.rhs x.needed
Needed m c l r (Err e) = Unit {0}

pub record Strips (m m' : Lent) (c : State) (l r : List ℕ) (o : Result Stripped Refusal) : Type 0 where
  pub is : Working (strip l r) m m' c (stripped o m' l r)
  pub inside : Inside o l r
  pub needs : Needed m c l r o
