-- What explain_rec and expand_edge promise: they do what `walked` and `edge` say, the table having the pairs seen.
use Rattle.std.specs.Prelude.{◌≡◌, Bool, true, false, List, ◌++◌, ℕ, ◌+◌, ◌*◌, ◌≤◌, ◌<◌, length, ltb, Option, Some, None, Result, Ok, Err, IfOk}
use Rattle.records.specs.declared.State.{State}
use Rattle.records.specs.declared.refusal.Refusal.{Refusal}
use Rattle.records.specs.declared.refusal.Refusal.TheVariants.{Reasons}
use Rattle.records.specs.Refusal.{number}
use Rattle.records.specs.Lists.{up_to, one_more}
use Rattle.records.specs.Store.{Term, Store, Out, ok, stop, Work, is_term, is_edge, top, above_in}
use Rattle.records.specs.View.{Slice, term_words, terms_view, cells_view, pairs_view, reason_room}
use Rattle.records.specs.Make.{with_reasons, is_listed}
use Rattle.records.specs.Working.Audited.{Audited}
use Rattle.engine.specs.Explain.{Seen, edge, walked, explain}
use Rattle.engine.specs.Working.Seen.{triangle, Tables}
use Rattle.engine.specs.Working.Listing.{Besides}

-- an audited store with the lent terms, all of whose words are lent, and cells, and the room of the lent reasons
pub record Standing (terms cells reasons : List ℕ) (n k : ℕ) : Type 0 where
  pub store : Store
  pub audited : Audited store
  pub words : term_words n ≤ length terms
  pub terms_are : store.terms ≡ terms_view terms n
  pub cells_are : store.cells ≡ cells_view cells k
  pub room_is : store.room.reasons ≡ reason_room reasons

-- two terms of one tree
pub record Together (s : Store) (p : ℕ × ℕ) : Type 0 where
  pub left : is_term s p.0 ≡ true
  pub right : is_term s p.1 ≡ true
  pub tree : top s p.0 ≡ top s p.1

-- an edge of the store
pub record Edge (s : Store) (t : ℕ) : Type 0 where
  pub here : is_term s t ≡ true
  pub joins : is_edge s t ≡ true

-- the table is long enough for n terms, of which there are not too many: a bit for each pair from its start, a word for each number up
-- to n from its end
pub record Wide (n : ℕ) (table : List ℕ) : Type 0 where
  pub few : n ≤ 512
  pub long : 32 * (n + 1) + triangle n + n < 32 * length table

pub record Walkable (terms cells table reasons : List ℕ) (n k count : ℕ) (P : Store → Type 0) : Type 0 where
  pub standing : Standing terms cells reasons n k
  pub fit : P standing.store
  pub wide : Wide n table
  pub roomy : count ≤ reason_room reasons

-- a walk that gave its reasons
pub record Came (s : Store) (n : ℕ) (table reasons : List ℕ) (count : ℕ) (o : Out Seen) : Type 0 where
  pub seen : Seen
  pub tabled : Tables n table seen
  pub is : o ≡ ok (with_reasons s (pairs_view reasons count)) seen

-- what a walk came to
abbrev pub Shows : Store → ℕ → List ℕ → List ℕ → Result ℕ Refusal → Out Seen → Type 0
Shows s n table reasons (Ok d) o = Came s n table reasons d o
Shows s n table reasons (Err e) o = o ≡ stop (number e)

-- from a table and reasons to a table and reasons: what is counted stays, and the work is done
pub record Walks (work : Seen → Work Seen) (P : Store → Type 0) (terms cells table table' reasons reasons' : List ℕ) (n k count : ℕ) (r : Result ℕ Refusal) : Type 0 where
  pub kept : pairs_view reasons' count ≡ pairs_view reasons count
  pub more : IfOk r (λ d. count ≤ d)
  pub fits : IfOk r (λ d. count ≤ reason_room reasons → d ≤ reason_room reasons)
  pub shows : (e : Standing terms cells reasons n k) → P e.store → (seen : Seen) → Tables n table seen
      → Shows e.store n table' reasons' r (work seen (with_reasons e.store (pairs_view reasons count)))

-- the edges ahead on a path: from x up to m, and then from b up to m unless x is on b's side
abbrev pub ahead : List Term → ℕ → ℕ → Bool → ℕ → List ℕ
ahead ts m b true x = up_to m (above_in ts x)
ahead ts m b false x = up_to m (above_in ts x) ++ up_to m (above_in ts b)

-- one reason more, where the list lacks it and it fits; of the places the slot at most is written
pub record Gives (l l' places places' : List ℕ) (n kind value slot : ℕ) (r : Result ℕ Refusal) : Type 0 where
  pub kept : pairs_view l' n ≡ pairs_view l n
  pub listed : is_listed (kind, value) (pairs_view l n) ≡ true → r ≡ Ok n
  pub given : is_listed (kind, value) (pairs_view l n) ≡ false → ltb n (reason_room l) ≡ true
      → (r ≡ Ok (n + 1)) × (pairs_view l' (n + 1) ≡ one_more (pairs_view l n) (kind, value))
  pub full : is_listed (kind, value) (pairs_view l n) ≡ false → ltb n (reason_room l) ≡ false → r ≡ Err Reasons
  pub elsewhere : Besides places places' slot

-- what an explanation came to, with its reasons
abbrev pub explained : Store → List ℕ → Result ℕ Refusal → Out (Unit {0})
explained s reasons (Ok d) = ok (with_reasons s (pairs_view reasons d)) tt
explained s reasons (Err e) = stop (number e)

-- a pair explained from no pair seen
pub record Explained (terms cells reasons reasons' : List ℕ) (n k a b count : ℕ) (r : Result ℕ Refusal) : Type 0 where
  pub kept : pairs_view reasons' count ≡ pairs_view reasons count
  pub comes : (e : Standing terms cells reasons n k) → Together e.store (a, b)
      → explain a b (with_reasons e.store (pairs_view reasons count)) ≡ explained e.store reasons' r

-- terms and cells of which a pair can be explained
pub record Explainable (terms cells reasons : List ℕ) (n k a b count : ℕ) : Type 0 where
  pub standing : Standing terms cells reasons n k
  pub together : Together standing.store (a, b)
  pub roomy : count ≤ reason_room reasons

-- of a walk without a table, unless it met a congruence edge
abbrev pub IfEnded : (Result ℕ Refusal → Type 0) → Result (Option ℕ) Refusal → Type 0
IfEnded Done (Ok (Some d)) = Done (Ok d)
IfEnded Done (Ok None) = Unit {0}
IfEnded Done (Err e) = Done (Err e)

-- a walk without a table: what is counted stays, and the work is done unless a congruence edge was met
pub record Plainly (Done : Result ℕ Refusal → Type 0) (reasons reasons' : List ℕ) (count : ℕ) (p : Result (Option ℕ) Refusal) : Type 0 where
  pub kept : pairs_view reasons' count ≡ pairs_view reasons count
  pub done : IfEnded Done p

-- an edge without pairs leaves every table as it was
abbrev pub PlainEdge : List ℕ → List ℕ → List ℕ → ℕ → ℕ → Result ℕ Refusal → Type 0
PlainEdge terms reasons reasons' node count r = (cells table : List ℕ) (n k : ℕ) → Walks (edge walked node) (λ s. Edge s node) terms cells table table reasons reasons' n k count r

-- a path without congruence edges is explained whatever the cells are
abbrev pub PlainPath : List ℕ → List ℕ → List ℕ → ℕ → ℕ → ℕ → ℕ → Result ℕ Refusal → Type 0
PlainPath terms reasons reasons' n a b count r = (cells : List ℕ) (k : ℕ) → Explained terms cells reasons reasons' n k a b count r

-- terms of which, with some cells, a pair can be explained
pub record PlainPair (terms reasons : List ℕ) (n a b count : ℕ) : Type 0 where
  pub cells : List ℕ
  pub k : ℕ
  pub can : Explainable terms cells reasons n k a b count

-- THE WORDS OF CONTRACTS. Slices are passed by their names, and the counts as they were at entry

-- a walk from the table and the reasons at entry to those at exit
abbrev pub Along : (List ℕ → List ℕ → List ℕ → List ℕ → List ℕ → List ℕ → ℕ → ℕ → ℕ → Result ℕ Refusal → Type 0) → Slice → Slice → Slice → Slice → ℕ → ℕ → ℕ → Result ℕ Refusal → Type 0
Along P terms cells seen reasons n k count r =
    P terms.entry.now cells.entry.now seen.entry.now seen.exit.now reasons.entry.now reasons.exit.now n k count r

-- a pair explained from the reasons at entry to those at exit
abbrev pub PairExplained : Slice → Slice → Slice → State → ℕ → ℕ → Result ℕ Refusal → Type 0
PairExplained terms cells reasons c a b r =
    Explained terms.entry.now cells.entry.now reasons.entry.now reasons.exit.now c.terms c.cells a b c.reasons r
