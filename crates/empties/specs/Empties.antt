-- Document 02, Note 3: every empty part of a label.
use Rattle.std.specs.Prelude.{Bool, true, false, ◌&&◌, ◌||◌, List, [], ◌∷◌, ℕ, length, eqb, ltb, leb, if◌then◌else◌}
use Rattle.records.specs.Lists.{all, any, concat_map, one_more}
use Rattle.records.specs.Store.{Store, Work, ◌>>=◌, give, store, is_variable, same_class}
use Rattle.records.specs.Make.{make_constant}
use Rattle.normalize.specs.Normalize.{atoms, flatten}

-- 'one flattened list is empty and the other is two or more variables': l is the empty one, and places are counted, not variables
abbrev pub empty_against : Store → List ℕ → List ℕ → Bool
empty_against s l r = eqb (length l) 0 && leb 2 (length r) && all (is_variable s) r

-- the flattened lists have that form, whichever of the two is empty
unfoldable pub is_label : Store → List ℕ → List ℕ → Bool
is_label s l r = empty_against s (concat_map (atoms s) l) (concat_map (atoms s) r) || empty_against s (concat_map (atoms s) r) (concat_map (atoms s) l)

-- the variables of a list that are of no class met before, in place order: 'Two variables of one class give one entry'. met holds a term
-- of each class that was met
unfoldable pub unmet : Store → List ℕ → List ℕ → List ℕ
unmet s met [] = []
unmet s met (v ∷ l) = elim (any (same_class s v) met) [ true ↦ unmet s met l | false ↦ v ∷ unmet s (one_more met v) l ]

-- the answer: the number of "", 0 where the lists have another form; the variables; the link flag
pub record Parts : Type 0 where
  pub empty : ℕ
  pub listed : List ℕ
  pub link : Bool

-- the link flag of n entries: it is set where there are some
abbrev pub linked : ℕ → Bool
linked n = ltb 0 n

-- 'The link flag holds for all entries'
abbrev pub parts_of : ℕ → List ℕ → Parts
parts_of e l = record { empty = e; listed = l; link = linked (length l) }

-- 'makes "" as step 4 does and returns all of them that must still become ""': those that are not of its class
unfoldable pub emptied : List ℕ → Work Parts
emptied l = do
  e ← make_constant []
  s ← store
  give (parts_of e (unmet s (e ∷ []) l))

-- 'for other lists it only returns none'
unfoldable pub sides : List ℕ → List ℕ → Work Parts
sides l r = do
  s ← store
  if empty_against s l r then emptied r else if empty_against s r l then emptied l else give (parts_of 0 [])

-- both lists flattened, left first
unfoldable pub empty_parts : List ℕ → List ℕ → Work Parts
empty_parts l r = do
  l₁ ← flatten l
  r₁ ← flatten r
  sides l₁ r₁
