-- Document 01, 'Wordeq' and 'Departures': two lists of terms, steps 1 to 8.
use Rattle.std.specs.Prelude.{Bool, true, false, not, ◌&&◌, ◌||◌, List, [], ◌∷◌, ◌++◌, reverse, ℕ, suc, ◌+◌, ◌-◌, ◌*◌, ◌/◌, length, take, drop, ℤ, pos, negsuc, neg_ℤ, eqb, ltb, if◌then◌else◌}
use Rattle.std.proofs.Math.Option.{Option, none, some}
use Rattle.records.specs.Lists.{all, any, first_of, keep, concat_map, same_word, is_in}
use Rattle.records.specs.Store.{Store, ok, Work, ◌>>=◌, ◌>>◌, give, store, is_constant, is_variable, is_concat, text, same_class}
use Rattle.records.specs.Make.{with_reasons, add_key, is_key, is_some, lookup, constant_of, length_of, equation_of, make_constant, make_variable, make_concat, make_length, make_equation, strk, take_name}
use Rattle.engine.specs.Explain.{explain, is_reasoned}
use Rattle.normalize.specs.Normalize.{flatten}
use Rattle.records.specs.Rules.{is_list}

-- the answers: Propagate's variable, word and link flag; Split's atoms, the guard negated and the number of terms made
pub data Answer : Type 0 where
  done : Answer
  saturated : Answer
  conflict : Answer
  propagate : ℕ → ℕ → Bool → Answer
  split : List ℕ → ℤ → ℕ → Answer

-- a step answers, or the next step is tried
abbrev pub Tried : Type 0
Tried = Work (Option Answer)

abbrev pub answer : Answer → Tried
answer x = give (some x)

abbrev pub pass : Tried
pass = give none

abbrev pub settled : Tried → Option Answer → Tried
settled n (some x) = answer x
settled n none = n

infixl 6 ◌or_else◌
abbrev pub ◌or_else◌ : Tried → Tried → Tried
m or_else n = m >>= settled n

-- '"Same" is: same number; for two constants, equal characters; else same class'
unfoldable pub same : Store → ℕ → ℕ → Bool
same s a b = eqb a b || (if is_constant s a && is_constant s b then same_word (text s a) (text s b) else same_class s a b)

-- a side of constants: 'An empty list counts as a constant side'
unfoldable pub fixed : Store → List ℕ → Bool
fixed s l = all (is_constant s) l

-- the characters of an atom that is a constant, and the constant characters of a side
unfoldable pub letters_of : Store → ℕ → List ℕ
letters_of s a = if is_constant s a then text s a else []

unfoldable pub letters : Store → List ℕ → List ℕ
letters s l = concat_map (letters_of s) l

-- 1. 'Strip same heads, then same tails, explaining class matches. Nothing left: Done'

-- the pairs of same heads of two lists, in order
unfoldable pub same_heads : Store → List ℕ → List ℕ → List (ℕ × ℕ)
same_heads s [] r = []
same_heads s (a ∷ l) [] = []
same_heads s (a ∷ l) (b ∷ r) = elim (same s a b) [ true ↦ (a, b) ∷ same_heads s l r | false ↦ [] ]

-- the pairs of same tails of two lists without their first n atoms, from the ends on
unfoldable pub same_tails : Store → ℕ → List ℕ → List ℕ → List (ℕ × ℕ)
same_tails s n l r = same_heads s (reverse (drop n l)) (reverse (drop n r))

-- the matches that are stripped
abbrev pub matches : Store → List ℕ → List ℕ → List (ℕ × ℕ)
matches s l r = same_heads s l r ++ same_tails s (length (same_heads s l r)) l r

-- a list without n heads and k tails
abbrev pub inner : ℕ → ℕ → List ℕ → List ℕ
inner n k l = reverse (drop k (reverse (drop n l)))

-- what is left of both lists
unfoldable pub rest : Store → List ℕ → List ℕ → List ℕ × List ℕ
rest s l r =
    let n = length (same_heads s l r) in
    let k = length (same_tails s n l r) in
    (inner n k l, inner n k r)

-- one number or two constants need no reason
unfoldable pub explain_match : ℕ → ℕ → Work (Unit {0})
explain_match a b = do
  s ← store
  if eqb a b || (is_constant s a && is_constant s b) then give tt else explain a b

unfoldable pub explain_matches : List (ℕ × ℕ) → Work (Unit {0})
explain_matches [] = give tt
explain_matches (p ∷ l) = explain_match p.0 p.1 >> explain_matches l

-- 'a stripped class match has a non-empty explanation of its own'
unfoldable pub needs_reason : Store → ℕ × ℕ → Bool
needs_reason s p = if eqb p.0 p.1 || (is_constant s p.0 && is_constant s p.1) then false else is_reasoned s p.0 p.1

-- what is left is found first, and then each match is explained: reasons change nothing in what is the same
unfoldable pub strip : List ℕ → List ℕ → Work (List ℕ × List ℕ)
strip l r = do
  s ← store
  explain_matches (matches s l r) >> give (rest s l r)

-- 2. 'Occurs check, left single first: a lone non-constant against a list with an atom of its class and a non-empty constant: Conflict.'
-- Departure A: 'Conflict in step 2 needs an occurrence and a non-empty constant at two different places .. It then explains (first such
-- occurrence, lone atom)'

unfoldable pub is_full : Store → ℕ → Bool
is_full s a = is_constant s a && ltb 0 (length (text s a))

-- the first atom of x's class with a non-empty constant at another place; past holds the atoms before
unfoldable pub occurrence : Store → ℕ → List ℕ → List ℕ → Option ℕ
occurrence s x past [] = none
occurrence s x past (a ∷ l) = elim (same_class s a x && any (is_full s) (past ++ l)) [ true ↦ some a | false ↦ occurrence s x (past ++ (a ∷ [])) l ]

abbrev pub occurs_at : ℕ → Option ℕ → Tried
occurs_at x none = pass
occurs_at x (some y) = explain y x >> answer conflict

unfoldable pub occurs : List ℕ → List ℕ → Tried
occurs [] r = pass
occurs (x ∷ []) r = do
  s ← store
  if is_constant s x then pass else occurs_at x (occurrence s x [] r)
occurs (x ∷ y ∷ l) r = pass

-- 3. 'Both constant with different words; a constant side shorter than the other's constant characters; a constant character absent
-- from a constant side: Conflict'

unfoldable pub unequal : Store → List ℕ → List ℕ → Bool
unequal s l r = fixed s l && fixed s r && not (same_word (letters s l) (letters s r))

unfoldable pub short : Store → List ℕ → List ℕ → Bool
short s l r = fixed s l && ltb (length (letters s l)) (length (letters s r))

unfoldable pub absent : Store → List ℕ → List ℕ → Bool
absent s l r = fixed s l && any (λ c. not (is_in c (letters s l))) (letters s r)

unfoldable pub constants : List ℕ → List ℕ → Tried
constants l r = do
  s ← store
  if unequal s l r || short s l r || short s r l || absent s l r || absent s r l then answer conflict else pass

-- 4. 'Two lone variables, neither name beginning `!strk`: Propagate left to right.'

unfoldable pub is_plain : Store → ℕ → Bool
is_plain s v = is_variable s v && not (same_word (take 5 (text s v)) strk)

unfoldable pub alias : List ℕ → List ℕ → Tried
alias (a ∷ []) (b ∷ []) = do
  s ← store
  if is_plain s a && is_plain s b then answer (propagate a b false) else pass
alias (a ∷ []) [] = pass
alias (a ∷ []) (b ∷ c ∷ r) = pass
alias [] r = pass
alias (a ∷ c ∷ l) r = pass

-- 'Empty against two or more variables: make "", Propagate the first not same as it, link flag set.'
abbrev pub empties_at : ℕ → Option ℕ → Tried
empties_at e none = pass
empties_at e (some v) = answer (propagate v e true)

unfoldable pub empties : List ℕ → List ℕ → Tried
empties [] (a ∷ b ∷ r) = do
  s ← store
  if all (is_variable s) (a ∷ b ∷ r) then (do
    e ← make_constant []
    s₁ ← store
    empties_at e (first_of (λ v. not (same s₁ v e)) (a ∷ b ∷ r))) else pass
empties [] [] = pass
empties [] (a ∷ []) = pass
empties (x ∷ l) r = pass

-- 'A lone variable against constants: Propagate their joined word, "" for none.'
unfoldable pub assigns : List ℕ → List ℕ → Tried
assigns (a ∷ []) r = do
  s ← store
  if is_variable s a && fixed s r then (do
    w ← make_constant (letters s r)
    answer (propagate a w false)) else pass
assigns [] r = pass
assigns (a ∷ b ∷ l) r = pass

-- 5. 'One side constant, the other holding one variable class k times: solve k × m + c = l and compare each span. .. No fit: Conflict.'

-- the side with u for each variable
unfoldable pub filled : Store → List ℕ → List ℕ → List ℕ
filled s u r = concat_map (λ a. if is_constant s a then text s a else u) r

-- the characters before the first variable
unfoldable pub lead : Store → List ℕ → List ℕ
lead s [] = []
lead s (a ∷ r) = elim (is_constant s a) [ true ↦ text s a ++ lead s r | false ↦ [] ]

-- the length m of each variable, where k × m + c = l has a solution, and the first variable's span of the word
abbrev pub forced : Store → List ℕ → List ℕ → ℕ → ℕ
forced s w r k = (length w - length (letters s r)) / k

unfoldable pub first_span : Store → List ℕ → List ℕ → ℕ → List ℕ
first_span s w r k = take (forced s w r k) (drop (length (lead s r)) w)

-- there is such an m, and with the first variable's span for each variable the side is the word
unfoldable pub fits : Store → List ℕ → List ℕ → ℕ → Bool
fits s w r k = eqb (k * forced s w r k + length (letters s r)) (length w) && same_word (filled s (first_span s w r k) r) w

-- Departure B: 'A step 5 Conflict explains (later variable, first variable), in place order'
unfoldable pub explain_all : List ℕ → ℕ → Work (Unit {0})
explain_all [] v = give tt
explain_all (u ∷ l) v = explain u v >> explain_all l v

abbrev pub variables : Store → List ℕ → List ℕ
variables s r = keep (λ a. not (is_constant s a)) r

unfoldable pub tile_by : Store → List ℕ → List ℕ → List ℕ → Tried
tile_by s l r [] = pass
tile_by s l r (v ∷ vs) =
    if all (λ u. same s u v) vs && not (fits s (letters s l) r (suc (length vs))) then (explain_all vs v >> answer conflict) else pass

unfoldable pub tile : List ℕ → List ℕ → Tried
tile l r = do
  s ← store
  if fixed s l then tile_by s l r (variables s r) else pass

-- 6. 'Two constant heads that differ at a character: Conflict.'
unfoldable pub differ : List ℕ → List ℕ → Bool
differ [] w = false
differ (x ∷ v) [] = false
differ (x ∷ v) (y ∷ w) = not (eqb x y) || differ v w

unfoldable pub clashes : List ℕ → List ℕ → Tried
clashes [] r = pass
clashes (a ∷ l) [] = pass
clashes (a ∷ l) (b ∷ r) = do
  s ← store
  if is_constant s a && is_constant s b && differ (text s a) (text s b) then answer conflict else pass

-- 7. 'Where neither list is empty, variable head against a non-empty constant head, or else any variable head: if .., Saturated, no key. If
-- the unordered head pair is a key, Saturated. Else add the key and Split: (v = "", v = ch ++ z), or (equal lengths, a = b ++ z1,
-- b = a ++ z2), guard negated; terms are made in the order written, parts first'. Document 02, Note 4, of the test before a Split: 'It is met
-- when a stripped class match has a non-empty explanation of its own'

unfoldable pub fresh_variable : Work ℕ
fresh_variable = take_name >>= make_variable

-- Document 02, Note 5: 'State the number exactly', 'plus one for each .. that was absent': 1 where no term is equal at that moment, so that making appends one, else 0
unfoldable pub one_if_absent : (Store → ℕ → Bool) → Work ℕ
one_if_absent equal = do
  s ← store
  give (if is_some (lookup equal s) then 0 else 1)

-- 'A split over a character makes three, plus one for each of the empty constant, its equation and the character constant that was
-- absent'
unfoldable pub split_character : ℤ → ℕ → ℕ → Tried
split_character g v c = do
  n₁ ← one_if_absent (constant_of [])
  e ← make_constant []
  n₂ ← one_if_absent (equation_of v e)
  p ← make_equation v e
  n₃ ← one_if_absent (constant_of (c ∷ []))
  h ← make_constant (c ∷ [])
  z ← fresh_variable
  t ← make_concat (h ∷ z ∷ [])
  q ← make_equation v t
  answer (split (p ∷ q ∷ []) (neg_ℤ g) (3 + n₁ + n₂ + n₃))

-- 'A split over two heads makes six terms, plus one for each of the two lengths and their equation that was absent'
unfoldable pub split_heads : ℤ → ℕ → ℕ → Tried
split_heads g a b = do
  n₁ ← one_if_absent (length_of a)
  la ← make_length a
  n₂ ← one_if_absent (length_of b)
  lb ← make_length b
  n₃ ← one_if_absent (equation_of la lb)
  p ← make_equation la lb
  z₁ ← fresh_variable
  t₁ ← make_concat (b ∷ z₁ ∷ [])
  q₁ ← make_equation a t₁
  z₂ ← fresh_variable
  t₂ ← make_concat (a ∷ z₂ ∷ [])
  q₂ ← make_equation b t₂
  answer (split (p ∷ q₁ ∷ q₂ ∷ []) (neg_ℤ g) (6 + n₁ + n₂ + n₃))

-- v against the constant of these characters
abbrev pub split_by : ℤ → ℕ → List ℕ → Tried → Tried
split_by g v [] other = other
split_by g v (x ∷ w) other = split_character g v x

unfoldable pub splits : ℤ → Bool → List ℕ → List ℕ → Tried
splits g needed [] r = pass
splits g needed (a ∷ l) [] = pass
splits g needed (a ∷ l) (b ∷ r) = do
  s ← store
  if is_constant s a && is_constant s b then pass
      else if needed || is_key s a b then answer saturated
      else (add_key a b >> (if is_constant s b then split_by g a (text s b) (split_heads g a b)
      else if is_constant s a then split_by g b (text s a) (split_heads g a b)
      else split_heads g a b))

-- steps 2 to 8 in this order, on what step 1 left; needed: a match that it stripped needs a reason
unfoldable pub after : ℤ → Bool → List ℕ → List ℕ → Tried
after g needed l r =
    occurs l r or_else occurs r l
    or_else constants l r
    or_else alias l r or_else empties l r or_else empties r l or_else assigns l r or_else assigns r l
    or_else tile l r or_else tile r l
    or_else clashes l r
    or_else splits g needed l r

abbrev pub is_bare : List ℕ → List ℕ → Bool
is_bare [] [] = true
is_bare [] (b ∷ r) = false
is_bare (a ∷ l) r = false

-- 8. 'Done otherwise.'
abbrev pub or_done : Option Answer → Work Answer
or_done (some x) = give x
or_done none = give done

unfoldable pub steps : ℤ → List ℕ → List ℕ → Work Answer
steps g l r = do
  s ← store
  (l₁, r₁) ← strip l r
  x ← if is_bare l₁ r₁ then answer done else after g (any (needs_reason s) (matches s l r)) l₁ r₁
  or_done x

-- 'Flatten both lists, left first, if any atom of either is a concatenation; then any Conflict becomes Saturated.'
abbrev pub softened : Answer → Answer
softened done = done
softened saturated = saturated
softened conflict = saturated
softened (propagate v w k) = propagate v w k
softened (split l g n) = split l g n

-- 'Conflict and Propagate end with the incoming reasons and those added; other answers return the incoming count.'
abbrev pub closed : List (ℕ × ℕ) → Answer → Work Answer
closed rs done = λ s. ok (with_reasons s rs) done
closed rs saturated = λ s. ok (with_reasons s rs) saturated
closed rs conflict = give conflict
closed rs (propagate v w k) = give (propagate v w k)
closed rs (split l g n) = λ s. ok (with_reasons s rs) (split l g n)

unfoldable pub resolve : List ℕ → List ℕ → ℤ → Work Answer
resolve l r g = do
  s ← store
  x ← if any (is_concat s) (l ++ r) then (do
    l₁ ← flatten l
    r₁ ← flatten r
    y ← steps g l₁ r₁
    give (softened y)) else steps g l r
  closed s.reasons x

-- refusal 5: 'guard 0 or the lowest i32'
unfoldable pub is_guard : ℤ → Bool
is_guard (pos n) = not (eqb n 0)
is_guard (negsuc n) = not (eqb n 0x7FFF_FFFF)

abbrev pub resolve_arguments : List ℕ → List ℕ → ℤ → Store → Bool
resolve_arguments l r g s = is_list s l && is_list s r && is_guard g

-- NF_EQUAL

-- atom by atom same; 'lists of unequal length: false'
unfoldable pub nf_equal : Store → List ℕ → List ℕ → Bool
nf_equal s [] [] = true
nf_equal s [] (b ∷ r) = false
nf_equal s (a ∷ l) [] = false
nf_equal s (a ∷ l) (b ∷ r) = same s a b && nf_equal s l r

-- the pairs of one class explained, in order; 'or refusal 5' where the lengths differ (`nf_arguments`)
unfoldable pub explain_pair : ℕ → ℕ → Work (Unit {0})
explain_pair a b = do
  s ← store
  if eqb a b || (is_constant s a && is_constant s b && same_word (text s a) (text s b)) || not (same_class s a b) then give tt else explain a b

unfoldable pub nf_explain : List ℕ → List ℕ → Work (Unit {0})
nf_explain [] r = give tt
nf_explain (a ∷ l) [] = give tt
nf_explain (a ∷ l) (b ∷ r) = explain_pair a b >> nf_explain l r

abbrev pub nf_arguments : List ℕ → List ℕ → Store → Bool
nf_arguments l r s = is_list s l && is_list s r && eqb (length l) (length r)
