-- Document 01, 'Normalize': flatten, representatives, the cited normal form and the deep form.
use Rattle.std.specs.Prelude.{Bool, true, false, not, ◌&&◌, List, [], ◌∷◌, ◌++◌, reverse, ℕ, zero, suc, length, eqb, ltb, leb, if◌then◌else◌}
use Rattle.std.proofs.Math.Option.{Option, none, some}
use Rattle.records.specs.Lists.{any, first_of, concat_map, same_word, is_in}
use Rattle.records.specs.Store.{Store, Work, ◌>>=◌, ◌>>◌, give, refuse, store, is_constant, is_concat, is_string, text, parts, same_class}
use Rattle.records.specs.Rules.{list_limit, is_list}
use Rattle.records.specs.Make.{make_constant}
use Rattle.engine.specs.Explain.{explain}

-- 'Flatten nested concatenations': the atoms of a term. Parts have lower numbers than the whole, so a term's number bounds the depth
-- (proofs/Atoms.antt has the equation without it)
unfoldable pub atoms_by : ℕ → Store → ℕ → List ℕ
atoms_by zero s t = t ∷ []
atoms_by (suc n) s t = elim (is_concat s t) [ true ↦ concat_map (atoms_by n s) (parts s t) | false ↦ t ∷ [] ]

abbrev pub atoms : Store → ℕ → List ℕ
atoms s t = atoms_by t s t

-- refusal 6: 'a flattened list passes 1,024 atoms'
unfoldable pub flatten : List ℕ → Work (List ℕ)
flatten l = do
  s ← store
  if leb (length (concat_map (atoms s) l)) list_limit then give (concat_map (atoms s) l) else refuse 6

-- the first of the two that is there, else the atom itself
abbrev pub or_first : Option ℕ → Option ℕ → ℕ → ℕ
or_first (some t) o a = t
or_first none (some t) a = t
or_first none none a = a

-- 'A class's representative is the first constant among the known list followed by the flattened atoms, else the first member there'
unfoldable pub representative : Store → List ℕ → ℕ → ℕ
representative s candidates a =
    or_first (first_of (λ t. same_class s t a && is_constant s t) candidates) (first_of (λ t. same_class s t a) candidates) a

-- 'Explain (atom, representative) where they differ'
unfoldable pub substitute : List ℕ → ℕ → Work ℕ
substitute candidates a = do
  s ← store
  let r = representative s candidates a
  if eqb r a then give tt else explain a r
  give r

-- 'join neighbouring constants, making each intermediate one'; the list so far stands last atom first
unfoldable pub join : ℕ → List ℕ → Work (List ℕ)
join t [] = give (t ∷ [])
join t (u ∷ out) = do
  s ← store
  if is_constant s t && is_constant s u then (do
    c ← make_constant (text s u ++ text s t)
    give (c ∷ out)) else give (t ∷ u ∷ out)

-- 'drop ""'
unfoldable pub push : ℕ → List ℕ → Work (List ℕ)
push t out = do
  s ← store
  if is_constant s t && eqb (length (text s t)) 0 then give out else join t out

unfoldable pub push_all : List ℕ → List ℕ → Work (List ℕ)
push_all [] out = give out
push_all (t ∷ l) out = push t out >>= push_all l

-- atom by atom: substitute, then drop or join
unfoldable pub push_forms : List ℕ → List ℕ → List ℕ → Work (List ℕ)
push_forms candidates [] out = give out
push_forms candidates (a ∷ l) out = substitute candidates a >>= (λ r. push r out) >>= push_forms candidates l

unfoldable pub normal_form : List ℕ → ℕ → Work (List ℕ)
normal_form known t = do
  flat ← flatten (t ∷ [])
  out ← push_forms (known ++ flat) flat []
  give (reverse out)

-- refusal 5: 'term absent or of the wrong kind; a list above 1,024'
abbrev pub form_arguments : List ℕ → ℕ → Store → Bool
form_arguments known t s = is_list s known && is_string s t

-- DEEP FORM

abbrev pub deep_limit : ℕ
deep_limit = 256

-- 'expand every concatenation atom except the term itself'
abbrev pub opens : Store → ℕ → ℕ → Bool
opens s t a = is_concat s a && not (eqb a t)

-- the list of a round so far, and the concatenations met for expansion
pub record Round : Type 0 where
  pub list : List ℕ
  pub met : List ℕ

-- one round over a list. 'More than 256 atoms gives None: .. just after an atom's expansion'; 'A concatenation met for expansion again,
-- even twice in one round, gives None'
unfoldable pub expand : List ℕ → ℕ → List ℕ → Round → Work (Option Round)
expand known t [] r = give (some r)
expand known t (a ∷ l) r = do
  s ← store
  if opens s t a then (if is_in a r.met then give none else (do
    form ← normal_form known a
    let out = r.list ++ form
    if ltb deep_limit (length out) then give none else expand known t l (record { list = out; met = a ∷ r.met })))
      else expand known t l (record { list = r.list ++ (a ∷ []); met = r.met })

-- after a round's joining: more than 256 atoms gives None, and 'A round that leaves the list unchanged ends it'
unfoldable pub settle : List ℕ → (List ℕ → Work (Option (List ℕ))) → List ℕ → Work (Option (List ℕ))
settle before more out = if ltb deep_limit (length out) then give none else (if same_word out before then give (some out) else more out)

-- 'in rounds, at most 64, dropping and joining again after each'; 'after 64 rounds the list stands'
abbrev pub after_expand : List ℕ → (List ℕ → List ℕ → Work (Option (List ℕ))) → Option Round → Work (Option (List ℕ))
after_expand l more none = give none
after_expand l more (some r) = push_all r.list [] >>= (λ out. settle l (more r.met) (reverse out))

unfoldable pub rounds : ℕ → List ℕ → ℕ → List ℕ → List ℕ → Work (Option (List ℕ))
rounds zero known t met l = give (some l)
rounds (suc n) known t met l = do
  s ← store
  if any (opens s t) l then (expand known t l (record { list = []; met = met }) >>= after_expand l (rounds n known t)) else give (some l)

unfoldable pub deep_form : List ℕ → ℕ → Work (Option (List ℕ))
deep_form known t = do
  l ← normal_form known t
  if ltb deep_limit (length l) then give none else rounds 64 known t [] l
