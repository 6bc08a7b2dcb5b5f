-- What the contracts of private functions cite, each tied by a law to the definition that it serves. No public contract cites these.
use Rattle.std.specs.Prelude.{◌≡◌, Bool, false, true, ◌&&◌, ◌||◌, List, ℕ, suc, ◌+◌, ◌≤◌, ◌<◌, length, eqb}
use Rattle.records.specs.Lists.{same_word, firsts, seconds}
use Rattle.records.specs.Store.{Cell, Store, ok, stop, Work, ◌>>=◌, term, kind, is_string, within, cell_in, chain_in, text, root, top, Term, term_in, above_in, nearest_in}
use Rattle.records.specs.View.{term_at, text_at, terms_view}
use Rattle.records.specs.Rules.{reason_rule, key_rule, ends_rule, label_rule}
use Rattle.records.specs.Make.{with_names, add_text, add_chain, add_term, lowest, name_of, name_limit, take_name}

-- CLIMBS

-- the parent in the forest, or in the class
abbrev pub parent_of : Bool → Term → ℕ
parent_of true x = x.forest_parent
parent_of false x = x.class_parent

abbrev pub up_in : Bool → List Term → ℕ → ℕ
up_in forest ts t = parent_of forest (term_in ts t)

-- how many stand from t up to the root of its tree, both counted
abbrev pub levels : List Term → ℕ → ℕ
levels ts t = length (above_in ts t)

-- r stands above t, and t has as many more above it as y has above it; a term with no more above it than r has the same nearest shared
-- ancestor with both
pub record Lifted (l : List ℕ) (n t y r : ℕ) : Type 0 where
  pub here : within n r ≡ true
  pub many : levels (terms_view l n) r + levels (terms_view l n) y ≡ suc (levels (terms_view l n) t)
  pub left : (b : ℕ) → within n b ≡ true → levels (terms_view l n) b ≤ levels (terms_view l n) r → nearest_in (terms_view l n) r b ≡ nearest_in (terms_view l n) t b
  pub right : (b : ℕ) → within n b ≡ true → levels (terms_view l n) b ≤ levels (terms_view l n) r → nearest_in (terms_view l n) b r ≡ nearest_in (terms_view l n) b t

-- CLASSES AND CONGRUENCE EDGES

-- where parents are terms and walks end, these of one term at a time say the same as the rules of two (proofs/ClassLaws.antt)
unfoldable pub alike_at : Store → ℕ → Bool
alike_at s t = eqb (root s (top s t)) (root s t) && eqb (top s (root s t)) (top s t)

unfoldable pub alone_at : Store → ℕ → Bool
alone_at s t = eqb (term s t).class_parent t || (is_string s t && is_string s (term s t).class_parent)

unfoldable pub class_test : Store → ℕ → Bool
class_test s t = ends_rule s t && alike_at s t && label_rule s t && alone_at s t

-- the pairs l are of the values of the chains p and q in order
unfoldable pub pair_words : List (ℕ × ℕ) → List (ℕ × ℕ) → List (ℕ × ℕ) → Bool
pair_words l p q = same_word (firsts l) (firsts p) && same_word (seconds l) (firsts q)

-- y and z are cells, and the pair at cell x is of their values
unfoldable pub pair_meets : List Cell → ℕ → ℕ → ℕ → Bool
pair_meets cs x y z =
    within (length cs) y && within (length cs) z && eqb (cell_in cs x).value (cell_in cs y).value && eqb (cell_in cs x).other (cell_in cs z).value

-- RECORDS OF TWO WORDS

-- the rule of a key, or of a reason
abbrev pub pair_rule : Bool → Store → ℕ × ℕ → Bool
pair_rule true s = key_rule s
pair_rule false s = reason_rule

-- MAKING

-- a constant or a variable by its text, in the store and in the lent words: kind k, characters w
unfoldable pub text_of : ℕ → List ℕ → Store → ℕ → Bool
text_of k w s t = eqb (kind s t) k && same_word (text s t) w

unfoldable pub has_text : List ℕ → List ℕ → ℕ → List ℕ → ℕ → Bool
has_text l h k w t = eqb (term_at l t).kind k && same_word (text_at l h t) w

-- a length or an equation by its kind and its two words, in the store and in the lent words: a length's second word is 0
unfoldable pub sides_of : ℕ → ℕ → ℕ → Store → ℕ → Bool
sides_of k a b s t = eqb (kind s t) k && eqb (term s t).first a && eqb (term s t).second b

unfoldable pub has_sides : List ℕ → ℕ → ℕ → ℕ → ℕ → Bool
has_sides l k a b t = eqb (term_at l t).kind k && eqb (term_at l t).first a && eqb (term_at l t).second b

-- a concatenation by its parts, in the lent words of terms
unfoldable pub has_parts : List ℕ → List Cell → List ℕ → ℕ → Bool
has_parts l cs w t = eqb (term_at l t).kind 3 && same_word (firsts (chain_in cs (term_at l t).first)) w

-- a new constant (kind 1) or variable (kind 2)
abbrev pub append_text : ℕ → List ℕ → Work ℕ
append_text k w = do
  p ← add_text w
  add_term k p (length w)

-- `make_constant` and `make_variable` in one
unfoldable pub make_text : ℕ → List ℕ → Work ℕ
make_text k w = lowest (text_of k w) (append_text k w)

-- a new concatenation
abbrev pub append_parts : List ℕ → Work ℕ
append_parts l = do
  c ← add_chain l
  add_term 3 c 0

-- a length (kind 4, its second word 0) or an equation (kind 5): `make_length` and `make_equation` in one
unfoldable pub make_sides : ℕ → ℕ → ℕ → Work ℕ
make_sides k a b = lowest (sides_of k a b) (add_term k a b)

-- NAMES

-- x is the first counter from the store's on whose name no variable has, or the limit where there is none below it
pub record Free (s : Store) (x : ℕ) : Type 0 where
  pub free : x < name_limit → take_name s ≡ ok (with_names s (suc x)) (name_of x)
  pub spent : name_limit ≤ x → take_name s ≡ stop 9
