-- Document 01, 'The records': each rule as a test, and the audit in the order of 'Where each refusal is checked', with document 02's 12.
use Rattle.std.specs.Prelude.{Bool, not, ◌&&◌, ◌||◌, List, ℕ, zero, suc, ◌+◌, length, eqb, ltb, leb, if◌then◌else◌}
use Rattle.records.specs.declared.State.{State}
use Rattle.records.specs.Lists.{all, same_word, firsts, seconds, all_below}
use Rattle.records.specs.Store.{Term, Store, term_in, term, cell, count, is_term, is_constant, is_variable, is_concat, is_length, is_equation, is_string, text, chain, parts, root, top, same_class, same_tree, path, is_edge}
use Rattle.records.specs.View.{Lent, store_of, sizes}
use Rattle.records.specs.Index.{index_rule}

-- a rule of every term, of every cell
abbrev pub each_term : Store → (ℕ → Bool) → Bool
each_term s rule = all_below (λ i. rule (suc i)) (count s)

abbrev pub each_cell : Store → (ℕ → Bool) → Bool
each_cell s rule = all_below (λ i. rule (suc i)) (length s.cells)

-- REFUSAL 2: records

-- document 02, Note 7: 'characters 0 to 196,607, including 0xD800 to 0xDFFF, and none above': the one character rule, of names too
unfoldable pub is_char : ℕ → Bool
is_char c = ltb c 0x3_0000

-- a reason's number: 'a number below 2^31, on edges too'
unfoldable pub is_number : ℕ → Bool
is_number v = ltb v 0x8000_0000

-- the kinds of reasons: '1 asserted or 2 interface'
abbrev pub is_reason_kind : ℕ → Bool
is_reason_kind k = eqb k 1 || eqb k 2

-- 'Reasons, two words (1 asserted or 2 interface; a number below 2^31, on edges too)'
unfoldable pub reason_rule : ℕ × ℕ → Bool
reason_rule p = is_reason_kind p.0 && is_number p.1

-- 'Split keys, two different string terms, lower number first'
unfoldable pub key_rule : Store → ℕ × ℕ → Bool
key_rule s p = ltb p.0 p.1 && is_string s p.0 && is_string s p.1

-- '0 ends a chain; next is above its own number and within the count. A cell outside every chain is held to this alone'
unfoldable pub cell_rule : Store → ℕ → Bool
cell_rule s c = eqb (cell s c).next 0 || (ltb c (cell s c).next && leb (cell s c).next (length s.cells))

-- 'first = place of its characters or name counted from 0, second = length, the two added at most the character count'
unfoldable pub text_rule : Store → ℕ → Bool
text_rule s t = leb ((term s t).first + (term s t).second) (length s.chars)

-- a variable of this name
unfoldable pub named : List ℕ → Store → ℕ → Bool
named w s t = is_variable s t && same_word (text s t) w

-- 'a name has one character or more and is unique'
unfoldable pub name_rule : Store → ℕ → Bool
name_rule s t = ltb 0 (term s t).second && all_below (λ u. not (named (text s t) s u)) t

-- a concatenation's cell: a string term, 'each cell's second value 0', and 'Parts have lower numbers than the whole'
unfoldable pub part_rule : Store → ℕ → ℕ × ℕ → Bool
part_rule s t p = is_string s p.0 && ltb p.0 t && eqb p.1 0

-- '3 concatenation (first = a chain of two or more string terms, ..)'; the second word is unused, so 0
unfoldable pub concat_rule : Store → ℕ → Bool
concat_rule s t = leb 2 (length (chain s (term s t).first)) && all (part_rule s t) (chain s (term s t).first) && eqb (term s t).second 0

-- '4 length (first = a string term)'; the second word is unused, so 0
unfoldable pub length_rule : Store → ℕ → Bool
length_rule s t = is_string s (term s t).first && ltb (term s t).first t && eqb (term s t).second 0

-- '5 equation (two string terms or two lengths)'
unfoldable pub is_equatable : Store → ℕ → ℕ → Bool
is_equatable s a b = (is_string s a && is_string s b) || (is_length s a && is_length s b)

unfoldable pub equation_rule : Store → ℕ → Bool
equation_rule s t = is_equatable s (term s t).first (term s t).second && ltb (term s t).first t && ltb (term s t).second t

-- the first three words of a term, by its kind
unfoldable pub term_rule : Store → ℕ → Bool
term_rule s t =
    (is_constant s t && text_rule s t)
    || (is_variable s t && text_rule s t && name_rule s t)
    || (is_concat s t && concat_rule s t)
    || (is_length s t && length_rule s t)
    || (is_equation s t && equation_rule s t)

unfoldable pub records_rule : Store → Bool
records_rule s =
    each_term s (term_rule s) && each_cell s (cell_rule s) && all is_char s.chars && all reason_rule s.reasons && all (key_rule s) s.keys

-- REFUSAL 3: classes

-- 'following class parents ends at a self-parent, and so does following forest parents'
unfoldable pub parents_rule : Store → ℕ → Bool
parents_rule s t = is_term s (term s t).class_parent && is_term s (term s t).forest_parent

unfoldable pub ends_rule : Store → ℕ → Bool
ends_rule s t = eqb (term s (root s t)).class_parent (root s t) && eqb (term s (top s t)).forest_parent (top s t)

-- 'the two divide the terms alike'
unfoldable pub alike_rule : Store → ℕ → ℕ → Bool
alike_rule s t u = if same_class s t u then same_tree s t u else not (same_tree s t u)

-- 'Terms of kinds 4 and 5 are each alone in their class'
unfoldable pub alone_rule : Store → ℕ → ℕ → Bool
alone_rule s t u = is_string s t || eqb t u || not (same_class s t u)

-- 'An edge's label stands on the child: 1 asserted, 2 interface, 3 congruence (value = a pair chain), 4 definitional (value 0)'
unfoldable pub edge_label : ℕ → ℕ → Bool
edge_label k v = (is_reason_kind k && is_number v) || eqb k 3 || (eqb k 4 && eqb v 0)

-- 'Unused words, labels of roots included, are 0'
unfoldable pub label_rule : Store → ℕ → Bool
label_rule s t = if is_edge s t
    then edge_label (term s t).label_kind (term s t).label_value
    else eqb (term s t).label_kind 0 && eqb (term s t).label_value 0 && eqb (term s t).stamp 0

unfoldable pub classes_rule : Store → Bool
classes_rule s =
    each_term s (parents_rule s) && each_term s (ends_rule s) && each_term s (λ t. each_term s (alike_rule s t)) && each_term s (label_rule s)
    && each_term s (λ t. each_term s (alone_rule s t))

-- REFUSAL 4: congruence edges

-- the pairs are those of the arguments of t and of u in order, n of each, t's argument first
unfoldable pub pairs_of : Store → List (ℕ × ℕ) → ℕ → ℕ → Bool
pairs_of s l t u = same_word (firsts l) (parts s t) && same_word (seconds l) (parts s u)

-- 'each pair's forest path has only stamps below the edge's'
abbrev pub stamp_below : List Term → ℕ → ℕ → Bool
stamp_below ts m e = ltb (term_in ts e).stamp m

unfoldable pub falls_rule : Store → ℕ → ℕ × ℕ → Bool
falls_rule s m p = same_tree s p.0 p.1 && all (stamp_below s.terms m) (path s p.0 p.1)

-- 'A congruence edge joins concatenations of n arguments and has n pairs, the i-th of the two i-th arguments, all the same way round'
unfoldable pub congruence_rule : Store → ℕ → Bool
congruence_rule s t =
    let u = (term s t).forest_parent in
    let l = chain s (term s t).label_value in
    is_concat s t && is_concat s u && (pairs_of s l t u || pairs_of s l u t) && all (falls_rule s (term s t).stamp) l

abbrev pub is_congruence : Store → ℕ → Bool
is_congruence s t = is_edge s t && eqb (term s t).label_kind 3

abbrev pub edge_rule : Store → ℕ → Bool
edge_rule s t = not (is_congruence s t) || congruence_rule s t

unfoldable pub congruences_rule : Store → Bool
congruences_rule s = each_term s (edge_rule s)

-- REFUSAL 5: arguments that are lists

-- 'a list above 1,024', 'term absent or of the wrong kind': a list of string terms
abbrev pub list_limit : ℕ
list_limit = 1024

abbrev pub is_list : Store → List ℕ → Bool
is_list s l = leb (length l) list_limit && all (is_string s) l

-- THE AUDIT: 0, or the first refusal of 1 to 4 and 12 that is due

unfoldable pub audit_store : Store → ℕ
audit_store s = if records_rule s then (if classes_rule s then (if congruences_rule s then 0 else 4) else 3) else 2

-- document 02, Note 9: 'Answers: 12, after 4, where heads or chains break these conditions'
unfoldable pub audit_index : List ℕ → Store → ℕ
audit_index l s = if index_rule l s then 0 else 12

-- a refusal, or else the next
abbrev pub first_due : ℕ → ℕ → ℕ
first_due zero k = k
first_due (suc j) k = suc j

unfoldable pub audit : Lent → State → ℕ
audit m c = if sizes m c then first_due (audit_store (store_of m c)) (audit_index m.terms (store_of m c)) else 1
