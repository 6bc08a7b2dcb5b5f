-- The standard's join of words, part by part, and that it is the words one after the other.
use mathlib.Core.Path.{◌≡◌, refl, sym, ◌∙◌}
use mathlib.Core.List.{List, [], ◌∷◌, ◌++◌, map, append_assoc, append-nil}
use Prim.Native.Nat.{ℕ}
use Rattle.records.specs.Lists.{concat_map, one_more, Every}
use Rattle.records.specs.Working.Standard.{joins_on, standard_join}
use Rattle.records.proofs.Lists.{concat_map-same}

-- ONE PART MORE: 'held ++ next'

joins-next : (held : List ℕ) (parts : List (List ℕ)) (next : List ℕ) → joins_on held (one_more parts next) ≡ joins_on held parts ++ next
unfolding joins_on
joins-next held [] next = refl
joins-next held (part ∷ parts) next = joins-next (held ++ part) parts next

pub join-next : (parts : List (List ℕ)) (next : List ℕ) → standard_join (one_more parts next) ≡ standard_join parts ++ next
unfolding standard_join joins_on
join-next [] next = refl
join-next (part ∷ parts) next = joins-next part parts next

-- ONE AFTER THE OTHER: the definitions of making and of words have `concat_map`

module _ {A : Type 0} (f : A → List ℕ) where
  joins-all : (held : List ℕ) (l : List A) → joins_on held (map f l) ≡ held ++ concat_map f l
  unfolding joins_on concat_map
  joins-all held [] = sym (append-nil held)
  joins-all held (x ∷ l) = joins-all (held ++ f x) l ∙ append_assoc held (f x) (concat_map f l)

  pub join-all : (l : List A) → standard_join (map f l) ≡ concat_map f l
  unfolding standard_join concat_map
  join-all [] = refl
  join-all (x ∷ l) = joins-all (f x) l

pub join-same : {A : Type 0} (f g : A → List ℕ) {l : List A} → Every (λ a. f a ≡ g a) l → standard_join (map f l) ≡ standard_join (map g l)
join-same f g {l} e = join-all f l ∙ concat_map-same f g e ∙ sym (join-all g l)
