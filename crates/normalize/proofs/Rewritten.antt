-- Lists that work rewrites, which only adds constants and reasons: the list after has, read in the store after, the word of the list
-- before.
use mathlib.Core.Path.{◌≡◌, refl, sym, ap, subst, ◌∙◌}
use mathlib.Core.Bool.{true}
use mathlib.Core.List.{List, [], ◌∷◌, ◌++◌}
use Prim.Native.Nat.{ℕ}
use Rattle.records.specs.Lists.{concat_map, none_left, and}
use Rattle.records.specs.Store.{Store, is_string}
use Rattle.records.specs.Meaning.{Words, Reading, Holds}
use Rattle.records.specs.Working.Audited.{Audited}
use Rattle.records.proofs.Lists.{every_append, concat_map-append}
use Rattle.records.proofs.Grown.{OldVariables, grown-string, Strings, strings-later}
use Rattle.records.proofs.LaterStores.{Later, later-none, later_then, later_added, variables-added}
use Rattle.engine.proofs.Sound.{Gave, holds_earlier}

-- l of s, rewritten to m of s'
pub record Rewritten (s s' : Store) (l m : List ℕ) : Type 0 where
  pub later : Later s s'
  pub variables : OldVariables s s'
  pub strings : Strings s' m
  pub words : (w : Words) → Reading s' w → Holds s s'.reasons w → concat_map w l ≡ concat_map w m

pub rewritten_none : (s : Store) (l : List ℕ) → Audited s → Strings s l → Rewritten s s l l
rewritten_none s l a k = record { later = later-none a; variables = λ t e. e; strings = k; words = λ w r h. refl }

pub rewritten_then : {s s₁ s₂ : Store} {l m n : List ℕ} → Rewritten s s₁ l m → Rewritten s₁ s₂ m n → Rewritten s s₂ l n
rewritten_then {s₂ = s₂} p q = record {
  later = later_then p.later q.later;
  variables = λ t e. p.variables t (q.variables t e);
  strings = q.strings;
  words = λ w r h. p.words w (q.later.grown.down w r) (holds_earlier q.later.reasons h) ∙ q.words w r (p.later.grown.holds w s₂.reasons h);
}

-- more terms before it and after it
pub rewritten_after : {s s' : Store} {l m : List ℕ} (k : List ℕ) → Strings s k → Rewritten s s' l m → Rewritten s s' (k ++ l) (k ++ m)
rewritten_after {l = l} {m = m} k i p = record {
  later = p.later;
  variables = p.variables;
  strings = every_append (strings-later p.later.grown i) p.strings;
  words = λ w r h. concat_map-append w k l ∙ ap (λ (x : List ℕ). concat_map w k ++ x) (p.words w r h) ∙ sym (concat_map-append w k m);
}

pub rewritten_before : {s s' : Store} {l m : List ℕ} (k : List ℕ) → Strings s k → Rewritten s s' l m → Rewritten s s' (l ++ k) (m ++ k)
rewritten_before {l = l} {m = m} k i p = record {
  later = p.later;
  variables = p.variables;
  strings = every_append p.strings (strings-later p.later.grown i);
  words = λ w r h. concat_map-append w l k ∙ ap (λ (x : List ℕ). x ++ concat_map w k) (p.words w r h) ∙ sym (concat_map-append w m k);
}

-- a term replaced by an equal one
pub rewritten_explained : {s s' : Store} {a b : ℕ} → Gave s s' a b → is_string s b ≡ true → Rewritten s s' (a ∷ []) (b ∷ [])
unfolding concat_map
rewritten_explained g i = record {
  later = later_added g.added g.audited;
  variables = variables-added g.added;
  strings = and (grown-string g.grown _ i) none_left;
  words = λ w r h. ap (λ (x : List ℕ). x ++ []) (g.equal w (g.grown.down w r) h);
}

-- equal lists
pub rewritten_as : {s s' : Store} {l l' m m' : List ℕ} → l ≡ l' → m ≡ m' → Rewritten s s' l m → Rewritten s s' l' m'
rewritten_as {s} {s'} {l' = l'} {m = m} p q x = subst (λ (y : List ℕ). Rewritten s s' l' y) q (subst (λ (y : List ℕ). Rewritten s s' y m) p x)
