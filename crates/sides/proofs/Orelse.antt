-- Steps in sequence, where one that passes leaves the store to the next.
use mathlib.Core.Path.{◌≡◌, refl, ap}
use mathlib.Core.Option.{Option, none, some}
use Rattle.records.specs.Store.{Store, Out, ok, stop, and_then}
use Rattle.sides.specs.Wordeq.{Answer, Tried, answer, settled, ◌or_else◌}

module _ (a b : Tried) (s : Store) where
  pub else_after : a s ≡ ok s none → (a or_else b) s ≡ b s
  else_after h = ap (and_then (settled b)) h

  -- a step that has answered is not followed
  pub else_answer : {s' : Store} {x : Answer} → a s ≡ ok s' (some x) → (a or_else b) s ≡ ok s' (some x)
  else_answer h = ap (and_then (settled b)) h

  -- nor one that cannot pass
  pub else_made : {A : Type 0} (o : Out A) (f : A → Answer) → a s ≡ and_then (λ x. answer (f x)) o → (a or_else b) s ≡ a s
  else_made (ok s₁ x) f h = rw h
  else_made (stop k) f h = rw h

  -- a step that passes on every store changes nothing
  pub else_none : ((s : Store) → b s ≡ ok s none) → (a or_else b) s ≡ a s
  else_none p = go (a s)
    where
      go : (o : Out (Option Answer)) → and_then (settled b) o ≡ o
      go (ok s₁ none) = p s₁
      go (ok s₁ (some x)) = refl
      go (stop k) = refl

  pub else_assoc : (d : Tried) → ((a or_else b) or_else d) s ≡ (a or_else (b or_else d)) s
  else_assoc d = go (a s)
    where
      go : (o : Out (Option Answer)) → and_then (settled d) (and_then (settled b) o) ≡ and_then (settled (b or_else d)) o
      go (ok s₁ none) = refl
      go (ok s₁ (some x)) = refl
      go (stop k) = refl
