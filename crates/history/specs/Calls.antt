-- Document 02, Note 1, over all public calls: 'every list of these and making calls', from any store and marks that pass.
use Rattle.std.specs.Prelude.{◌≡◌, Bool, ◌&&◌, List, [], ◌∷◌, ℕ, length, ℤ, leb, if◌then◌else◌}
use Rattle.std.proofs.Math.Option.{some}
use Rattle.records.specs.declared.State.{State}
use Rattle.records.specs.Lists.{all, one_more}
use Rattle.records.specs.Store.{Store, Out, ok, stop, Work}
use Rattle.records.specs.View.{Lent, store_of}
use Rattle.records.specs.Rules.{reason_rule, list_limit}
use Rattle.records.specs.Make.{with_reasons, constant_arguments, make_constant, variable_arguments, make_variable, concat_arguments, make_concat, length_arguments, make_length, equation_arguments, make_equation}
use Rattle.records.specs.Calls.{checked}
use Rattle.engine.specs.Explain.{find, find_arguments, explain, explain_arguments}
use Rattle.normalize.specs.Normalize.{normal_form, deep_form, form_arguments}
use Rattle.sides.specs.Wordeq.{resolve, resolve_arguments, nf_explain, nf_arguments}
use Rattle.wordeq.specs.Calls.{equal_arguments, equal_lists}
use Rattle.equation.specs.Equation.{step, step_arguments}
use Rattle.empties.specs.Empties.{empty_parts}
use Rattle.forced.specs.Forced.{forced_length}
use Rattle.classes.specs.declared.Standing.{Standing}
use Rattle.classes.specs.Marks.{trail_of, audit_marks}
use Rattle.classes.specs.Calls.{join_terms, set_mark, go_back}
use Rattle.history.specs.History.{marked, World, cut_at, joining, moved, start, Kept, Separate, Divided}

-- CALLS

-- a public call with its arguments; a call that answers a list has the slice lent for it last. `ask` is the caller's own part: it begins a
-- question with these reasons
pub data Call : Type 0 where
  constant : List ℕ → Call
  variable : List ℕ → Call
  concat : List ℕ → Call
  length_of_term : ℕ → Call
  equation : ℕ → ℕ → Call
  find_root : ℕ → Call
  explain_pair_call : ℕ → ℕ → Call
  form : List ℕ → ℕ → List ℕ → Call
  deep_form_call : List ℕ → ℕ → List ℕ → Call
  equal : List ℕ → List ℕ → Call
  equal_explain : List ℕ → List ℕ → Call
  resolve_lists : List ℕ → List ℕ → ℤ → List ℕ → Call
  one_step : List ℕ → ℕ → ℤ → List ℕ → Call
  empty_parts_call : List ℕ → List ℕ → List ℕ → Call
  forced_length_call : List ℕ → List ℕ → Call
  join : ℕ → ℕ → ℕ → ℕ → Call
  set_mark_call : Call
  go_back_call : ℕ → Call
  ask : List (ℕ × ℕ) → Call

module _ {A : Type 0} where
  abbrev pub worked : World → Out A → World
  worked w (ok s a) = record { store = s; trail = w.trail; history = w.history }
  worked w (stop k) = w

  -- a call that answers a list, as its contract has it: refusal 1 is 'an answer's slice under 1,024 words'
  abbrev pub listing : List ℕ → (Store → Bool) → Work A → Work A
  listing k fit work s = if leb list_limit (length k) then checked (fit s) work s else stop 1

-- the caller's reasons, where the audit lets them pass and the slice holds them
abbrev pub asked : List (ℕ × ℕ) → Work (Unit {0})
asked rs s = if all reason_rule rs && leb (length rs) s.room.reasons then ok (with_reasons s rs) tt else stop 5

-- one call: the definition that its public contract cites, over a store that passes
unfoldable pub after : Call → World → World
after (constant u) w = worked w (checked (constant_arguments u w.store) (make_constant u) w.store)
after (variable u) w = worked w (checked (variable_arguments u w.store) (make_variable u) w.store)
after (concat l) w = worked w (checked (concat_arguments l w.store) (make_concat l) w.store)
after (length_of_term t) w = worked w (checked (length_arguments t w.store) (make_length t) w.store)
after (equation a b) w = worked w (checked (equation_arguments a b w.store) (make_equation a b) w.store)
after (find_root t) w = worked w (checked (find_arguments t w.store) (find t) w.store)
after (explain_pair_call a b) w = worked w (checked (explain_arguments a b w.store) (explain a b) w.store)
after (form known t k) w = worked w (listing k (form_arguments known t) (normal_form known t) w.store)
after (deep_form_call known t k) w = worked w (listing k (form_arguments known t) (deep_form known t) w.store)
after (equal l r) w = worked w (checked (equal_arguments l r w.store) (equal_lists l r) w.store)
after (equal_explain l r) w = worked w (checked (nf_arguments l r w.store) (nf_explain l r) w.store)
after (resolve_lists l r g k) w = worked w (listing k (resolve_arguments l r g) (resolve l r g) w.store)
after (one_step known e g k) w = worked w (listing k (step_arguments known e g) (step known e g) w.store)
after (empty_parts_call l r k) w = worked w (listing k (equal_arguments l r) (empty_parts l r) w.store)
after (forced_length_call l r) w = worked w (checked (equal_arguments l r w.store) (forced_length l r) w.store)
after (join a b k v) w = moved w (joining a b w.history) (join_terms a b k v w.store w.trail)
after set_mark_call w = moved w (λ n. one_more w.history (marked (some w.store.terms))) (set_mark w.store w.trail)
after (go_back_call i) w = moved w (λ n. cut_at i w.history) (go_back i w.store w.trail)
after (ask rs) w = worked w (asked rs w.store)

-- 'every list of these and making calls .. nobody else writing'
unfoldable pub run : List Call → World → World
run [] w = w
run (f ∷ l) w = run l (after f w)

-- the words lent for a store and for marks, with their counts
abbrev pub begin : Lent → List ℕ → State → Standing → World
begin m l c d = start (store_of m c) (trail_of l d)

-- THE THEOREM

pub record EveryList : Type 0 where
  pub keeps : (m : Lent) (l : List ℕ) (c : State) (d : Standing) → audit_marks m l c d ≡ 0 → (calls : List Call) → Kept (begin m l c d) (run calls (begin m l c d))
  -- 'from separate terms and no marks'
  pub divides : (m : Lent) (l : List ℕ) (c : State) (d : Standing) → audit_marks m l c d ≡ 0 → d.marks ≡ 0 → Separate (store_of m c) → (calls : List Call)
      → Divided (run calls (begin m l c d))
