-- Actual calls over lent words: what each leaves is told by its public contract alone.
use Rattle.std.specs.Prelude.{◌≡◌, true, ◌&&◌, List, [], ◌∷◌, ℕ, length, leb, Result, Ok, Err}
use Rattle.records.specs.declared.State.{State}
use Rattle.records.specs.declared.refusal.Refusal.{Refusal}
use Rattle.records.specs.Lists.{all}
use Rattle.records.specs.Store.{Out, ok, stop}
use Rattle.records.specs.View.{Lent, store_of}
use Rattle.records.specs.Index.{SameIndex}
use Rattle.records.specs.Rules.{reason_rule}
use Rattle.records.specs.Make.{with_reasons, constant_arguments, make_constant, variable_arguments, make_variable, concat_arguments, make_concat, length_arguments, make_length, equation_arguments, make_equation}
use Rattle.records.specs.Calls.{Public, call}
use Rattle.engine.specs.Explain.{find, find_arguments}
use Rattle.engine.specs.Calls.{PublicExplain}
use Rattle.normalize.specs.Calls.{PublicForm, PublicDeepForm}
use Rattle.wordeq.specs.Calls.{equal_arguments, equal_lists, PublicEqualExplain, PublicResolve}
use Rattle.equation.specs.Calls.{PublicStep}
use Rattle.empties.specs.Calls.{PublicEmpties}
use Rattle.forced.specs.Calls.{PublicForced}
use Rattle.classes.specs.declared.Standing.{Standing}
use Rattle.classes.specs.Marks.{trail_of, audit_marks}
use Rattle.classes.specs.Calls.{set_mark, go_back, Tracks, PublicJoin}
use Rattle.history.specs.History.{World}
use Rattle.history.specs.Calls.{Call, constant, variable, concat, length_of_term, equation, find_root, explain_pair_call, form, deep_form_call, equal, equal_explain, resolve_lists, one_step, empty_parts_call, forced_length_call, join, set_mark_call, go_back_call, ask, run, begin}

-- the words lent for store and marks, and the counts that the caller holds
pub record Memory : Type 0 where
  pub slices : Lent
  pub marks : List ℕ
  pub counts : State
  pub standing : Standing

-- after a call the caller holds the counts answered, or after a refusal those of before
pub data Told {A : Type 0} (r : Out A) (m : Lent) (c c' : State) : Type 0 where
  given : (a : A) → r ≡ ok (store_of m c') a → Told r m c c'
  refused : (k : ℕ) → r ≡ stop k → c' ≡ c → Told r m c c'

-- a call over the store, by its promise P; marks are not lent to it
pub record Called {A : Type 0} (P : Lent → Lent → State → Out A → Type 0) (x y : Memory) : Type 0 where
  pub outcome : Out A
  pub promise : P x.slices y.slices x.counts outcome
  pub counts : Told outcome y.slices x.counts y.counts
  pub marks : y.marks ≡ x.marks
  pub standing : y.standing ≡ x.standing

-- one that answers a list in the slice k
pub record CalledList {A : Type 0} (P : Lent → Lent → List ℕ → List ℕ → State → Out A → Type 0) (k : List ℕ) (x y : Memory) : Type 0 where
  pub list : List ℕ
  pub call : Called (λ m m' c r. P m m' k list c r) x y

-- the counts of marks and joins that the caller holds after a call over the marks
abbrev pub standing_after : Standing → Result (ℕ × Standing) Refusal → Standing
standing_after d (Ok x) = x.1
standing_after d (Err k) = d

pub record CalledMarks (P : Lent → Lent → List ℕ → List ℕ → State → Standing → Result (ℕ × Standing) Refusal → Type 0) (x y : Memory) : Type 0 where
  pub outcome : Result (ℕ × Standing) Refusal
  pub promise : P x.slices y.slices x.marks y.marks x.counts x.standing outcome
  pub counts : y.counts ≡ x.counts
  pub standing : y.standing ≡ standing_after x.standing outcome

-- the caller's reasons put in the place of those counted, and nothing else
pub record Asked (rs : List (ℕ × ℕ)) (x y : Memory) : Type 0 where
  pub fits : (all reason_rule rs && leb (length rs) (store_of x.slices x.counts).room.reasons) ≡ true
  pub is : store_of y.slices y.counts ≡ with_reasons (store_of x.slices x.counts) rs
  pub index : SameIndex x.slices.terms y.slices.terms x.counts.terms
  pub marks : y.marks ≡ x.marks
  pub standing : y.standing ≡ x.standing

-- one call, from words to words
unfoldable pub OneCall : Call → Memory → Memory → Type 0
OneCall (constant u) x y = Called (λ m m' c r. Public (call (constant_arguments u) (make_constant u) m c) m m' c r) x y
OneCall (variable u) x y = Called (λ m m' c r. Public (call (variable_arguments u) (make_variable u) m c) m m' c r) x y
OneCall (concat l) x y = Called (λ m m' c r. Public (call (concat_arguments l) (make_concat l) m c) m m' c r) x y
OneCall (length_of_term t) x y = Called (λ m m' c r. Public (call (length_arguments t) (make_length t) m c) m m' c r) x y
OneCall (equation a b) x y = Called (λ m m' c r. Public (call (equation_arguments a b) (make_equation a b) m c) m m' c r) x y
OneCall (find_root t) x y = Called (λ m m' c r. Public (call (find_arguments t) (find t) m c) m m' c r) x y
OneCall (explain_pair_call a b) x y = Called (PublicExplain a b) x y
OneCall (form known t k) x y = CalledList (PublicForm known t) k x y
OneCall (deep_form_call known t k) x y = CalledList (PublicDeepForm known t) k x y
OneCall (equal l r) x y = Called (λ m m' c o. Public (call (equal_arguments l r) (equal_lists l r) m c) m m' c o) x y
OneCall (equal_explain l r) x y = Called (PublicEqualExplain l r) x y
OneCall (resolve_lists l r g k) x y = CalledList (PublicResolve l r g) k x y
OneCall (one_step known e g k) x y = CalledList (PublicStep known e g) k x y
OneCall (empty_parts_call l r k) x y = CalledList (PublicEmpties l r) k x y
OneCall (forced_length_call l r) x y = Called (PublicForced l r) x y
OneCall (join a b k v) x y = CalledMarks (PublicJoin a b k v) x y
OneCall set_mark_call x y = CalledMarks (Tracks set_mark) x y
OneCall (go_back_call i) x y = CalledMarks (Tracks (go_back i)) x y
OneCall (ask rs) x y = Asked rs x y

-- one after the other
pub data Ran : List Call → Memory → Memory → Type 0 where
  nothing : {x : Memory} → Ran [] x x
  next : {f : Call} {l : List Call} {x y z : Memory} → OneCall f x y → Ran l y z → Ran (f ∷ l) x z

abbrev pub passes : Memory → Type 0
passes x = audit_marks x.slices x.marks x.counts x.standing ≡ 0

abbrev pub world_of : Memory → World
world_of x = begin x.slices x.marks x.counts x.standing

-- the words after a list of calls are those of its definition, and pass again
pub record Follows (calls : List Call) (x y : Memory) : Type 0 where
  pub store : store_of y.slices y.counts ≡ (run calls (world_of x)).store
  pub trail : trail_of y.marks y.standing ≡ (run calls (world_of x)).trail
  pub again : passes y

-- 'every list of these and making calls ..', as it is run
abbrev pub EveryRun : Type 0
EveryRun = (calls : List Call) (x y : Memory) → passes x → Ran calls x y → Follows calls x y
