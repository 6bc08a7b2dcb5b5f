-- Each way through the step over one equation.
use mathlib.Core.Path.{◌≡◌, refl, sym, ap, subst, ◌∙◌}
use mathlib.Core.Bool.{Bool, true, false, not, ◌&&◌}
use mathlib.Core.List.{List, []}
use mathlib.Core.Option.{none, some}
use Prim.Native.Nat.{ℕ, ◌≤◌, ◌<◌}
use native.Mathlib.Omega.{arith}
use lib.ListN.{length, take, get_or, length-take}
use lib.Seq.{ext_get_or, get_or-take}
use lib.IntN.{ℤ}
use lib.Dec.{leb}
use borrow.Author.Tests.{eqb-true, le-leb, not-false}
use Rattle.records.specs.declared.State.{State}
use Rattle.std.specs.Prelude.{Result, Ok, Err}
use Rattle.records.specs.declared.refusal.Refusal.{Refusal}
use Rattle.records.specs.Refusal.{number}
use Rattle.records.specs.Lists.{all}
use Rattle.records.specs.Store.{Term, Room, Store, Out, ok, stop, Work, and_then, ◌>>=◌, term, kind, is_string, is_equation}
use Rattle.records.specs.View.{termed, Lent, lent, store_of, term_at, pair_at, pairs_view, reasons_at}
use Rattle.records.specs.Rules.{audit, reason_rule, list_limit, is_list}
use Rattle.records.specs.Make.{with_reasons}
use Rattle.records.specs.Working.Audited.{Audited, Ready}
use Rattle.records.specs.Working.Doing.{ReadyFor, Working, CutRefused}
use Rattle.records.proofs.Lists.{both_left, both_right, both_true, all_every, every_all, table_same, table-length, table_at_lem, all-table, below_at, below_all}
use Rattle.records.proofs.Works.{stop-not, one_store, via}
use Rattle.records.proofs.Beside.{audited-beside}
use Rattle.records.proofs.IndexStores.{records_same-but}
use Rattle.records.proofs.Passed.{ready_as, ready-beside}
use Rattle.records.proofs.Doing.{working_stopped, working_is, working_left}
use Rattle.records.proofs.ListLaws.{list-strings}
use Rattle.records.proofs.Views.{table_is}
use Rattle.records.proofs.Climbs.{view_term, term-within}
use Rattle.records.proofs.Grown.{kind-term, grown-string, strings-later}
use Rattle.records.proofs.Outcomes.{refused_wider}
use Rattle.records.proofs.Public.{Undone, given, cut, undone-is, passed-ready}
use Rattle.normalize.specs.Normalize.{deep_form, form_arguments}
use Rattle.normalize.specs.Calls.{first_words}
use Rattle.normalize.specs.Working.Pushes.{Candidates}
use Rattle.records.proofs.LaterStores.{Later, later-below}
use Rattle.normalize.proofs.Candidates.{candidates_later}
use Rattle.normalize.proofs.Deep.{deep_gives, deep_kept}
use Rattle.normalize.proofs.Carried.{Carried, carried_none, carried-then, carried-kept}
use Rattle.normalize.proofs.ListCalls.{listed-short, listed_unready, listed-unfit, listed-works}
use Rattle.sides.specs.declared.StepResult.{StepResult}
use Rattle.sides.specs.declared.StepResult.TheVariants.{Done, Saturated, Conflict, Propagate, Split}
use Rattle.sides.specs.Wordeq.{Answer, done, saturated, conflict, propagate, split, is_guard, resolve}
use Rattle.sides.specs.Working.Results.{BothLists}
use Rattle.sides.proofs.Resolve.{resolve-gives}
use Rattle.wordeq.specs.Calls.{resolved}
use Rattle.equation.specs.declared.Outcome.{Outcome}
use Rattle.equation.specs.declared.Outcome.TheVariants.{Answered, Unexpanded}
use Rattle.equation.specs.Equation.{Stepped, unexpanded, answered, returned, or_unexpanded, step, step_arguments}
use Rattle.equation.specs.Calls.{stepped, PublicStep}
use Rattle.equation.specs.Working.Forms.{resolve_forms, right_form, carried}
use Rattle.equation.proofs.Sound.{second-string, step_gives, step-sound, step-stops}

-- THE INCOMING REASONS

-- they stand where what was counted is kept
pub reasons-kept : (m m' : Lent) (c : State) → store_of m' c ≡ store_of m c → (n : ℕ) → n ≤ c.reasons → pairs_view m'.reasons n ≡ pairs_view m.reasons n
reasons-kept m m' c e n h =
    table_same (pair_at m'.reasons) (pair_at m.reasons) n
    (λ i l. table_is (pair_at m'.reasons) (pair_at m.reasons) c.reasons i (ap (λ (s : Store). s.reasons) e) (omega arith))

module _ (m : Lent) (c : State) (ready : Ready m c) (n : ℕ) (h : n ≤ c.reasons) where
  incoming-good : all reason_rule (pairs_view m.reasons n) ≡ true
  incoming-good =
      all-table reason_rule (pair_at m.reasons) n
      ∙ below_all _ n (λ k l. below_at _ c.reasons (sym (all-table reason_rule (pair_at m.reasons) c.reasons) ∙ ready.audited.recorded.reasons) k (omega arith))

  incoming-few : length (pairs_view m.reasons n) ≤ (store_of m c).room.reasons
  incoming-few =
      let a = ready.audited.roomy.reasons in
      let e = table-length (pair_at m.reasons) c.reasons in
      let f = table-length (pair_at m.reasons) n in omega arith

  -- a later store with these in the place of its reasons
  cut-audited : {s₁ : Store} → Later (store_of m c) s₁ → Audited (with_reasons s₁ (pairs_view m.reasons n))
  cut-audited {s₁} k =
      audited-beside s₁ (pairs_view m.reasons n) s₁.keys s₁.names k.audited incoming-good k.audited.recorded.keys
      (subst (λ (r : Room). length (pairs_view m.reasons n) ≤ r.reasons) (sym k.room) incoming-few) k.audited.roomy.keys

-- WORDEQ'S ANSWER

returned-is : (o : StepResult) (m : Lent) (k : List ℕ) (n : ℕ) → and_then (returned (pairs_view m.reasons n)) (resolved (Ok o) m k) ≡ stepped (Ok (Answered (carried n o))) m k
returned-is (Done c) m k n = refl
returned-is (Saturated c) m k n = refl
returned-is (Conflict c) m k n = refl
returned-is (Propagate c v w f) m k n = refl
returned-is (Split c j g i) m k n = refl

-- what it leaves is audited
forms_audited : (m : Lent) (c : State) → Ready m c → (l r : List ℕ) (g : ℤ) → BothLists (store_of m c) l r → (n : ℕ) → n ≤ c.reasons → (s' : Store) (x : Stepped)
    → resolve_forms l r g (pairs_view m.reasons n) (store_of m c) ≡ ok s' x → Audited s'
unfolding resolve_forms
forms_audited m c ready l r g lists n h s' x e =
    via (returned (pairs_view m.reasons n)) (resolve l r g (store_of m c)) e (λ s₁ y i j.
    let a = list-strings (store_of m c) l lists.left in
    let b = list-strings (store_of m c) r lists.right in
    go s₁ y (resolve-gives l r g (store_of m c) ready.audited a b s₁ y i).later j)
  where
    go : (s₁ : Store) (y : Answer) → Later (store_of m c) s₁ → returned (pairs_view m.reasons n) y s₁ ≡ ok s' x → Audited s'
    go s₁ done k j = let q : with_reasons s₁ (pairs_view m.reasons n) ≡ s' = cc in subst Audited q (cut-audited m c ready n h k)
    go s₁ saturated k j = let q : s₁ ≡ s' = cc in subst Audited q k.audited
    go s₁ conflict k j = let q : s₁ ≡ s' = cc in subst Audited q k.audited
    go s₁ (propagate v w f) k j = let q : s₁ ≡ s' = cc in subst Audited q k.audited
    go s₁ (split atoms z i) k j = let q : s₁ ≡ s' = cc in subst Audited q k.audited

-- another count of reasons leaves the slices ready, where the store is audited
forms_ready : (m : Lent) (k : List ℕ) (n : ℕ) (o : StepResult) {d : State} {a : Stepped} → ReadyFor m (resolved (Ok o) m k) → Audited (store_of m d) → stepped (Ok (Answered (carried n o))) m k ≡ ok (store_of m d) a → Ready m d
forms_ready m k n (Done e) r a q = ready-beside (r e _ refl) refl refl a (records_same-but (one_store q) refl refl refl)
forms_ready m k n (Saturated e) r a q = ready_as (r e _ refl) (sym (one_store q))
forms_ready m k n (Conflict e) r a q = ready_as (r e _ refl) (sym (one_store q))
forms_ready m k n (Propagate e v w f) r a q = ready_as (r e _ refl) (sym (one_store q))
forms_ready m k n (Split e j g i) r a q = ready_as (r e _ refl) (sym (one_store q))

pub forms-refused : {m m' : Lent} {c : State} (l r : List ℕ) (g z : ℤ) (rs : List (ℕ × ℕ)) {k : ℕ} → z ≡ g → Working (resolve l r z) m m' c (stop k) → Working (resolve_forms l r g rs) m m' c (stop k)
unfolding resolve_forms
forms-refused {m} {c = c} l r g z rs i w = working_stopped (ap (and_then (returned rs)) (ap (λ (y : ℤ). resolve l r y (store_of m c)) (sym i) ∙ w.says)) w.kept

pub forms_resolved : {m m' : Lent} {c : State} (l r k : List ℕ) (g z : ℤ) (n : ℕ) (o x : StepResult) → Ready m c → BothLists (store_of m c) l r → n ≤ c.reasons → z ≡ g → Working (resolve l r z) m m' c (resolved (Ok o) m' k) → x ≡ carried n o
    → Working (resolve_forms l r g (pairs_view m.reasons n)) m m' c (stepped (Ok (Answered x)) m' k)
unfolding resolve_forms
forms_resolved {m} {m'} {c} l r k g z n o x ready lists h i w e = record {
  says = said;
  kept = w.kept;
  ready = λ d a q. forms_ready m' k n o w.ready (forms_audited m c ready l r g lists n h (store_of m' d) a (said ∙ q)) (sym (ap (λ (y : StepResult). stepped (Ok (Answered y)) m' k) e) ∙ q);
}
  where
    said : resolve_forms l r g (pairs_view m.reasons n) (store_of m c) ≡ stepped (Ok (Answered x)) m' k
    said =
        ap (and_then (returned (pairs_view m.reasons n))) (ap (λ (y : ℤ). resolve l r y (store_of m c)) (sym i) ∙ w.says)
        ∙ ap (λ (rs : List (ℕ × ℕ)). and_then (returned rs) (resolved (Ok o) m' k)) (sym (reasons-kept m m' c w.kept.store n h))
        ∙ returned-is o m' k n
        ∙ ap (λ (y : StepResult). stepped (Ok (Answered y)) m' k) (sym e)

-- A DEEP FORM, AND WHAT FOLLOWS IT

abbrev form_then : List ℕ → ℕ → List (ℕ × ℕ) → (List ℕ → Work Stepped) → Work Stepped
form_then known t rs f = deep_form known t >>= or_unexpanded rs f

module _ {m m₁ : Lent} {c : State} (known : List ℕ) (t : ℕ) where
  form-stop : {k : ℕ} (rs : List (ℕ × ℕ)) (f : List ℕ → Work Stepped) → Working (deep_form known t) m m₁ c (stop k) → Working (form_then known t rs f) m m₁ c (stop k)
  form-stop rs f w = working_stopped (ap (and_then (or_unexpanded rs f)) w.says) w.kept

  module _ (ready : Ready m c) (fit : form_arguments known t (store_of m c) ≡ true) (d : State) where
    form-none : (n : ℕ) (f : List ℕ → Work Stepped) → n ≤ c.reasons → Working (deep_form known t) m m₁ c (ok (store_of m₁ d) none) → Working (form_then known t (pairs_view m.reasons n) f) m m₁ c (ok (store_of m₁ (reasons_at d n)) unexpanded)
    form-none n f h w =
        let r = reasons-kept m m₁ c w.kept.store n h in
        let k = deep_kept known t (store_of m c) ready.audited fit (store_of m₁ d) none w.says in
        let a = subst (λ (rs : List (ℕ × ℕ)). Audited (with_reasons (store_of m₁ d) rs)) (sym r) (cut-audited m c ready n h k) in
        working_left (ready-beside (w.ready d none refl) refl refl a (record { terms = refl; cells = refl; chars = refl }))
        (ap (and_then (or_unexpanded (pairs_view m.reasons n) f)) w.says ∙ ap (λ (rs : List (ℕ × ℕ)). or_unexpanded rs f none (store_of m₁ d)) (sym r)) w.kept

module _ {m m₁ : Lent} {c : State} (list known : List ℕ) (t : ℕ) (ready : Ready m c) (fit : form_arguments known t (store_of m c) ≡ true) (j : ℕ) (d : State) (w : Working (deep_form known t) m m₁ c (ok (store_of m₁ d) (some (first_words list j)))) where
  form-later : Later (store_of m c) (store_of m₁ d)
  form-later = deep_kept known t (store_of m c) ready.audited fit (store_of m₁ d) (some (first_words list j)) w.says

  pub form-ready : Ready m₁ d
  form-ready = w.ready d (some (first_words list j)) refl

  form-carried : Carried m c m₁ d
  form-carried = carried-then (carried_none ready) m₁ d w.kept form-later form-ready

  -- the table of the known list stands for the next form too
  pub form_candidates : {cs table : List ℕ} → Candidates (store_of m c) cs table → Candidates (store_of m₁ d) cs table
  form_candidates k = candidates_later k form-later

  pub form-incoming : {n : ℕ} → n ≤ c.reasons → n ≤ d.reasons
  form-incoming h = let b = (later-below m m₁ c d form-later).reasons in omega arith

  pub form-short : j ≤ list_limit
  form-short = let l = (deep_gives known t (store_of m c) ready.audited fit (store_of m₁ d) (first_words list j) w.says).long in let n = table-length (λ i. get_or list i 0) j in omega arith

  pub form-list : {l : List ℕ} → l ≡ first_words list j → is_list (store_of m₁ d) l ≡ true
  form-list {l} i =
      let y = deep_gives known t (store_of m c) ready.audited fit (store_of m₁ d) (first_words list j) w.says in
      let n = table-length (λ i. get_or list i 0) j in
      ap (is_list (store_of m₁ d)) i
      ∙ both_true (leb (length (first_words list j)) list_limit) _ (le-leb (length (first_words list j)) list_limit (let z = form-short in omega arith)) (every_all y.strings)

  pub form-keeps : (l : List ℕ) → is_list (store_of m c) l ≡ true → is_list (store_of m₁ d) l ≡ true
  form-keeps l i =
      both_true (leb (length l) list_limit) _ (both_left (leb (length l) list_limit) _ i)
      (every_all (strings-later form-later.grown (all_every _ l (both_right (leb (length l) list_limit) _ i))))

  pub form-string : (u : ℕ) → is_string (store_of m c) u ≡ true → is_string (store_of m₁ d) u ≡ true
  form-string u i = grown-string form-later.grown u i

  form-some : {m₂ : Lent} {o : Out Stepped} (rs : List (ℕ × ℕ)) (f : List ℕ → Work Stepped) → Working (f (first_words list j)) m₁ m₂ d o → Working (form_then known t rs f) m m₂ c o
  form-some {m₂} rs f v = record { says = ap (and_then (or_unexpanded rs f)) w.says ∙ v.says; kept = carried-kept form-carried m₂ v.kept; ready = v.ready }

-- the first words of a slice are a part of it
pub first_part : (l : List ℕ) (n : ℕ) → n ≤ length l → take n l ≡ first_words l n
first_part l n h =
    let e : length (take n l) ≡ length (first_words l n) = simp (length-take, table-length) (omega arith) in
    let m = table-length (λ i. get_or l i 0) n in
    ext_get_or 0 (take n l) (first_words l n) e (λ i b. let r : i < n = omega arith in get_or-take n l i 0 r ∙ sym (table_at_lem (λ j. get_or l j 0) n i 0 r))

-- THE RIGHT SIDE

module _ {m m₁ : Lent} {c : State} (known : List ℕ) (t n : ℕ) (g : ℤ) (l : List ℕ) where
  pub right-stop : {k : ℕ} → Working (deep_form known t) m m₁ c (stop k) → Working (right_form known t g l (pairs_view m.reasons n)) m m₁ c (stop k)
  unfolding right_form
  right-stop w = form-stop known t (pairs_view m.reasons n) (λ r. resolve_forms l r g (pairs_view m.reasons n)) w

  module _ (h : n ≤ c.reasons) (ready : Ready m c) (fit : form_arguments known t (store_of m c) ≡ true) (d : State) where
    pub right-none : {d' : State} → Working (deep_form known t) m m₁ c (ok (store_of m₁ d) none) → d' ≡ reasons_at d n → Working (right_form known t g l (pairs_view m.reasons n)) m m₁ c (ok (store_of m₁ d') unexpanded)
    unfolding right_form
    right-none w z = rw z (form-none known t ready fit d n (λ r. resolve_forms l r g (pairs_view m.reasons n)) h w)

    pub right-some : (list : List ℕ) (j : ℕ) → Working (deep_form known t) m m₁ c (ok (store_of m₁ d) (some (first_words list j))) → {m₂ : Lent} {r : List ℕ} {o : Out Stepped} → r ≡ first_words list j → (z : ℤ) → z ≡ g
        → Working (resolve_forms l r z (pairs_view m₁.reasons n)) m₁ m₂ d o → Working (right_form known t g l (pairs_view m.reasons n)) m m₂ c o
    unfolding right_form
    right-some list j w {m₂} {r} {o} i z u v =
        form-some list known t ready fit j d w (pairs_view m.reasons n) (λ r. resolve_forms l r g (pairs_view m.reasons n))
        (subst (λ (rs : List (ℕ × ℕ)). Working (resolve_forms l (first_words list j) g rs) m₁ m₂ d o) (reasons-kept m m₁ c w.kept.store n h)
        (subst (λ (y : List ℕ). Working (resolve_forms l y g (pairs_view m₁.reasons n)) m₁ m₂ d o) i (subst (λ (y : ℤ). Working (resolve_forms l r y (pairs_view m₁.reasons n)) m₁ m₂ d o) u v)))

-- THE WHOLE STEP

module _ (known : List ℕ) (e : ℕ) (g : ℤ) (m : Lent) (c : State) (ready : Ready m c) (good : step_arguments known e g (store_of m c) ≡ true) where
  abbrev s : Store
  s = store_of m c

  lists : is_list s known && is_equation s e ≡ true
  lists = both_left (is_list s known && is_equation s e) _ (both_left (is_list s known && is_equation s e && is_string s (term s e).first) _ good)

  pub step-guard : is_guard g ≡ true
  step-guard = both_right (is_list s known && is_equation s e && is_string s (term s e).first) _ good

  is_equation_lem : is_equation s e ≡ true
  is_equation_lem = both_right (is_list s known) _ lists

  equation-at : term s e ≡ term_at m.terms e
  equation-at = view_term m.terms c.terms e (term-within m c e (kind-term s e 4 (eqb-true (kind s e) 5 is_equation_lem)))

  pub left_is : (a : ℕ) → a ≡ (term_at m.terms e).first → a ≡ (term s e).first
  left_is a i = i ∙ ap (λ (x : Term). x.first) (sym equation-at)

  pub right_is : (b : ℕ) → b ≡ (term_at m.terms e).second → b ≡ (term s e).second
  right_is b i = i ∙ ap (λ (x : Term). x.second) (sym equation-at)

  left-string : is_string s (term s e).first ≡ true
  left-string = both_right (is_list s known && is_equation s e) _ (both_left (is_list s known && is_equation s e && is_string s (term s e).first) _ good)

  pub left-fits : (a : ℕ) → a ≡ (term_at m.terms e).first → form_arguments known a s ≡ true
  left-fits a i = both_true (is_list s known) _ (both_left (is_list s known) _ lists) (ap (is_string s) (left_is a i) ∙ left-string)

  pub right-string : (b : ℕ) → b ≡ (term_at m.terms e).second → is_string s b ≡ true
  right-string b i = ap (is_string s) (right_is b i) ∙ second-string s ready.audited e is_equation_lem left-string

  step_from : (a b : ℕ) → a ≡ (term_at m.terms e).first → b ≡ (term_at m.terms e).second
      → step known e g s ≡ form_then known a (pairs_view m.reasons c.reasons) (λ l. right_form known b g l (pairs_view m.reasons c.reasons)) s
  unfolding step right_form resolve_forms
  step_from a b i j = rw (left_is a i) (rw (right_is b j) refl)

  module _ (a b : ℕ) (i : a ≡ (term_at m.terms e).first) (j : b ≡ (term_at m.terms e).second) where
    from : {m₂ : Lent} {o : Out Stepped} → Working (form_then known a (pairs_view m.reasons c.reasons) (λ l. right_form known b g l (pairs_view m.reasons c.reasons))) m m₂ c o → Working (step known e g) m m₂ c o
    from v = working_is (step_from a b i j) v

    pub left-stop : {m₁ : Lent} {k : ℕ} → Working (deep_form known a) m m₁ c (stop k) → Working (step known e g) m m₁ c (stop k)
    left-stop w = from (form-stop known a _ _ w)

    pub left-none : {m₁ : Lent} (d : State) {d' : State} → Working (deep_form known a) m m₁ c (ok (store_of m₁ d) none) → d' ≡ reasons_at d c.reasons → Working (step known e g) m m₁ c (ok (store_of m₁ d') unexpanded)
    left-none d w z = from (rw z (form-none known a ready (left-fits a i) d c.reasons _ (omega arith) w))

    module _ {m₁ : Lent} (list : List ℕ) (n : ℕ) (d : State) (w : Working (deep_form known a) m m₁ c (ok (store_of m₁ d) (some (first_words list n)))) where
      pub right-fits : form_arguments known b (store_of m₁ d) ≡ true
      right-fits =
          both_true (is_list (store_of m₁ d) known) _ (form-keeps list known a ready (left-fits a i) n d w known (both_left (is_list s known) _ lists))
          (form-string list known a ready (left-fits a i) n d w b (right-string b j))

      pub left-some : {m₂ : Lent} {l : List ℕ} {o : Out Stepped} → l ≡ first_words list n → (y : ℤ) → y ≡ g → Working (right_form known b y l (pairs_view m₁.reasons c.reasons)) m₁ m₂ d o → Working (step known e g) m m₂ c o
      left-some {m₂} {l} {o} z y u v =
          from (form-some list known a ready (left-fits a i) n d w (pairs_view m.reasons c.reasons) (λ l. right_form known b g l (pairs_view m.reasons c.reasons))
          (subst (λ (rs : List (ℕ × ℕ)). Working (right_form known b g (first_words list n) rs) m₁ m₂ d o) (reasons-kept m m₁ c w.kept.store c.reasons (omega arith))
          (subst (λ (h : List ℕ). Working (right_form known b g h (pairs_view m₁.reasons c.reasons)) m₁ m₂ d o) z (subst (λ (h : ℤ). Working (right_form known b h l (pairs_view m₁.reasons c.reasons)) m₁ m₂ d o) u v))))

-- THE PUBLIC CALL

-- an answer handed on: after a refusal the index is cut
pub undone-stepped : {t t' : List ℕ} (e h r ks : List ℕ) {n : ℕ} (l : List ℕ) (x : Result Outcome Refusal) {o : Result Outcome Refusal} → CutRefused t t' n x o → Undone (lent t e h r ks) (lent t' e h r ks) n (stepped x (lent t e h r ks) l) (stepped o (lent t' e h r ks) l)
undone-stepped e h r ks l (Ok (Answered (Done d))) p = given _ _ refl (rw (p.same, p.given refl)) (ap (λ (w : List ℕ). lent w e h r ks) (p.given refl))
undone-stepped e h r ks l (Ok (Answered (Saturated d))) p = given _ _ refl (rw (p.same, p.given refl)) (ap (λ (w : List ℕ). lent w e h r ks) (p.given refl))
undone-stepped e h r ks l (Ok (Answered (Conflict d))) p = given _ _ refl (rw (p.same, p.given refl)) (ap (λ (w : List ℕ). lent w e h r ks) (p.given refl))
undone-stepped e h r ks l (Ok (Answered (Propagate d v u f))) p = given _ _ refl (rw (p.same, p.given refl)) (ap (λ (w : List ℕ). lent w e h r ks) (p.given refl))
undone-stepped e h r ks l (Ok (Answered (Split d k g i))) p = given _ _ refl (rw (p.same, p.given refl)) (ap (λ (w : List ℕ). lent w e h r ks) (p.given refl))
undone-stepped e h r ks l (Ok (Unexpanded d)) p = given _ _ refl (rw (p.same, p.given refl)) (ap (λ (w : List ℕ). lent w e h r ks) (p.given refl))
undone-stepped e h r ks l (Err j) p = cut (number j) refl (rw p.same) (p.refused refl) (record { cells = refl; chars = refl; reasons = refl; keys = refl })

module _ (known : List ℕ) (e : ℕ) (g : ℤ) (m : Lent) (c : State) (l : List ℕ) where
  pub call-short : length l < list_limit → PublicStep known e g m m l l c (stop 1)
  call-short h = record { is = listed-short (step_arguments known e g) (step known e g) m c l h; worth = λ s' w q. stop-not q; once = λ s' w q. stop-not q; grows = λ s' atoms z n q. stop-not q }

  module _ (h : list_limit ≤ length l) (k : ℕ) (v : k ≡ audit m c) where
    pub call_unready : (k ≡ 0 → ⊥) → PublicStep known e g m m l l c (stop k)
    call_unready d = record { is = listed_unready (step_arguments known e g) (step known e g) m c l h k v d; worth = λ s' w q. stop-not q; once = λ s' w q. stop-not q; grows = λ s' atoms z n q. stop-not q }

    module _ (z : k ≡ 0) (f : ℤ) (u : f ≡ g) (b : Bool) (q : b ≡ step_arguments known e f (store_of m c)) where
      i : b ≡ step_arguments known e g (store_of m c)
      i = q ∙ ap (λ (y : ℤ). step_arguments known e y (store_of m c)) u

      pub call-unfit : not b ≡ true → PublicStep known e g m m l l c (stop 5)
      call-unfit n = record { is = listed-unfit (step_arguments known e g) (step known e g) m c l h k v z b i n; worth = λ s' w q. stop-not q; once = λ s' w q. stop-not q; grows = λ s' atoms z n q. stop-not q }

      module _ (n : not b ≡ false) where
        pub call-ready : Ready m c
        call-ready = passed-ready m c k v z

        fit : step_arguments known e g (store_of m c) ≡ true
        fit = sym i ∙ not-false b n

        pub call-fit : step_arguments known e f (store_of m c) ≡ true
        call-fit = sym q ∙ not-false b n

        pub call-steps : {m₁ m' : Lent} {l' : List ℕ} {o₁ o : Out Stepped} → Working (step known e f) m m₁ c o₁ → Undone m₁ m' c.terms o₁ o → PublicStep known e g m m' l l' c o
        call-steps {m₁} {m'} {l'} {o₁} {o} y n₁ = let w = subst (λ (h : ℤ). Working (step known e h) m m₁ c o₁) u y in record {
          is = listed-works (step_arguments known e g) (step known e g) m c l h k v z b i n (λ j q. refused_wider (omega arith) (step-stops known e g (store_of m c) call-ready.audited fit j q)) w n₁;
          worth = λ s' x q. step-sound known e g (store_of m c) call-ready.audited fit s' x (w.says ∙ sym (undone-is n₁) ∙ q);
          once = λ s' x q. (step_gives known e g (store_of m c) call-ready.audited fit s' x (w.says ∙ sym (undone-is n₁) ∙ q)).later.reasons;
          grows = λ s' atoms z j q. (step_gives known e g (store_of m c) call-ready.audited fit s' (answered (split atoms z j)) (w.says ∙ sym (undone-is n₁) ∙ q)).grows;
        }

-- THE ARGUMENTS

module _ (l : List ℕ) (c : State) (known : List ℕ) (e : ℕ) (v : Bool) (x : v ≡ (is_list (termed l c) known && is_equation (termed l c) e)) where
  -- the side of an equation that is read
  pub equation-first : v ≡ true → (a : ℕ) → a ≡ (term_at l e).first → (b : Bool) → b ≡ is_string (termed l c) a → b ≡ (v && is_string (termed l c) (term (termed l c) e).first)
  equation-first h a p b q =
      let i = eqb-true (kind (termed l c) e) 5 (both_right (is_list (termed l c) known) _ (sym x ∙ h)) in
      rw h (q ∙ ap (is_string (termed l c)) (p ∙ ap (λ (y : Term). y.first) (sym (view_term l c.terms e (term-within (lent l [] [] [] []) c e (kind-term (termed l c) e 4 i))))))
