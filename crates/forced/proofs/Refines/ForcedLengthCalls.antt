-- Each way through the functions of the forced length: one variable class, the form of the two sides, what fits between them, the call.
use Rattle.std.specs.Prelude.{Ok}
use mathlib.Core.Path.{◌≡◌, refl, sym, ap, ◌∙◌}
use mathlib.Core.Bool.{Bool, true, false, ◌&&◌}
use mathlib.Core.List.{List, [], ◌∷◌}
use Prim.Native.Nat.{ℕ, suc, ◌+◌, ◌-◌, ◌*◌, ◌^◌, ◌/◌, ◌%◌, ◌≤◌, ◌<◌}
use native.Mathlib.Numerals.{add-one}
use native.Mathlib.Omega.{arith}
use lib.ListN.{length, get_or, drop, length-take, length-drop}
use lib.Seq.{take_all}
use lib.Dec.{ltb}
use borrow.Author.Tests.{lt-ltb, le-leb, le-ltb}
use Rattle.records.specs.declared.State.{State}
use Rattle.records.specs.Lists.{all}
use Rattle.records.specs.Store.{Store, Out, ok, stop, and_then, ◌>>=◌, is_string}
use Rattle.records.specs.View.{char_limit, Lent, store_of, read_in, termed}
use Rattle.records.specs.Rules.{audit, list_limit, is_list}
use Rattle.records.specs.Working.Doing.{Working}
use Rattle.records.specs.Working.Audited.{Ready}
use Rattle.records.proofs.Lists.{table-length, both_left, both_right, both_true, and-stop, and-next, every_at, all_take, all_drop}
use Rattle.records.proofs.ListLaws.{list-short, list-strings, list_every}
use Rattle.records.proofs.Public.{numbered, call_unready, call-unfit, call_still, passed-ready}
use Rattle.records.proofs.Works.{stop-not}
use Rattle.records.specs.declared.refusal.Refusal.{Refusal}
use Rattle.records.specs.Refusal.{number}
use Rattle.records.proofs.IndexStores.{keeps_same}
use Rattle.records.proofs.Doing.{working_same, working_stopped, working_at, working_is}
use Rattle.normalize.specs.Normalize.{flatten}
use Rattle.sides.specs.declared.Rest.{Rest}
use Rattle.sides.specs.Wordeq.{same, fixed, letters_of, letters, variables}
use Rattle.wordeq.specs.Calls.{equal_arguments}
use Rattle.sides.specs.Working.Results.{BothLists}
use Rattle.sides.specs.Working.Stripping.{Readable, Finds, part}
use Rattle.sides.specs.Working.Spans.{FirstVariable, agrees}
use Rattle.sides.proofs.Residual.{variables-from, variables-none, agree-variables, rest_read, letters-read}
use Rattle.forced.specs.declared.Forced.{Forced}
use Rattle.forced.specs.declared.Forced.TheVariants as forced
use Rattle.forced.specs.Forced.{spans, short, Fit, fit_of, one_class, is_forced, side_fit, sides_fit, residual_fit, forced_length}
use Rattle.forced.specs.Calls.{measured, fitted, PublicForced}
use Rattle.forced.proofs.Unfit.{some_variable}
use Rattle.forced.proofs.ForcedLength.{forces, forced_few}

-- ONE CLASS

-- the part after place i
after : (l : List ℕ) (i : ℕ) → part l (i + 1) (length l) ≡ drop (suc i) l
after l i = take_all (length l - (i + 1)) (drop (i + 1) l) (rw (length-drop (i + 1) l) (omega arith)) ∙ ap (λ (x : ℕ). drop x l) (add-one i)

module _ (s : Store) (l : List ℕ) (h : is_list s l ≡ true) where
  pub list-string : (i : ℕ) → i < length l → is_string s (get_or l i 0) ≡ true
  list-string i b = every_at l i 0 (list_every s l h) b

  pub part-strings : (i e : ℕ) → all (is_string s) (part l i e) ≡ true
  part-strings i e = all_take (is_string s) (e - i) (drop i l) (all_drop (is_string s) i l (list-strings s l h))

  pub after-strings : (i : ℕ) → all (is_string s) (part l (i + 1) (length l)) ≡ true
  after-strings i = part-strings (i + 1) (length l)

module _ (t h : List ℕ) (c : State) (side : List ℕ) (i : ℕ) (x : FirstVariable (termed t c) side i) where
  abbrev s : Store
  s = read_in t h c

  here : FirstVariable s side i
  unfolding fixed
  here = record { within = x.within; before = x.before; at = x.at }

  pub class-none : length side ≤ i → false ≡ one_class s (variables s side)
  unfolding one_class
  class-none b = sym (ap (one_class s) (variables-none s side i here b))

  pub class-is : i < length side → (b : Bool) → b ≡ all (agrees s (get_or side i 0)) (part side (i + 1) (length side)) → b ≡ one_class s (variables s side)
  unfolding one_class
  class-is n b e =
      e ∙ ap (all (agrees s (get_or side i 0))) (after side i) ∙ agree-variables s (get_or side i 0) (drop (suc i) side) ∙ sym (ap (one_class s) (variables-from s side i here n))

-- THE FORM

module _ (t h : List ℕ) (c : State) (word side : List ℕ) (b : Bool) (e : b ≡ fixed (termed t c) word) where
  pub form-not : b ≡ false → b ≡ is_forced (read_in t h c) word side
  unfolding fixed
  form-not n = n ∙ and-stop _ _ (sym e ∙ n)

  pub form-is : b ≡ true → (x : Bool) → x ≡ one_class (read_in t h c) (variables (read_in t h c) side) → x ≡ is_forced (read_in t h c) word side
  unfolding fixed
  form-is n x q = and-next _ _ x (sym e ∙ n) q

-- THE FIT

module _ (t h : List ℕ) (c : State) (x : Readable t h c) (word side : List ℕ) (k n l : ℕ) (p : k ≡ length (variables (termed t c) side)) (q : n ≡ length (letters (termed t c) side)) (r : l ≡ length (letters (termed t c) word)) where
  abbrev s₁ : Store
  s₁ = read_in t h c

  counted : fit_of k n l ≡ side_fit s₁ word side
  counted =
      ap (λ (y : ℕ). fit_of y n l) p
      ∙ ap (λ (y : ℕ). fit_of (length (variables s₁ side)) y l) (q ∙ letters-read t h c x side)
      ∙ ap (λ (y : ℕ). fit_of (length (variables s₁ side)) (length (letters s₁ side)) y) (r ∙ letters-read t h c x word)

  pub fit-short : l < n → measured (forced.Shortage k n l (n - l)) ≡ side_fit s₁ word side
  fit-short z = is (lt-ltb l n z) ∙ counted
    where
      is : ltb l n ≡ true → measured (forced.Shortage k n l (n - l)) ≡ fit_of k n l
      is e = rw e

  pub fit-spans : n ≤ l → measured (forced.Spans k n l ((l - n) / k) ((l - n) % k)) ≡ side_fit s₁ word side
  fit-spans z = is (le-ltb l n z) ∙ counted
    where
      is : ltb l n ≡ false → measured (forced.Spans k n l ((l - n) / k) ((l - n) % k)) ≡ fit_of k n l
      is e = rw e

  pub some-counted : is_forced s₁ word side ≡ true → 0 < k
  some-counted f = (let a = some_variable s₁ word side f in let b : k ≡ length (variables s₁ side) = p in omega arith)

-- THE TWO SIDES

module _ (m : Lent) (c : State) where
  abbrev whole : Store
  whole = store_of m c

  abbrev read : Store
  read = read_in m.terms m.chars c

  one-read : (vs : List ℕ) → one_class read vs ≡ one_class whole vs
  unfolding one_class same
  one-read [] = refl
  one-read (v ∷ vs) = refl

  form_read_lem : (l r : List ℕ) → is_forced read l r ≡ is_forced whole l r
  unfolding fixed
  form_read_lem l r = ap (λ (b : Bool). fixed whole l && b) (one-read (variables whole r))

  fit_read_lem : (l r : List ℕ) → side_fit read l r ≡ side_fit whole l r
  unfolding letters letters_of
  fit_read_lem l r = refl

  says-read : (l r : List ℕ) (o : Forced) → measured o ≡ side_fit read l r → ok whole (side_fit whole l r) ≡ fitted (Ok o) whole
  says-read l r o w = ap (ok whole) (sym (w ∙ fit_read_lem l r))

  module _ (l r : List ℕ) (b : Bool) (i : b ≡ is_forced read l r) where
    pub sides-left : Ready m c → b ≡ true → (o : Forced) → measured o ≡ side_fit read l r → Working (sides_fit l r) m m c (fitted (Ok o) whole)
    unfolding sides_fit
    sides-left ready h o w = working_at (says-read l r o w) (working_same ready (rw (sym (form_read_lem l r) ∙ sym i ∙ h)))

    module _ (h : b ≡ false) (x : Bool) (j : x ≡ is_forced read r l) where
      pub sides-right : Ready m c → x ≡ true → (o : Forced) → measured o ≡ side_fit read r l → Working (sides_fit l r) m m c (fitted (Ok o) whole)
      unfolding sides_fit
      sides-right ready q o w = working_at (says-read r l o w) (working_same ready (rw (sym (form_read_lem l r) ∙ sym i ∙ h, sym (form_read_lem r l) ∙ sym j ∙ q)))

      pub sides-none : x ≡ false → Working (sides_fit l r) m m c (stop 11)
      unfolding sides_fit
      sides-none q = working_stopped (rw (sym (form_read_lem l r) ∙ sym i ∙ h, sym (form_read_lem r l) ∙ sym j ∙ q)) keeps_same

  -- STRIPPED

  part-list : (l : List ℕ) (i e : ℕ) → is_list whole l ≡ true → is_list whole (part l i e) ≡ true
  part-list l i e h =
      let a = list-short whole l h in
      let p = length-take (e - i) (drop i l) in
      let q = length-drop i l in
      both_true _ _ (le-leb (length (part l i e)) list_limit (omega arith)) (part-strings whole l h i e)

  pub parts-lists : (l r : List ℕ) (i x y : ℕ) → BothLists whole l r → BothLists whole (part l i x) (part r i y)
  parts-lists l r i x y b = record { left = part-list l i x b.left; right = part-list r i y b.right }

  pub read-strings : (l : List ℕ) → is_list whole l ≡ true → all (is_string read) l ≡ true
  read-strings l h = list-strings whole l h

  -- a place in a list is a place in memory
  pub place-fits : (l : List ℕ) (i x : ℕ) → is_list whole l ≡ true → i ≤ x → x ≤ length l → i * 4 < 2 ^ 64
  place-fits l i x h p q = let a = list-short whole l h in omega arith

  pub stripped : (l r : List ℕ) (x : Rest) → Finds read l r x → {o : Out Fit}
      → Working (sides_fit (part l x.from x.lhs) (part r x.from x.rhs)) m m c o → Working (residual_fit l r) m m c o
  unfolding residual_fit
  stripped l r x f w = working_is (ap (λ (v : List ℕ × List ℕ). sides_fit v.0 v.1 whole) (rest_read m c l r ∙ f.is)) w

  -- FLATTENED

  module _ (l r : List ℕ) where
    abbrev onward : List ℕ → Store → Out Fit
    onward l₁ = flatten r >>= (λ r₁. residual_fit l₁ r₁)

    pub left-passes : flatten l whole ≡ stop 6 → Working (forced_length l r) m m c (stop 6)
    unfolding forced_length
    left-passes e = working_stopped (ap (and_then onward) e) keeps_same

    module _ (l₁ : List ℕ) (e : flatten l whole ≡ ok whole l₁) where
      pub right-passes : flatten r whole ≡ stop 6 → Working (forced_length l r) m m c (stop 6)
      unfolding forced_length
      right-passes f = working_stopped (ap (and_then onward) e ∙ ap (and_then (λ r₁. residual_fit l₁ r₁)) f) keeps_same

      pub flat-done : (r₁ : List ℕ) → flatten r whole ≡ ok whole r₁ → {o : Out Fit} → Working (residual_fit l₁ r₁) m m c o → Working (forced_length l r) m m c o
      unfolding forced_length
      flat-done r₁ f w = working_is (ap (and_then onward) e ∙ ap (and_then (λ r₂. residual_fit l₁ r₂)) f) w

-- THE CALL

module _ (l r : List ℕ) (m : Lent) (c : State) (j : ℕ) (v : j ≡ audit m c) where
  pub forced_unready : (j ≡ 0 → ⊥) → PublicForced l r m m c (stop j)
  forced_unready d = record { is = call_unready (equal_arguments l r) (forced_length l r) m c j v d; still = refl; worth = λ s' x e. stop-not e; few = λ s' x e. stop-not e }

  module _ (z : j ≡ 0) (b : Bool) (i : b ≡ equal_arguments l r (store_of m c)) where
    pub forced-unfit : b ≡ false → PublicForced l r m m c (stop 5)
    forced-unfit f = record { is = call-unfit (equal_arguments l r) (forced_length l r) m c j v z b i f; still = refl; worth = λ s' x e. stop-not e; few = λ s' x e. stop-not e }

    module _ (f : b ≡ true) where
      fit : equal_arguments l r (store_of m c) ≡ true
      fit = sym i ∙ f

      pub forced-ready : Ready m c
      forced-ready = passed-ready m c j v z

      pub forced-lists : BothLists (store_of m c) l r
      forced-lists = record { left = both_left (is_list (store_of m c) l) _ fit; right = both_right (is_list (store_of m c) l) _ fit }

      pub forced_called : {o : Out Fit} → Working (forced_length l r) m m c o → PublicForced l r m m c o
      forced_called w = record {
        is = call_still (equal_arguments l r) (forced_length l r) m c j v z b i f w;
        still = refl;
        worth = λ s' x e. forces l r (store_of m c) forced-ready.audited (list-strings (store_of m c) l forced-lists.left) (list-strings (store_of m c) r forced-lists.right) s' x (w.says ∙ e);
        few = λ s' x e. forced_few (store_of m c) chars-few l r s' x (w.says ∙ e);
      }
        where
          chars-few : length (store_of m c).chars ≤ char_limit
          chars-few = (let a = table-length (λ i. get_or m.chars i 0) c.chars in let b = forced-ready.sized.char_limited in omega arith)

-- the same of what the audit answers as a Result
pub forced_refused : (l r : List ℕ) (m : Lent) (c : State) (e : Refusal) → number e ≡ audit m c → PublicForced l r m m c (stop (number e))
forced_refused l r m c e v = forced_unready l r m c (number e) v (numbered e)
