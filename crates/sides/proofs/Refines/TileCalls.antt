-- Step 5 on the constant side and the side against it: what its functions require and answer.
use Rattle.std.specs.Prelude.{if◌then◌else◌}
use mathlib.Core.Path.{◌≡◌, refl, sym, ap, subst, ◌∙◌}
use mathlib.Core.Bool.{Bool, true, false, not, ◌&&◌}
use mathlib.Core.List.{List, [], ◌∷◌}
use mathlib.Core.Option.{none}
use Prim.Native.Nat.{ℕ, suc, ◌+◌, ◌<◌, ◌≤◌}
use native.Mathlib.Numerals.{add-one}
use native.Mathlib.Omega.{arith}
use lib.ListN.{length, get_or, drop, length-drop}
use lib.Dec.{eqb}
use Rattle.records.specs.declared.State.{State}
use Rattle.std.specs.Prelude.{Result, Ok, Err}
use Rattle.records.specs.declared.refusal.Refusal.{Refusal}
use Rattle.records.specs.Lists.{all, keep, Every}
use Rattle.records.specs.Store.{Store, Out, ok, stop, and_then, ◌>>◌, is_string}
use Rattle.records.specs.View.{Lent, lent, store_of, terms_view, read_in, termed}
use Rattle.records.specs.Rules.{is_list}
use Rattle.records.specs.Calls.{added}
use Rattle.records.specs.Working.Audited.{Ready}
use Rattle.records.specs.Working.Doing.{Working}
use Rattle.records.proofs.Lists.{both_left, and-stop, and-next, failed, passed, decide, all_drop, all_every, every_at, every_map}
use Rattle.records.proofs.ListLaws.{list-strings, list_every}
use Rattle.records.proofs.Doing.{working_same, working_is, working_answer}
use Rattle.records.proofs.Works.{one_store}
use Rattle.sides.specs.declared.StepResult.{StepResult}
use Rattle.sides.specs.declared.StepResult.TheVariants as step
use Rattle.sides.specs.Wordeq.{conflict, Tried, answer, pass, settled, ◌or_else◌, same, fixed, letters, fits, variables, explain_all, tile_by, tile}
use Rattle.sides.specs.Working.Results.{BothLists, Tries}
use Rattle.sides.specs.Working.Sides.{Spelled, which_fixed, picked}
use Rattle.sides.specs.Working.Stripping.{Readable, Pair, part}
use Rattle.sides.specs.Working.Explaining.{OneClass}
use Rattle.sides.specs.Working.Spans.{FirstVariable, agrees, unfit}
use Rattle.sides.proofs.Refines.Stripping.{part-whole}
use Rattle.sides.proofs.SideReady.{ready-read_in, which_whole}
use Rattle.sides.proofs.Refines.ExplainingEach.{same-classes}
use Rattle.sides.proofs.Refines.Fitting.{fits_whole}
use Rattle.sides.proofs.Residual.{fixed-variables, variables-from, variables-none, variables-short, agree-variables}

-- A LIST

module _ (s : Store) (l : List ℕ) (e : is_list s l ≡ true) where
  pub list-string : (i : ℕ) → i < length l → is_string s (get_or l i 0) ≡ true
  list-string i b = every_at l i 0 (list_every s l e) b

-- the part after place i
pub after : (l : List ℕ) (i : ℕ) → part l (i + 1) (length l) ≡ drop (suc i) l
after l i = part-whole l (i + 1) ∙ ap (λ (x : ℕ). drop x l) (add-one i)

pub after-strings : (s : Store) (l : List ℕ) (i : ℕ) → is_list s l ≡ true → all (is_string s) (part l (i + 1) (length l)) ≡ true
after-strings s l i e = ap (all (is_string s)) (after l i) ∙ all_drop (is_string s) (suc i) l (list-strings s l e)

pub after-short : (s : Store) (l : List ℕ) (i n : ℕ) → i < length l → n ≡ length (variables s (part l (i + 1) (length l))) → n + 1 ≤ length l
after-short s l i n b e =
    let f = e ∙ ap (λ (k : List ℕ). length (variables s k)) (after l i) in
    let g = variables-short s (drop (suc i) l) in
    let h = length-drop (suc i) l in
    omega arith

-- WHETHER NO WORD FITS

pub readable_read_in : (t h : List ℕ) (c : State) → Readable t h c → Spelled t h c
readable_read_in t h c r = ready-read_in (lent t r.cells h r.reasons r.keys) c r.ready

module _ (t h : List ℕ) (c : State) (word side : List ℕ) (i : ℕ) where
  abbrev s : Store
  s = read_in t h c

  abbrev v : ℕ
  v = get_or side i 0

  abbrev vs : List ℕ
  vs = variables s (drop (suc i) side)

  module _ (b : Bool) (e : b ≡ all (agrees s v) (part side (i + 1) (length side))) where
    classes : b ≡ all (λ u. same s u v) vs
    classes = e ∙ ap (all (agrees s v)) (after side i) ∙ agree-variables s v (drop (suc i) side)

    pub unfit-apart : b ≡ false → b ≡ unfit s word side v vs
    unfit-apart n = n ∙ and-stop _ _ (sym classes ∙ n)

    pub unfit-is : b ≡ true → (n : ℕ) → n ≡ length (variables (termed t c) (part side (i + 1) (length side))) → (f : Bool) → f ≡ fits s (letters s word) side (n + 1) → not f ≡ unfit s word side v vs
    unfit-is o n g f j =
        and-next _ _ (not f) (sym classes ∙ o)
        (ap not (j ∙ ap (λ (k : ℕ). fits s (letters s word) side k) (add-one n ∙ ap suc (g ∙ ap (λ (k : List ℕ). length (variables s k)) (after side i)))))

-- THE STEP ON THE SIDES

module _ (t e h rs ks : List ℕ) (c : State) (word side : List ℕ) (i : ℕ) (x : FirstVariable (termed t c) side i) where
  abbrev m : Lent
  m = lent t e h rs ks

  abbrev s₁ : Store
  s₁ = store_of m c

  abbrev v₁ : ℕ
  v₁ = get_or side i 0

  abbrev vs₁ : List ℕ
  vs₁ = variables s₁ (drop (suc i) side)

  here : FirstVariable s₁ side i
  unfolding fixed
  here = record { within = x.within; before = x.before; at = x.at }

  pub tile-none : Ready m c → length side ≤ i → Tries (tile_by s₁ word side (variables s₁ side)) m m c (Ok (step.Done c))
  unfolding tile_by
  tile-none d b = record { is = λ k. working_same d (ap (λ (l : List ℕ). tile_by s₁ word side l s₁) (variables-none s₁ side i here b)) }

  module _ (b : i < length side) (y : Bool) (f : y ≡ unfit (read_in t h c) word side (get_or side i 0) (variables (read_in t h c) (drop (suc i) side))) where
    found : variables s₁ side ≡ v₁ ∷ vs₁
    found = variables-from s₁ side i here b

    whole : y ≡ unfit s₁ word side v₁ vs₁
    unfolding same
    whole = f ∙ ap (λ (z : Bool). all (λ u. same s₁ u v₁) vs₁ && not z) (fits_whole t e h rs ks c word side (suc (length vs₁)))

    pub tile-fits : Ready m c → not y ≡ true → Tries (tile_by s₁ word side (variables s₁ side)) m m c (Ok (step.Done c))
    unfolding tile_by
    tile-fits d n = record { is = λ k. working_same d (ap (λ (l : List ℕ). tile_by s₁ word side l s₁) found ∙ passes (failed _ y whole n)) }
      where
        passes : unfit s₁ word side v₁ vs₁ ≡ false → tile_by s₁ word side (v₁ ∷ vs₁) s₁ ≡ ok s₁ none
        passes z = rw z

    module _ (n : not y ≡ false) where
      test : unfit s₁ word side v₁ vs₁ ≡ true
      test = passed _ y whole n

      pub tile-pairs : is_list s₁ side ≡ true → Every (λ u. Pair (read_in t h c) u v₁) (part side (i + 1) (length side))
      tile-pairs l =
          every_map (λ a k. record { one = k; other = list-string s₁ side l i b }) (all_every (is_string s₁) (part side (i + 1) (length side)) (after-strings s₁ side i l))

      pub tile-classes : Every (λ u. OneClass (terms_view t c.terms) u v₁) (part side (i + 1) (length side))
      tile-classes = subst (Every (λ u. OneClass (terms_view t c.terms) u v₁)) (sym (after side i)) (same-classes s₁ v₁ (drop (suc i) side) (both_left _ _ test))

      module _ (rs' : List ℕ) where
        explained : (y : Result State Refusal) → Working (explain_all (variables (read_in t h c) (part side (i + 1) (length side))) v₁) m (lent t e h rs' ks) c (added y (lent t e h rs' ks))
            → Working (explain_all vs₁ v₁) m (lent t e h rs' ks) c (added y (lent t e h rs' ks))
        explained y w = working_is (ap (λ (l : List ℕ). explain_all (variables s₁ l) v₁ s₁) (sym (after side i))) w

        tiled : (y : Result State Refusal) → Working (explain_all (variables (read_in t h c) (part side (i + 1) (length side))) v₁) m (lent t e h rs' ks) c (added y (lent t e h rs' ks))
            → Working (tile_by s₁ word side (variables s₁ side)) m (lent t e h rs' ks) c (and_then (λ u. answer conflict) (added y (lent t e h rs' ks)))
        unfolding tile_by
        tiled y w =
            working_is (ap (λ (l : List ℕ). tile_by s₁ word side l s₁) found ∙ cites test)
            (working_answer (λ u. answer conflict) (λ u s s' x i. one_store i) (explained y w))
          where
            cites : unfit s₁ word side v₁ vs₁ ≡ true → tile_by s₁ word side (v₁ ∷ vs₁) s₁ ≡ and_then (λ u. answer conflict) (explain_all vs₁ v₁ s₁)
            cites z = rw z

        pub tile-conflict : (d : State) → Working (explain_all (variables (read_in t h c) (part side (i + 1) (length side))) v₁) m (lent t e h rs' ks) c (added (Ok d) (lent t e h rs' ks))
            → Tries (tile_by s₁ word side (variables s₁ side)) m (lent t e h rs' ks) c (Ok (step.Conflict d))
        tile-conflict d w = record { is = λ k. tiled (Ok d) w }

        pub tile-refused : (n : Refusal) → Working (explain_all (variables (read_in t h c) (part side (i + 1) (length side))) v₁) m (lent t e h rs' ks) c (added (Err n) (lent t e h rs' ks))
            → Tries (tile_by s₁ word side (variables s₁ side)) m (lent t e h rs' ks) c (Err n)
        tile-refused n w = record { is = λ k. tiled (Err n) w }

-- THE SIDES

module _ (s : Store) (l r : List ℕ) where
  -- step 5 with a side on a store that has no variables in the other passes
  tile-fixed : fixed s r ≡ true → tile l r s ≡ ok s none
  unfolding tile tile_by
  tile-fixed e = decide (fixed s l) (λ z. rw (z, fixed-variables s r e)) (λ z. rw z)

  tile_left : fixed s l ≡ true → tile l r s ≡ tile_by s l r (variables s r) s
  unfolding tile
  tile_left e = rw e

  tile-not : fixed s l ≡ false → tile l r s ≡ ok s none
  unfolding tile
  tile-not e = rw e

-- a step that leaves the store where it passes
tile_by-once : (s : Store) (l r vs : List ℕ) (n : Tried) → n s ≡ ok s none → and_then (settled n) (tile_by s l r vs s) ≡ tile_by s l r vs s
unfolding tile_by
tile_by-once s l r [] n e = e
tile_by-once s l r (v ∷ vs) n e = go (unfit s l r v vs)
  where
    after-explained : (o : Out (Unit {0})) → and_then (settled n) (and_then (λ u. answer conflict) o) ≡ and_then (λ u. answer conflict) o
    after-explained (ok s' u) = refl
    after-explained (stop k) = refl

    go : (b : Bool) → and_then (settled n) ((if b then (explain_all vs v >> answer conflict) else pass) s) ≡ (if b then (explain_all vs v >> answer conflict) else pass) s
    go true = after-explained (explain_all vs v s)
    go false = e

tile-empty : (s : Store) → tile_by s [] [] (variables s []) s ≡ ok s none
unfolding tile_by keep
tile-empty s = refl

-- 'The constant side is picked from the two lists and handed on as it was lent'
pub tile-sides : (s : Store) (l r : List ℕ) → (tile l r or_else tile r l) s ≡ tile_by s (picked (which_fixed s l r) l r) (picked (which_fixed s l r) r l) (variables s (picked (which_fixed s l r) r l)) s
unfolding which_fixed picked
tile-sides s l r = decide (fixed s l) (λ z. from_left z) (λ z. decide (fixed s r) (λ y. from_right z y) (λ y. from-none z y))
  where
    from_left : fixed s l ≡ true → (tile l r or_else tile r l) s ≡ tile_by s (picked (which_fixed s l r) l r) (picked (which_fixed s l r) r l) (variables s (picked (which_fixed s l r) r l)) s
    from_left z = rw z (ap (and_then (settled (tile r l))) (tile_left s l r z) ∙ tile_by-once s l r (variables s r) (tile r l) (tile-fixed s r l z))

    from_right : fixed s l ≡ false → fixed s r ≡ true → (tile l r or_else tile r l) s ≡ tile_by s (picked (which_fixed s l r) l r) (picked (which_fixed s l r) r l) (variables s (picked (which_fixed s l r) r l)) s
    from_right z y = rw (z, y) (ap (and_then (settled (tile r l))) (tile-not s l r z) ∙ tile_left s r l y)

    from-none : fixed s l ≡ false → fixed s r ≡ false → (tile l r or_else tile r l) s ≡ tile_by s (picked (which_fixed s l r) l r) (picked (which_fixed s l r) r l) (variables s (picked (which_fixed s l r) r l)) s
    from-none z y = rw (z, y) (ap (and_then (settled (tile r l))) (tile-not s l r z) ∙ tile-not s r l y ∙ sym (tile-empty s))

module _ (s : Store) where
  empty-list : is_list s [] ≡ true
  unfolding all
  empty-list = refl

  either_list : (a b : Bool) (k j : List ℕ) → is_list s k ≡ true → is_list s j ≡ true → is_list s (if a then k else (if b then j else [])) ≡ true
  either_list true b k j f g = f
  either_list false true k j f g = g
  either_list false false k j f g = empty-list

  picked-list : (w : ℕ) (l r : List ℕ) → is_list s l ≡ true → is_list s r ≡ true → is_list s (picked w l r) ≡ true
  unfolding picked
  picked-list w l r f g = either_list (eqb w 1) (eqb w 2) l r f g

module _ (m₀ : Lent) (c : State) (l r word side : List ℕ) (w : ℕ) (x : w ≡ which_fixed (termed m₀.terms c) l r) (p : word ≡ picked w l r) (q : side ≡ picked w r l) where
  pub sides-lists : BothLists (store_of m₀ c) l r → BothLists (store_of m₀ c) word side
  sides-lists y = record {
    left = rw p (picked-list (store_of m₀ c) w l r y.left y.right);
    right = rw q (picked-list (store_of m₀ c) w r l y.right y.left);
  }

  pub sides-tried : (m' : Lent) (o : Result StepResult Refusal) → Tries (tile_by (store_of m₀ c) word side (variables (store_of m₀ c) side)) m₀ m' c o → Tries (tile l r or_else tile r l) m₀ m' c o
  sides-tried m' o y = record { is = λ k. working_is (tile-sides (store_of m₀ c) l r ∙ same-sides) (y.is k) }
    where
      same-sides : tile_by (store_of m₀ c) (picked (which_fixed (store_of m₀ c) l r) l r) (picked (which_fixed (store_of m₀ c) l r) r l) (variables (store_of m₀ c) (picked (which_fixed (store_of m₀ c) l r) r l)) (store_of m₀ c)
          ≡ tile_by (store_of m₀ c) word side (variables (store_of m₀ c) side) (store_of m₀ c)
      same-sides =
          ap (λ (z : ℕ). tile_by (store_of m₀ c) (picked z l r) (picked z r l) (variables (store_of m₀ c) (picked z r l)) (store_of m₀ c)) (sym (x ∙ which_whole m₀ c l r))
          ∙ ap (λ (z : List ℕ). tile_by (store_of m₀ c) z (picked w r l) (variables (store_of m₀ c) (picked w r l)) (store_of m₀ c)) (sym p)
          ∙ ap (λ (z : List ℕ). tile_by (store_of m₀ c) word z (variables (store_of m₀ c) z) (store_of m₀ c)) (sym q)
