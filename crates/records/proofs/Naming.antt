-- Names: a counter in decimal, and the first that no variable has.
use mathlib.Core.Path.{◌≡◌, refl, sym, ap, subst, ◌∙◌}
use mathlib.Core.Bool.{Bool, true, false, not}
use mathlib.Core.List.{List, [], ◌∷◌, ◌++◌, append_assoc, append-nil}
use mathlib.Core.Option.{Option, none, some}
use Prim.Native.Nat.{ℕ, zero, suc, ◌+◌, ◌-◌, ◌/◌, ◌%◌, ◌<◌, ◌≤◌}
use native.Mathlib.Numerals.{add-one}
use native.Mathlib.Nat.{add-zero}
use native.Mathlib.Omega.{arith}
use native.Mathlib.Decide.{dec_lt}
use lib.ListN.{length, take, set, length-append}
use lib.Dec.{eqb}
use lib.Seq.{sets, sets-eq, take-suc-set, length-take-le}
use borrow.Author.Tests.{lt-ltb, le-ltb, ne_eqb, not-true, not-false}
use Rattle.records.specs.declared.State.{State}
use Rattle.records.specs.Lists.{first_below}
use Rattle.records.specs.Store.{Store, ok, count, within}
use Rattle.records.specs.View.{lent, store_of, names_at}
use Rattle.records.specs.Rules.{named}
use Rattle.records.specs.Make.{strk, decimal_by, name_of, is_taken, with_names, name_limit, take_name_by, take_name, number_of, lookup, is_some}
use Rattle.records.specs.Working.Leaves.{text_of, has_text}
use Rattle.records.specs.Working.Audited.{Ready}
use Rattle.std.specs.Prelude.{Ok, Err}
use Rattle.records.specs.declared.refusal.Refusal.TheVariants.{Names}
use Rattle.records.specs.Working.Doing.{Taken}
use Rattle.records.specs.Working.Leaves.{Free}
use Rattle.records.specs.Working.Puts.{Written}
use Rattle.records.proofs.Lists.{first-same}
use Rattle.records.proofs.Doing.{ready-names}
use Rattle.records.proofs.Refines.Making.{texts-within, found-text}

-- DECIMALS

decimal-small : (n x : ℕ) → x < 10 → decimal_by (suc n) x ≡ (48 + x) ∷ []
unfolding decimal_by
decimal-small n x h = rw (lt-ltb x 10 h, decimal_by)

decimal_large : (n x : ℕ) → 10 ≤ x → decimal_by (suc n) x ≡ decimal_by n (x / 10) ++ ((48 + x % 10) ∷ [])
unfolding decimal_by
decimal_large n x h = rw (le-ltb x 10 h, decimal_by)

pub decimal-length : (n x : ℕ) → length (decimal_by n x) ≤ n
unfolding decimal_by
decimal-length zero x = omega arith
decimal-length (suc n) x = go (decimal-length n (x / 10)) (dec_lt x 10)
  where
    go : length (decimal_by n (x / 10)) ≤ n → Dec (x < 10) → length (decimal_by (suc n) x) ≤ suc n
    go h (yes k) = rw (decimal-small n x k) (omega arith)
    go h (no k) = rw (decimal_large n x (omega arith), length-append) (omega arith)

pub decimal-none : (l : List ℕ) (at n x : ℕ) → n ≡ 0 → Written l l at (decimal_by n x) at
unfolding decimal_by
decimal-none l at n x e = rw e (record { after = sym (add-zero at); words = sym (append-nil (take at l)) })

pub decimal-one : (l : List ℕ) (at n x : ℕ) → (n ≡ 0 → ⊥) → x < 10 → at + n ≤ length l → Written l (set l at (48 + x)) at (decimal_by n x) (at + 1)
decimal-one l at zero x z h b = absurd (z refl)
decimal-one l at (suc n) x z h b =
    rw (decimal-small n x h) (record { after = refl; words = rw (add-one at) (take-suc-set l at (48 + x) (omega arith)) })

pub decimal-more : (l l' : List ℕ) (at n x e : ℕ) → (n ≡ 0 → ⊥) → 10 ≤ x → at + n ≤ length l → length l' ≡ length l → Written l l' at (decimal_by (n - 1) (x / 10)) e
    → Written l (set l' e (48 + x % 10)) at (decimal_by n x) (e + 1)
decimal-more l l' at zero x e z h b s w = absurd (z refl)
decimal-more l l' at (suc n) x e z h b s w =
    let k : suc n - 1 ≡ n = omega arith in
    let w' : Written l l' at (decimal_by n (x / 10)) e = rw k at w in
    let d = decimal-length n (x / 10) in
    let a = w'.after in
    rw (decimal_large n x h)
    (record {
      after = rw length-append (omega arith);
      words = rw (add-one e) (take-suc-set l' e (48 + x % 10) (omega arith) ∙ rw w'.words (append_assoc (take at l) (decimal_by n (x / 10)) ((48 + x % 10) ∷ [])));
    })

-- the place after the higher digits is within the slice
pub decimal-room : (l l' : List ℕ) (at n x e : ℕ) → (n ≡ 0 → ⊥) → at + n ≤ length l → length l' ≡ length l → Written l l' at (decimal_by (n - 1) (x / 10)) e → e < length l'
decimal-room l l' at n x e z b s w = let d = decimal-length (n - 1) (x / 10) in let a = w.after in omega arith

-- NAMES

name_start : (l : List ℕ) → 5 ≤ length l → take 5 (sets l 0 strk) ≡ strk
name_start l h = rw (sets-eq strk l 0 h)

pub name_put : (l l' : List ℕ) (x r : ℕ) → 15 ≤ length l → Written (set (set (set (set (set l 0 33) 1 115) 2 116) 3 114) 4 107) l' 5 (decimal_by 10 x) r → Written l l' 0 (name_of x) r
unfolding name_of
name_put l l' x r h w =
    let a = w.after in
    record { after = omega arith; words = w.words ∙ ap (λ (v : List ℕ). v ++ decimal_by 10 x) (name_start l (omega arith)) }

pub name_length : (x : ℕ) → length (name_of x) ≤ 15
unfolding name_of
name_length x = let d = decimal-length 10 x in omega arith

-- the name in an array of 15 words
pub name_here : (l l' : List ℕ) (x n : ℕ) → length l ≡ 15 → length l' ≡ length l → Written l l' 0 (name_of x) n → n ≤ length l'
name_here l l' x n h k w = let d = name_length x in let a = w.after in omega arith

pub name_part : (l l' : List ℕ) (x n : ℕ) → length l ≡ 15 → length l' ≡ length l → Written l l' 0 (name_of x) n → n ≡ length (take n l')
name_part l l' x n h k w = sym (length-take-le n l' (name_here l l' x n h k w))

variable-found : (w : List ℕ) (s : Store) → lookup (text_of 2 w) s ≡ lookup (named w) s
unfolding lookup text_of named
variable-found w s = first-same (λ i. text_of 2 w s (suc i)) (λ i. named w s (suc i)) (count s) (λ i h. refl)

-- whether a number was found
found-is : (o : Option ℕ) → not (eqb (number_of o) 0) ≡ is_some o
found-is none = refl
found-is (some i) = rw (ne_eqb (suc i) 0 (λ e. absurd (omega arith)))

pub taken_is : (t e h r ks : List ℕ) (c : State) (l l' : List ℕ) (x n f : ℕ) → Ready (lent t e h r ks) c → Written l l' 0 (name_of x) n
    → f ≡ number_of (first_below (λ i. has_text t h 2 (take n l') (suc i)) c.terms) → not (eqb f 0) ≡ is_taken (store_of (lent t e h r ks) c) x
unfolding is_taken within
taken_is t e h r ks c l l' x n f good w look =
    let m = lent t e h r ks in
    let g : take n l' ≡ name_of x = w.words in
    let a : f ≡ number_of (lookup (named (name_of x)) (store_of m c))
    = look ∙ rw g (ap number_of (found-text m c 2 (name_of x) (texts-within m c 2 good refl) ∙ variable-found (name_of x) (store_of m c))) in
    rw a (found-is (lookup (named (name_of x)) (store_of m c)))

-- TAKING A NAME

by_next : (n : ℕ) (s : Store) → is_taken s s.names ≡ true → take_name_by (suc n) s ≡ take_name_by n (with_names s (suc s.names))
unfolding take_name_by
by_next n s e = rw (e, take_name_by)

by-free : (n : ℕ) (s : Store) → is_taken s s.names ≡ false → take_name_by (suc n) s ≡ ok (with_names s (suc s.names)) (name_of s.names)
unfolding take_name_by
by-free n s e = rw (e, take_name_by)

-- the names from the store's counter up to x are taken
pub record Passed (s : Store) (x : ℕ) : Type 0 where
  pub rest : take_name_by (name_limit - x) (with_names s x) ≡ take_name s

pub passed_none : (s : Store) → Passed s s.names
unfolding take_name
passed_none s = record { rest = refl }

module _ (s : Store) (x : ℕ) (h : Passed s x) where
  pub free-none : name_limit ≤ x → Free s x
  unfolding take_name_by
  free-none p =
      let e : name_limit - x ≡ 0 = omega arith in
      record { free = λ q. absurd (omega arith); spent = λ q. sym h.rest ∙ rw e }

  module _ (b : Bool) (is : b ≡ is_taken s x) (p : x < name_limit) where
    next_by : name_limit - x ≡ suc (name_limit - (x + 1))
    next_by = omega arith

    same : is_taken (with_names s x) x ≡ is_taken s x
    unfolding is_taken lookup named
    same = refl

    pub passed_one : not b ≡ false → Passed s (x + 1)
    passed_one f = record { rest = sym (rw (next_by, add-one x) (by_next (name_limit - suc x) (with_names s x) (same ∙ sym is ∙ not-false b f))) ∙ h.rest }

    pub free_here : not b ≡ true → Free s x
    free_here f = record {
      free = λ q. sym h.rest ∙ rw next_by (by-free (name_limit - (x + 1)) (with_names s x) (same ∙ sym is ∙ not-true b f));
      spent = λ q. absurd (omega arith);
    }

module _ (t e h r ks : List ℕ) (c : State) (ready : Ready (lent t e h r ks) c) (x : ℕ) (f : Free (store_of (lent t e h r ks) c) x) where
  pub name_taken : (l l' : List ℕ) (n : ℕ) (d : State) → x < name_limit → length l ≡ 15 → length l' ≡ length l → Written l l' 0 (name_of x) n → d ≡ names_at c (x + 1)
      → Taken (lent t e h r ks) c (Ok (record { state = d; name = l'; len = n }))
  name_taken l l' n d p k s w q =
      let g : take n l' ≡ name_of x = w.words in
      let b = name_here l l' x n k s w in
      record {
        says = f.free p ∙ rw (q, add-one x, g);
        fits = omega arith;
        ready = subst (Ready (lent t e h r ks)) (sym q) (ready-names (x + 1) ready);
      }

  pub name_spent : name_limit ≤ x → Taken (lent t e h r ks) c (Err Names)
  name_spent p = record { says = f.spent p; fits = tt; ready = tt }
