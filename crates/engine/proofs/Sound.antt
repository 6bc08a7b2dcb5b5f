-- explain over an audited store: it gives reasons of the store's edges in turn, each that the list lacks is added, it stops only where
-- the next that it lacks finds the room full, and what is listed then explains.
use mathlib.Core.Path.{◌≡◌, refl, sym, ap, subst, ◌∙◌}
use mathlib.Core.Bool.{true, false, ◌&&◌}
use mathlib.Core.List.Memᴰ
use mathlib.Core.List.{List, [], ◌∷◌, ◌++◌, Memᴰ}
use mathlib.Core.Logic.{⊎_elim}
use Prim.Native.Nat.{ℕ, ◌≤◌}
use native.Mathlib.Omega.{arith}
use lib.ListN.{length}
use borrow.Author.Tests.{eqb-true}
use Rattle.records.specs.Lists.{all, Every}
use Rattle.records.specs.Store.{Store, Out, ok, stop, and_then, give, is_string, same_class}
use Rattle.records.specs.Rules.{reason_rule}
use Rattle.records.specs.Make.{with_reasons, EachOnce}
use Rattle.records.specs.Meaning.{Words, Reading, Holds}
use Rattle.records.specs.Working.Audited.{Audited}
use Rattle.records.proofs.Lists.{every_map, every_all, all_append, both_left, both_right, both_true, clash}
use Rattle.records.proofs.Grown.{Grown, string-term, holds-fewer}
use Rattle.records.proofs.Beside.{audited-beside, grown-beside}
use Rattle.engine.specs.Explain.{Seen, walked, height, explain, explain_arguments, gives_reason, is_reasoned}
use Rattle.engine.specs.Meaning.{Explains, Labels}
use Rattle.engine.proofs.Paths.{Together}
use Rattle.engine.proofs.Fits.{height-fit}
use Rattle.engine.proofs.Cites.{roomed, cites, cites-given, with_all, gathered, cites-ok, cites-room, cites-stops}
use Rattle.records.proofs.LaterStores.{Added}
use Rattle.engine.proofs.Run.{walk-run}
use Rattle.engine.proofs.Equal.{words-equal}

-- string terms of one class are in one tree
pub class-together : (s : Store) → Audited s → (a b : ℕ) → is_string s a ≡ true → is_string s b ≡ true → same_class s a b ≡ true → Together s (a, b)
class-together s d a b p q c =
    let i = string-term s a p in
    let j = string-term s b q in
    record { left = i; right = j; tree = eqb-true _ _ (sym (d.classed.alike a b i j) ∙ c) }

-- what explain gives: the same reasons, whatever reasons the store has already and room for more
pub record Explained (s : Store) (a b : ℕ) : Type 0 where
  pub cited : List (ℕ × ℕ)
  pub is : (n : ℕ) (rs : List (ℕ × ℕ)) → explain a b (with_reasons (roomed s n) rs) ≡ cites cited (with_reasons (roomed s n) rs)
  pub causes : Every (Labels s) cited
  pub equal : (w : Words) → Reading s w → Holds s cited w → w a ≡ w b

answer-none : (o : Out (Unit {0})) (seen : Seen) → and_then (λ (v : Seen). give tt) (and_then (λ (u : Unit {0}). give seen) o) ≡ o
answer-none (ok s u) seen = refl
answer-none (stop n) seen = refl

pub explained : (s : Store) → Audited s → (a b : ℕ) → Together s (a, b) → Explained s a b
unfolding explain walked
explained s d a b t =
    let f = height-fit (height s (a, b)) t (omega arith) in
    let x = walk-run s d (height s (a, b)) (a, b) f [] in
    record {
      cited = x.cited;
      is = λ n rs. ap (and_then (λ (v : Seen). give tt)) (x.is n rs) ∙ answer-none (cites x.cited (with_reasons (roomed s n) rs)) x.after;
      causes = x.causes;
      equal = λ w r h.
          words-equal s d x.cited x.after (λ q m. ⊎_elim (λ n. absurd (Memᴰ.not-nil n)) (λ k. k) (x.fresh q m)) w r h (height s (a, b)) (a, b) f x.ends;
    }

-- an explanation given
pub record Gave (s s' : Store) (a b : ℕ) : Type 0 where
  pub added : Added s s'
  pub causes : Every (Labels s) added.more
  pub audited : Audited s'
  pub grown : Grown s s'
  pub equal : (w : Words) → Reading s w → Holds s s'.reasons w → w a ≡ w b

-- string terms of one class in an audited store
module _ (s : Store) (d : Audited s) (a b : ℕ) (p : is_string s a ≡ true) (q : is_string s b ≡ true) (c : same_class s a b ≡ true) where
  abbrev here : Explained s a b
  here = explained s d a b (class-together s d a b p q c)

  gave : (x : Explained s a b) (s' : Store) (u : Unit {0}) → cites x.cited s ≡ ok s' u → Gave s s' a b
  gave x s' u e =
      let g = gathered (Labels s) x.causes s.reasons in
      let z : s' ≡ with_reasons s (with_all s.reasons x.cited) = cites-ok s x.cited s.reasons s' u e in
      let k : s' ≡ with_reasons s (s.reasons ++ g.once.more) = z ∙ ap (with_reasons s) g.once.is in
      let l : List (ℕ × ℕ) = s.reasons ++ g.once.more in
      let n : length (with_all s.reasons x.cited) ≤ s.room.reasons = cites-room s x.cited s.reasons s' u e d.roomy.reasons in
      let m = ap length g.once.is in
      let good : all reason_rule l ≡ true =
      all_append reason_rule s.reasons g.once.more ∙ both_true _ _ d.recorded.reasons (every_all (every_map (λ r q. q.good) g.each)) in
      record {
        added = record { more = g.once.more; is = k; new = g.once.new };
        causes = g.each;
        audited = subst Audited (sym k) (audited-beside s l s.keys s.names d good d.recorded.keys (omega arith) d.roomy.keys);
        grown = subst (Grown s) (sym k) (grown-beside s l s.keys s.names);
        equal = λ w r h. x.equal w r (holds-fewer (λ q i. subst (Memᴰ q) (sym (ap (λ (y : Store). y.reasons) z)) (g.all q i)) h);
      }

  pub explain_gives : (s' : Store) (u : Unit {0}) → explain a b s ≡ ok s' u → Gave s s' a b
  explain_gives s' u e = gave here s' u (sym (here.is s.room.reasons s.reasons) ∙ e)

  -- it stops only with 7
  pub explain_stops : (n : ℕ) → explain a b s ≡ stop n → n ≡ 7
  explain_stops n e = cites-stops s here.cited s.reasons n (sym (here.is s.room.reasons s.reasons) ∙ e)

  pub explain_sound : (s' : Store) (u : Unit {0}) → explain a b s ≡ ok s' u → Explains s s' a b
  explain_sound s' u e = (explain_gives s' u e).equal

  pub explain_kept : (s' : Store) (u : Unit {0}) → explain a b s ≡ ok s' u → Audited s'
  explain_kept s' u e = (explain_gives s' u e).audited

  -- an explanation without a reason of its own adds none to any list
  pub unreasoned : is_reasoned s a b ≡ false → (rs : List (ℕ × ℕ)) → explain a b (with_reasons s rs) ≡ ok (with_reasons s rs) tt
  unfolding is_reasoned cites
  unreasoned e rs = here.is s.room.reasons rs ∙ go here.cited (ap gives_reason (sym (here.is 1 [])) ∙ e)
    where
      go : (l : List (ℕ × ℕ)) → gives_reason (cites l (with_reasons (roomed s 1) [])) ≡ false → cites l (with_reasons s rs) ≡ ok (with_reasons s rs) tt
      go [] f = refl
      go (r ∷ l) f = clash (cites-given (roomed s 1) r l) f

-- the same, where the arguments pass
pub explain_gave : (s : Store) → Audited s → (a b : ℕ) → explain_arguments a b s ≡ true → (s' : Store) (u : Unit {0}) → explain a b s ≡ ok s' u → Gave s s' a b
explain_gave s d a b h s' u e =
    let i = both_left (is_string s a && is_string s b) _ h in
    explain_gives s d a b (both_left _ _ i) (both_right (is_string s a) _ i) (both_right (is_string s a && is_string s b) _ h) s' u e

-- what holds under a list that grew holds under what it was
pub holds_earlier : {s : Store} {w : Words} {l l' : List (ℕ × ℕ)} → EachOnce l l' → Holds s l' w → Holds s l w
holds_earlier e h = holds-fewer (λ q i. subst (Memᴰ q) (sym e.is) (Memᴰ.append_left e.more i)) h
