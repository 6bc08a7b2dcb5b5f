-- The ways of a round: its list joined and compared, another round or none; and of the deep form.
use Rattle.std.specs.Prelude.{Result, Ok, Err, Some, None, if◌then◌else◌}
use Rattle.std.specs.Prelude as code
use mathlib.Core.Path.{◌≡◌, refl, sym, ap, ◌∙◌}
use mathlib.Core.Bool.{Bool, true, false}
use mathlib.Core.List.{List, [], ◌∷◌, ◌++◌, reverse, reverse-reverse}
use mathlib.Core.Option.{Option, none, some}
use Prim.Native.Nat.{ℕ, suc, ◌+◌, ◌-◌, ◌≤◌, ◌<◌}
use native.Mathlib.Nat.{zero-add}
use native.Mathlib.Numerals.{add-one}
use native.Mathlib.Omega.{arith}
use lib.ListN.{length, drop, get_or, drop_of_length-le}
use lib.Seq.{drop-cons}
use lib.Dec.{ltb}
use borrow.Author.Tests.{lt-ltb, le-ltb}
use Rattle.records.specs.declared.State.{State}
use Rattle.records.specs.declared.refusal.Refusal.{Refusal}
use Rattle.records.specs.Refusal.{number}
use Rattle.records.specs.Lists.{all, any, table, same_word}
use Rattle.records.specs.Store.{Store, Out, ok, stop, Work, and_then, give, is_string}
use Rattle.records.specs.View.{Lent, store_of}
use Rattle.records.specs.Working.Audited.{Ready}
use Rattle.records.specs.Working.Doing.{Working}
use Rattle.records.proofs.Lists.{all_every, every_all, every_at, word_is}
use Rattle.normalize.specs.declared.Turn.{Turn}
use Rattle.normalize.specs.declared.Turn.TheVariants as turn
use Rattle.normalize.specs.Normalize.{deep_limit, normal_form, push, push_all, expand, settle, after_expand, rounds, deep_form}
use Rattle.normalize.specs.Working.Pushes.{Candidates}
use Rattle.normalize.specs.Calls.{first_words, deepened}
use Rattle.normalize.specs.Working.Deeps.{opens_in, Met, MetTable, expanded, Expands, settled, settling, Settles, round_then, TurnedTo, Turns}
use Rattle.records.proofs.IndexStores.{keeps_same}
use Rattle.records.proofs.Doing.{working_is, ready_for, working_left}
use Rattle.records.proofs.Sequence.{working_stop}
use Rattle.records.proofs.Grown.{strings-later}
use Rattle.normalize.proofs.FormOutcomes.{Ends}
use Rattle.normalize.proofs.Formed.{Pushed, push-ends, Formed, form-ends}
use Rattle.normalize.proofs.Deep.{Answers, rounds-end}
use Rattle.normalize.proofs.Carried.{Carried, carried_none, carried-kept, carried-then, carried_on}
use Rattle.normalize.proofs.Candidates.{candidates_later}
use Rattle.normalize.proofs.Refines.Words.{words-length, words-none}
use Rattle.normalize.proofs.Refines.Heaping.{Heaping, heaping_end, heaping_turn, heaping_stopped}
use Rattle.normalize.proofs.Refines.Expanding.{met-none}

-- JOINING A ROUND'S LIST

-- the work that is left after i atoms
abbrev pub all_left : List ℕ → ℕ → List ℕ → Work (List ℕ)
all_left next i out = push_all (drop i next) out

module _ (next : List ℕ) {m₀ m : Lent} {c d : State} {out : List ℕ} {k i : ℕ} (g : Heaping (all_left next) m₀ c m d out k i) where
  abbrev at : ℕ
  at = get_or next i 0

  abbrev so : List ℕ
  so = reverse (first_words out k)

  module _ (good : all (is_string (store_of m₀ c)) next ≡ true) (h : i < length next) where
    all-next : all_left next i so (store_of m d) ≡ and_then (all_left next (i + 1)) (push at so (store_of m d))
    unfolding push_all
    all-next = rw (drop-cons next i 0 h, add-one i)

    at_pushed : Ends (λ s' out'. Pushed (store_of m d) s' (at ∷ []) so out') (push at so (store_of m d))
    at_pushed =
        let s = every_at next i 0 (strings-later g.carried.later.grown (all_every (is_string (store_of m₀ c)) _ good)) h in
        push-ends at so (store_of m d) g.carried.later.audited s g.strings

    module _ {m' : Lent} where
      pub all-turn : (out' : List ℕ) (j : ℕ) (d' : State) → Working (push at so) m m' d (ok (store_of m' d') (reverse (first_words out' j))) → Heaping (all_left next) m₀ c m' d' out' j (i + 1)
      all-turn = heaping_turn (all_left next) g (push at so) at all-next at_pushed

      pub all-stopped : {j : ℕ} → Working (push at so) m m' d (stop j) → Working (push_all next []) m₀ m' c (stop j)
      all-stopped = heaping_stopped (all_left next) g (push at so) at all-next at_pushed

  pub all_done : length next ≤ i → Working (push_all next []) m₀ m c (ok (store_of m d) so)
  unfolding push_all
  all_done h = heaping_end (all_left next) g (rw (drop_of_length-le next h))

-- THE END OF A ROUND

module _ {m m' : Lent} {c : State} (before list : List ℕ) where
  module _ (out : List ℕ) (n : ℕ) (d : State) (w : Working (push_all list []) m m' c (ok (store_of m' d) (reverse (first_words out n)))) where
    joined_says : (more : List ℕ → Work (Option (List ℕ))) → settling before list more (store_of m c) ≡ settle before more (first_words out n) (store_of m' d)
    joined_says more =
        ap (and_then (λ l. settle before more (reverse l))) w.says ∙ ap (λ (l : List ℕ). settle before more l (store_of m' d)) (reverse-reverse (first_words out n))

    joined-ready : Ready m' d
    joined-ready = w.ready d (reverse (first_words out n)) refl

    pub settle-long : deep_limit < n → (l : List ℕ) → Settles before list m m' c l (Ok (turn.Ends None d))
    unfolding settle
    settle-long h l = record { kept = w.kept; ready = ready_for joined-ready; is = λ more. joined_says more ∙ rw (lt-ltb deep_limit (length (first_words out n)) (let z = words-length out n in omega arith)) }

    module _ (h : n ≤ deep_limit) (b : Bool) (f : b ≡ same_word (first_words out n) before) where
      short : ltb deep_limit (length (first_words out n)) ≡ false
      short = le-ltb deep_limit (length (first_words out n)) (let z = words-length out n in omega arith)

      pub settle-same : b ≡ true → (l : List ℕ) (k : ℕ) → before ≡ first_words l k → Settles before list m m' c l (Ok (turn.Ends (Some k) d))
      unfolding settle
      settle-same i l k j = record {
        kept = w.kept;
        ready = ready_for joined-ready;
        is = λ more. joined_says more ∙ rw (short, sym f ∙ i) (ap (λ (v : List ℕ). ok (store_of m' d) (some v)) (word_is (first_words out n) before (sym f ∙ i) ∙ j));
      }

      pub settle_other : b ≡ false → (l l' : List ℕ) → first_words l' (0 + n) ≡ first_words l 0 ++ first_words out n → Settles before list m m' c l' (Ok (turn.Again n d))
      unfolding settle
      settle_other i l l' j = record {
        kept = w.kept;
        ready = ready_for joined-ready;
        is = λ more. joined_says more ∙ rw (short, sym f ∙ i) (ap (λ (v : List ℕ). more v (store_of m' d)) (sym (ap (first_words l') (sym (zero-add n)) ∙ j ∙ ap (λ (v : List ℕ). v ++ first_words out n) (words-none l))));
      }

-- A ROUND

module _ {m : Lent} {c : State} (known : List ℕ) (t : ℕ) (before : List ℕ) (table : List ℕ) (b : Bool) (e : b ≡ any (opens_in (store_of m c).terms t) before) where
  pub round-stands : Ready m c → b ≡ false → (list : List ℕ) (n : ℕ) → before ≡ first_words list n → Turns known t before table m m c list table (Ok (turn.Ends (Some n) c))
  unfolding round_then
  round-stands ready h list n p = record {
    kept = keeps_same;
    ready = ready_for ready;
    is = λ met q. record { met = met; is = λ more. rw (sym e ∙ h) (ap (λ (l : List ℕ). ok (store_of m c) (some l)) p); tells = λ k f z. q };
  }

  module _ (h : b ≡ true) (next : List ℕ) {m' : Lent} (next' table' : List ℕ) where
    round-says : (x : Result (code.Option ℕ × State) Refusal) (w : Expands known t before next 0 table m m' c next' table' x) (met : List ℕ) (q : Met table met) (more : List ℕ → List ℕ → Work (Option (List ℕ)))
        → round_then known t met before more (store_of m c) ≡ and_then (after_expand before more) (expanded x (w.is met q).met m' next')
    unfolding round_then
    round-says x w met q more =
        rw (sym e ∙ h) (ap (λ (l : List ℕ). and_then (after_expand before more) (expand known t before (record { list = l; met = met }) (store_of m c))) (sym (words-none next))
        ∙ ap (and_then (after_expand before more)) (w.is met q).is)

    -- None and a refusal end the round
    pub round-ended : (d : State) → Expands known t before next 0 table m m' c next' table' (Ok (None, d)) → (l : List ℕ) → Turns known t before table m m' c l table' (Ok (turn.Ends None d))
    round-ended d w l = record { kept = w.kept; ready = w.ready; is = λ met q. record { met = []; is = λ more. round-says _ w met q more; tells = λ k f z. (let y : ◌≡◌ {A = ℕ} 0 1 = cc in absurd (omega arith)) } }

    pub round-stopped : (j : Refusal) → Expands known t before next 0 table m m' c next' table' (Err j) → (l : List ℕ) → Turns known t before table m m' c l table' (Err j)
    round-stopped j w l = record { kept = w.kept; ready = w.ready; is = λ met q. record { met = []; is = λ more. round-says _ w met q more; tells = λ k f z. (let y : ◌≡◌ {A = ℕ} 0 1 = cc in absurd (omega arith)) } }

    pub round-settled : (k : ℕ) (d : State) → (w : Expands known t before next 0 table m m' c next' table' (Ok (Some k, d))) → Carried m c m' d → {m'' : Lent} (l : List ℕ) (y : Result Turn Refusal) → Settles before (first_words next' k) m' m'' d l y → Turns known t before table m m'' c l table' y
    round-settled k d w a {m''} l y v = record {
      kept = carried-kept a m'' v.kept;
      ready = v.ready;
      is = λ met q. record {
        met = (w.is met q).met;
        is = λ more. round-says _ w met q more ∙ v.is (more (w.is met q).met);
        tells = λ j f z. (w.is met q).tells k d refl;
      };
    }

-- THE ROUNDS

pub record Left (j : ℕ) (known : List ℕ) (t : ℕ) (l : List ℕ) (s : Store) (table : List ℕ) (o : Out (Option (List ℕ))) : Type 0 where
  pub met : List ℕ
  pub tells : Met table met
  pub is : rounds j known t met l s ≡ o

pub record Rounding (known : List ℕ) (t : ℕ) (l : List ℕ) (m₀ : Lent) (c : State) (m : Lent) (d : State) (list : List ℕ) (n : ℕ) (table : List ℕ) (i : ℕ) : Type 0 where
  pub carried : Carried m₀ c m d
  pub strings : all (is_string (store_of m d)) (first_words list n) ≡ true
  pub short : n ≤ deep_limit
  pub rest : Left (64 - i) known t (first_words list n) (store_of m d) table (rounds 64 known t [] l (store_of m₀ c))

pub rounding_none : {m : Lent} {c : State} (known : List ℕ) (t : ℕ) (list : List ℕ) (n : ℕ) (table : List ℕ) → Ready m c → all (is_string (store_of m c)) (first_words list n) ≡ true → n ≤ deep_limit → length table ≡ 513 → ((i : ℕ) → i < length table → get_or table i 0 ≡ 0)
    → Rounding known t (first_words list n) m c m c list n table 0
rounding_none known t list n table r e h z f = record { carried = carried_none r; strings = e; short = h; rest = record { met = []; tells = met-none table z f; is = refl } }

module _ {known : List ℕ} {t : ℕ} {l : List ℕ} {m₀ m : Lent} {c d : State} {list : List ℕ} {n : ℕ} {table : List ℕ} {i : ℕ} (g : Rounding known t l m₀ c m d list n table i) (nodes : List ℕ) (cs : Candidates (store_of m₀ c) known nodes) where
  pub rounding_candidates : Candidates (store_of m d) known nodes
  rounding_candidates = candidates_later cs g.carried.later

  pub rounding_met : MetTable table
  rounding_met = record { met = g.rest.met; is = g.rest.tells }

  module _ (h : i < 64) {m' : Lent} (list' table' : List ℕ) where
    module _ (x : Result Turn Refusal) (w : Turns known t (first_words list n) table m m' d list' table' x) where
      now-turned : TurnedTo (λ more. round_then known t g.rest.met (first_words list n) more (store_of m d)) m' list' table' x
      now-turned = w.is g.rest.met g.rest.tells

      round_is : (j : ℕ) → rounds (suc j) known t g.rest.met (first_words list n) (store_of m d) ≡ settled x (rounds j known t now-turned.met) m' list'
      unfolding rounds round_then
      round_is j = now-turned.is (rounds j known t)

      turn-rest : settled x (rounds (64 - (i + 1)) known t now-turned.met) m' list' ≡ rounds 64 known t [] l (store_of m₀ c)
      turn-rest =
          let z : 64 - i ≡ suc (64 - (i + 1)) = omega arith in
          sym (round_is (64 - (i + 1))) ∙ ap (λ (j : ℕ). rounds j known t g.rest.met (first_words list n) (store_of m d)) (sym z) ∙ g.rest.is

    pub rounds-ended : (a : code.Option ℕ) (f : State) → Turns known t (first_words list n) table m m' d list' table' (Ok (turn.Ends a f)) → Working (rounds 64 known t [] l) m₀ m' c (deepened (Ok (a, f)) m' list')
    rounds-ended a f w = record { says = sym (turn-rest _ w); kept = carried-kept g.carried m' w.kept; ready = w.ready }

    pub rounds-stopped : {e : Refusal} → Turns known t (first_words list n) table m m' d list' table' (Err e) → Working (rounds 64 known t [] l) m₀ m' c (stop (number e))
    rounds-stopped w = record { says = sym (turn-rest _ w); kept = carried-kept g.carried m' w.kept; ready = w.ready }

    module _ (k : ℕ) (f : State) (w : Turns known t (first_words list n) table m m' d list' table' (Ok (turn.Again k f))) where
      answers : Answers (store_of m d) (first_words list n) (store_of m' f) (some (first_words list' k))
      unfolding rounds
      answers =
          (rounds-end known 1 t g.rest.met (first_words list n) (store_of m d) g.carried.later.audited (all_every (is_string (store_of m d)) known rounding_candidates.strings)
          (all_every (is_string (store_of m d)) _ g.strings) (let z = words-length list n in let y = g.short in omega arith)).given (store_of m' f) (some (first_words list' k)) (round_is _ w 0)

      pub rounding_turn : Rounding known t l m₀ c m' f list' k table' (i + 1)
      rounding_turn =
          let a = answers in
          record {
            carried = carried-then g.carried m' f w.kept a.0.later (w.ready f (some (first_words list' k)) refl);
            strings = every_all a.0.strings;
            short = (let z = words-length list' k in let y = a.1 in omega arith);
            rest = record { met = (now-turned _ w).met; tells = (now-turned _ w).tells k f refl; is = turn-rest _ w };
          }

  pub rounds_done : 64 ≤ i → Working (rounds 64 known t [] l) m₀ m c (ok (store_of m d) (some (first_words list n)))
  unfolding rounds
  rounds_done h = let z : 64 - i ≡ 0 = omega arith in working_left g.carried.ready (sym g.rest.is ∙ ap (λ (j : ℕ). rounds j known t g.rest.met (first_words list n) (store_of m d)) z) g.carried.kept

-- THE DEEP FORM

module _ (known : List ℕ) (t : ℕ) where
  rest : List ℕ → Work (Option (List ℕ))
  rest l = if ltb deep_limit (length l) then give none else rounds 64 known t [] l

  pub deep_stopped : {m m' : Lent} {c : State} {j : ℕ} → Working (normal_form known t) m m' c (stop j) → Working (deep_form known t) m m' c (stop j)
  unfolding deep_form rest
  deep_stopped w = working_stop rest w

  module _ {m m' : Lent} {c : State} (ready : Ready m c) (list : List ℕ) (n : ℕ) (d : State) (w : Working (normal_form known t) m m' c (ok (store_of m' d) (first_words list n))) where
    pub deep_ready : Ready m' d
    deep_ready = w.ready d (first_words list n) refl

    pub deep_long : deep_limit < n → Working (deep_form known t) m m' c (ok (store_of m' d) none)
    unfolding deep_form rest
    deep_long h = working_left deep_ready (ap (and_then rest) w.says ∙ rw (lt-ltb deep_limit (length (first_words list n)) (let z = words-length list n in omega arith))) w.kept

    module _ (nodes : List ℕ) (cs : Candidates (store_of m c) known nodes) (i : is_string (store_of m c) t ≡ true) where
      given : Formed (store_of m c) (store_of m' d) t (first_words list n)
      given = (form-ends known t (store_of m c) ready.audited (all_every (is_string (store_of m c)) known cs.strings) i).given (store_of m' d) (first_words list n) w.says

      deep_carried : Carried m c m' d
      deep_carried = carried-then (carried_none ready) m' d w.kept given.later deep_ready

      pub deep_strings : all (is_string (store_of m' d)) (first_words list n) ≡ true
      deep_strings = every_all given.strings

      pub deep_candidates : Candidates (store_of m' d) known nodes
      deep_candidates = candidates_later cs given.later

      pub deep_done : n ≤ deep_limit → {m'' : Lent} {o : Out (Option (List ℕ))} → Working (rounds 64 known t [] (first_words list n)) m' m'' d o → Working (deep_form known t) m m'' c o
      unfolding deep_form rest
      deep_done h v = carried_on deep_carried rest w (working_is (rw (le-ltb deep_limit (length (first_words list n)) (let z = words-length list n in omega arith))) v)
