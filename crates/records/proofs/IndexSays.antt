-- Of a store: the determined index is the one of which the Note's sentences hold, and the one that passes the test.
use mathlib.Core.Path.{◌≡◌, refl}
use mathlib.Core.Bool.{Bool, true, ◌&&◌}
use mathlib.Core.List.{List}
use Prim.Native.Nat.{ℕ, suc, ◌<◌}
use native.Mathlib.Omega.{arith}
use lib.Dec.{eqb}
use borrow.Author.Tests.{eqb-true, eq-eqb}
use Rattle.records.specs.Lists.{all_below}
use Rattle.records.specs.Store.{Store, count}
use Rattle.records.specs.View.{buckets, head_at, next_at}
use Rattle.records.specs.Index.{bucket_of, bucket, next_in, IndexOf, Indexed, index_rule}
use Rattle.records.specs.Chained.{Chained, EachChained, Says}
use Rattle.records.proofs.Lists.{both_left, both_right, both_true, within_low, within-high, within-is, below_at, below_all, upto-at, upto_all, every_mem}
use Rattle.records.proofs.IndexChains.{ascending_above, Held, chain_held, Determined, held-determined}

pub bucket-small : (k : ℕ) (l : List ℕ) → bucket_of k l < buckets
unfolding bucket_of
bucket-small k l = omega arith

-- THE TEST, over plain buckets

module _ (f : ℕ → ℕ) (n : ℕ) (l : List ℕ) where
  abbrev head_test : ℕ → Bool
  head_test b = eqb (head_at l b) (next_in f n 0 b)

  abbrev next_test : ℕ → Bool
  next_test t = eqb (next_at l t) (next_in f n t (f t))

  -- each head and each ninth word is that of the terms
  abbrev pub index_test : Bool
  index_test = all_below head_test buckets && all_below (λ i. next_test (suc i)) n

  pub test_passes : IndexOf f n l → index_test ≡ true
  test_passes i = both_true _ _ (below_all head_test buckets (λ b h. eq-eqb _ _ (i.heads b h))) (upto_all next_test n (λ t w. eq-eqb _ _ (i.nexts t w)))

  pub test_passed : index_test ≡ true → IndexOf f n l
  test_passed e = record {
    heads = λ b h. eqb-true _ _ (below_at head_test buckets (both_left (all_below head_test buckets) _ e) b h);
    nexts = λ t w. eqb-true _ _ (upto-at next_test n (both_right (all_below head_test buckets) _ e) t w);
  }

-- THE SENTENCES

module _ (s : Store) (l : List ℕ) where
  chained : Indexed l s → EachChained s l
  chained i b h =
      let r = chain_held (bucket s) (next_at l) (count s) i.nexts b (head_at l b) (i.heads b h) in
      record {
        members = r.members;
        walked = r.walked;
        ascends = r.held.ascends;
        terms = λ t m. within-is (count s) t (ascending_above r.held.ascends m) (r.held.inside t m);
        each = λ t w e. r.held.each t (within_low (count s) t w) (within-high (count s) t w) e;
        no_other = r.held.no_other;
      }

  members_held : (b : ℕ) (c : Chained s l b) → Held (bucket s) (count s) 0 b c.members
  members_held b c = record {
    ascends = c.ascends;
    inside = λ t m. within-high (count s) t (c.terms t m);
    each = λ t h k e. c.each t (within-is (count s) t h k) e;
    no_other = c.no_other;
  }

  chain_determined : (b : ℕ) (c : Chained s l b) → Determined (bucket s) (next_at l) (count s) 0 b (head_at l b) c.members
  chain_determined b c = held-determined (bucket s) (count s) 0 b c.walked (members_held b c)

  determined : EachChained s l → Indexed l s
  determined c = record {
    heads = λ b h. (chain_determined b (c b h)).here;
    nexts = λ t w. let d = c (bucket s t) (bucket-small _ _) in every_mem (chain_determined (bucket s t) d).later (d.each t w refl);
  }

  pub passes : Indexed l s → index_rule l s ≡ true
  unfolding index_rule
  passes i = test_passes (bucket s) (count s) l i

  pub passed : index_rule l s ≡ true → Indexed l s
  unfolding index_rule
  passed e = test_passed (bucket s) (count s) l e

pub says : Says
says = record { chained = chained; determined = determined; passes = passes; passed = passed }
