use Rattle.std.proofs.Common.{rules, ◌≡◌, true}
use Rattle.std.specs.Prelude.{IsTrue, ◌↔◌, EachIndex, slice_index}
use Rattle.records.specs.Store.{is_variable}
use Rattle.records.specs.View.{termed}
use Rattle.wordeq.proofs.Tests.{all-from_chain}
use Rattle.wordeq.proofs.propagate.are_variables.Goals as goal

pub returns : goal.returns
returns c =
    let e : IsTrue c.all.result ↔ EachIndex c.args.l.now (λ k. is_variable (termed c.args.terms.now c.args.c) (slice_index c.args.l.now k) ≡ true) = search rules in
    all-from_chain (is_variable (termed c.args.terms.now c.args.c)) c.args.l.now c.all.result e
