use Rattle.std.proofs.Common.{rules, ◌≡◌, true}
use Rattle.std.specs.Prelude.{IsTrue, ◌↔◌, slice_index}
use Rattle.std.specs.List.{SomeIndex}
use Rattle.records.specs.Store.{is_concat}
use Rattle.records.specs.View.{termed}
use Rattle.wordeq.proofs.Tests.{any-from_chain}
use Rattle.wordeq.proofs.resolving.has_concat.Goals as goal

pub returns : goal.returns
returns c =
    let e : IsTrue c.any.result ↔ SomeIndex c.args.l.now (λ k. is_concat (termed c.args.terms.now c.args.c) (slice_index c.args.l.now k) ≡ true) = search rules in
    any-from_chain (is_concat (termed c.args.terms.now c.args.c)) c.args.l.now c.any.result e
