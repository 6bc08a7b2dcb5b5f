use Rattle.normalize.specs.Working.Flat.{bare}
use Rattle.wordeq.proofs.Refines.Flattening.{flattening_end, flattening_turn, flattening_passes}
use native.Mathlib.Omega.{arith}
use borrow.Author.Rules.{rules}
use Rattle.wordeq.proofs.resolving.flatten_list_unchecked.Goals as goal

pub returns-then-n-gt-LIST_LIMIT : goal.returns-then-n-gt-LIST_LIMIT
returns-then-n-gt-LIST_LIMIT c =
    flattening_passes (bare c.args.terms.now c.args.c.terms c.args.cells.now c.args.c.cells) c.args.l.now
    c.args.out.now c.loop-t.invariant.1 c.loop-t-test.true _ _ c.flatten_unchecked-n.ensures
    (let p = c.loop-t.invariant.0 in let q = c.requires.fact_2 in omega arith) c.if-n-gt-LIST_LIMIT.true

pub loop-t-preserved : goal.loop-t-preserved
loop-t-preserved c = (
  search rules,
  flattening_turn (bare c.args.terms.now c.args.c.terms c.args.cells.now c.args.c.cells) c.args.l.now
      c.args.out.now c.loop-t.invariant.1 c.loop-t-test.true _ _ c.flatten_unchecked-n.ensures c.if-n-gt-LIST_LIMIT.false,
)

pub returns : goal.returns
returns c =
    flattening_end (bare c.args.terms.now c.args.c.terms c.args.cells.now c.args.c.cells) c.args.l.now
    c.args.out.now c.loop-t.invariant.1 c.loop-t-test.false
