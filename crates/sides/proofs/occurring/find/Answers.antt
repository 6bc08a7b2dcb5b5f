use Rattle.records.specs.View.{termed}
use Rattle.records.proofs.Lists.{all_every, every_at}
use Rattle.sides.proofs.Refines.Elsewhere.{seeking_hit, seeking_turn, seeking_end}
use Rattle.sides.proofs.occurring.find.Goals as goal

pub occurs_here-requires-clause-a_value : goal.occurs_here-requires-clause-a_value
occurs_here-requires-clause-a_value c =
    every_at c.args.l.now _ 0 (all_every _ c.args.l.now c.requires.l_value) c.loop-i-test.true

pub returns-then-occurs_here : goal.returns-then-occurs_here
returns-then-occurs_here c =
    seeking_hit (termed c.args.terms.now c.args.c) c.args.x c.args.l.now _ _ _ _ c.loop-i.invariant c.loop-i-test.true
    c.count_full-n.ensures c.root_unchecked-root.ensures c.occurs_here.ensures c.if-occurs_here.true

pub loop-i-preserved : goal.loop-i-preserved
loop-i-preserved c =
    seeking_turn (termed c.args.terms.now c.args.c) c.args.x c.args.l.now _ _ _ _ c.loop-i.invariant
    c.loop-i-test.true c.count_full-n.ensures c.root_unchecked-root.ensures c.occurs_here.ensures c.if-occurs_here.false

pub returns : goal.returns
returns c =
    seeking_end _ _ _ _ c.loop-i.invariant c.loop-i-test.false
