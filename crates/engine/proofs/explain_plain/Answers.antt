use mathlib.Core.Path.{refl}
use mathlib.Core.List.{[]}
use Rattle.engine.proofs.Refines.Rises.{nearest-fit, rising_begin, rising_switch, rising_turn, far-turn}
use Rattle.engine.proofs.Refines.Plainly.{plain_walkable, plain-room, plain-same, plain_done, plain-met, plain-stop}
use Rattle.records.proofs.Public.{handed}
use Rattle.engine.proofs.explain_plain.Goals as goal

pub returns-then-a-b : goal.returns-then-a-b
returns-then-a-b c =
    plain-same _ _ _ _ _ _ c.if-a-b.true

pub nearest_unchecked-top-requires : goal.nearest_unchecked-top-requires
nearest_unchecked-top-requires c =
    nearest-fit _ _ _ _ _ _ _ _ (plain_walkable _ _ _ _ _ c.requires.0 c.requires.1)

pub loop-node-init : goal.loop-node-init
loop-node-init c =
    λ cells tab k. rising_begin _ cells tab _ _ k _ _ _ _ c.nearest_unchecked-top.ensures

pub returns-then-last : goal.returns-then-last
returns-then-last c =
    plain_done _ _ _ _ _ _ _ _ _ _ _ c.if-a-b.false c.loop-node.invariant c.if-last.true c.if-node-top.true

pub loop-node-preserved-then-node-top : goal.loop-node-preserved-then-node-top
loop-node-preserved-then-node-top c =
    λ cells tab k. rising_switch _ _ _ _ _ _ _ _ _ _ _ _ _ _ _ (c.loop-node.invariant cells tab k) c.if-last.false c.if-node-top.true

pub plain_edge-requires : goal.plain_edge-requires
plain_edge-requires c =
    rw c.with_reasons.ensures (plain-room c.requires.1 c.loop-node.invariant)

pub returns-in_default : goal.returns-in_default
returns-in_default c =
    plain-met _ _ _ _ _ _ _ _ _ _ _ c.if-a-b.false c.loop-node.invariant _ (rw c.with_reasons.ensures at c.plain_edge.ensures).kept

pub returns-in_err-count : goal.returns-in_err-count
returns-in_err-count c =
    rw (handed _ c.from_residual.ensures.1)
    (plain-stop _ _ _ _ _ _ _ _ _ _ _ c.if-a-b.false c.loop-node.invariant _ c.if-node-top.false c.plain_edge.auto.reasons
    (rw c.with_reasons.ensures at c.in_err-count.ensures).done)

pub loop-node-smaller : goal.loop-node-smaller
loop-node-smaller c =
    far-turn _ _ _ [] [] _ _ _ _ _ _ _ _ _ _ _ (plain_walkable _ _ _ _ _ c.requires.0 c.requires.1) (c.loop-node.invariant _ [] _) c.if-node-top.false _ c.forest_parent-node.ensures

pub loop-node-preserved : goal.loop-node-preserved
loop-node-preserved c = λ cells tab k.
    rising_turn _ _ _ _ _ _ _ _ _ _ _ _ _ _ _ (c.loop-node.invariant cells tab k) c.if-node-top.false _ _ refl c.plain_edge.auto.reasons
    ((rw (c.in-Some.is, c.with_reasons.ensures) at c.in_ok-count.ensures).done cells tab _ k) _
    c.forest_parent-node.ensures
