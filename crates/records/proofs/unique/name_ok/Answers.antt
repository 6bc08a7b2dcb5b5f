use Rattle.records.proofs.Refines.NameLaws.{walk_start, walk-hashed, tables-room, walk_less, walk_turn, name_empty, name_taken, name_free}
use native.Mathlib.Omega.{arith}
use Rattle.records.proofs.unique.name_ok.Goals as goal

pub returns-then-second-eq0 : goal.returns-then-second-eq0
returns-then-second-eq0 c =
    let a = c.args in name_empty a.terms.now a.chars.now a.c a.m a.t c.requires.1 _ c.second.ensures c.if-second-eq0.true

pub loop-u-init : goal.loop-u-init
loop-u-init c =
    let a = c.args in walk_start a.terms.now a.chars.now a.c a.m a.t c.requires.1 _ _ _ c.requires.2

pub is_named-requires : goal.is_named-requires
is_named-requires c =
    let a = c.args in
    let r = c.requires in
    let o = c.loop-u in (
      r.0,
      (let i = tables-room a.terms.now a.chars.now a.c _ _ _ a.t r.2 r.1.variable in omega (arith, o.invariant.lower)),
      r.1,
      walk-hashed a.terms.now a.chars.now a.c a.m a.t r.1 _ _ _ r.2 o.u o.invariant c.loop-u-test.true,
    )

pub returns-then-is_named : goal.returns-then-is_named
returns-then-is_named c =
    let a = c.args in
    let o = c.loop-u in name_taken a.terms.now a.chars.now a.c a.m a.t c.requires.1 o.u o.invariant _ c.is_named.ensures c.if-is_named.true

pub bounds-links-u : goal.bounds-links-u
bounds-links-u c =
    let a = c.args in
    let r = c.requires in let i = tables-room a.terms.now a.chars.now a.c _ _ _ a.t r.2 r.1.variable in omega (arith, c.loop-u.invariant.lower)

pub loop-u-smaller : goal.loop-u-smaller
loop-u-smaller c =
    let a = c.args in
    let r = c.requires in
    let o = c.loop-u in walk_less a.terms.now a.chars.now a.c a.m a.t r.1 _ _ _ r.2 o.u o.invariant c.loop-u-test.true

pub loop-u-preserved : goal.loop-u-preserved
loop-u-preserved c =
    let a = c.args in
    let r = c.requires in
    let o = c.loop-u in
    walk_turn a.terms.now a.chars.now a.c a.m a.t r.1 _ _ _ r.2 o.u o.invariant c.loop-u-test.true _ c.is_named.ensures
    c.if-is_named.false

pub returns : goal.returns
returns c =
    let a = c.args in
    let o = c.loop-u in
    name_free a.terms.now a.chars.now a.c a.m a.t c.requires.1 o.u o.invariant _ c.second.ensures c.if-second-eq0.false c.loop-u-test.false
