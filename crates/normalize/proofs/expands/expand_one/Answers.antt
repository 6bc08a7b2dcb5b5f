use Rattle.normalize.proofs.Refines.Expanding.{atom-place, one_plain, one_again, one-opened}
use native.Mathlib.Omega.{arith}
use Rattle.normalize.proofs.expands.expand_one.Goals as goal

pub returns-then-not-opens : goal.returns-then-not-opens
returns-then-not-opens c =
    one_plain c.requires.ready _ _ _ c.requires.a_string _ _ _ _ c.opens.ensures c.if-not-opens.true c.requires.k_in_bounds

pub bounds-met-a : goal.bounds-met-a
bounds-met-a c =
    (let h = atom-place c.requires.ready c.args.known.now c.args.t c.args.a c.requires.a_string c.args.next.now
    c.args.k c.args.met.now _ c.opens.ensures in
    omega arith)

pub returns-then-met-a-eq1 : goal.returns-then-met-a-eq1
returns-then-met-a-eq1 c =
    one_again c.requires.ready _ _ _ c.requires.a_string _ _ _ _ c.opens.ensures c.if-not-opens.false c.if-met-a-eq1.true

pub bounds-met-a-2 : goal.bounds-met-a-2
bounds-met-a-2 c =
    (let h = atom-place c.requires.ready c.args.known.now c.args.t c.args.a c.requires.a_string c.args.next.now
    c.args.k c.args.met.now _ c.opens.ensures in
    omega arith)

pub returns : goal.returns
returns c =
    one-opened c.requires.ready _ _ _ c.requires.a_string _ _ _ _ c.opens.ensures c.if-not-opens.false c.if-met-a-eq1.false _ _
    c.expand_atom.ensures
