use mir.Facts.{to_z-of_z}
use Rattle.wordeq.proofs.Refines.Steps.{after-refused, after_early, after-refused_2, after-known, after-refused_3, after_tiled, after-split}
use Rattle.sides.proofs.Trying.{passed_on, conflicts-rises, propagates-rises, tiles-rises, last_of}
use Rattle.records.proofs.Public.{handed}
use Rattle.wordeq.proofs.stepping.after_unchecked.Goals as goal

pub returns-in_err-early : goal.returns-in_err-early
returns-in_err-early c =
    rw (handed _ c.from_residual.ensures.1) (after-refused c.args.lhs.now c.args.rhs.now c.args.guard c.args.needed c.in_err-early.ensures)

pub returns-in_err-known : goal.returns-in_err-known
returns-in_err-known c =
    rw (handed _ c.from_residual-in_err-known.ensures.1) (after-refused_2 c.args.lhs.now c.args.rhs.now c.args.guard c.args.needed c.in_ok-early.ensures c.in-Done.is c.in_err-known.ensures)

pub returns-in_err-tiled : goal.returns-in_err-tiled
returns-in_err-tiled c =
    rw (handed _ c.from_residual-in_err-tiled.ensures.1)
    (after-refused_3 c.args.lhs.now c.args.rhs.now c.args.guard c.args.needed c.in_ok-early.ensures c.in-Done.is c.in_ok-known.ensures c.in-Done-known.is c.in_err-tiled.ensures)

pub returns-in_default : goal.returns-in_default
returns-in_default c =
    after_early c.args.lhs.now c.args.rhs.now c.args.guard c.args.needed c.in_ok-early.ensures
    (last_of c.in_ok-early.early c.in_default.not-Done) c.args.list.now

pub propagate_unchecked-requires : goal.propagate_unchecked-requires
propagate_unchecked-requires c =
    let x = passed_on (conflicts-rises c.args.lhs.now c.args.rhs.now) c.in_ok-early.ensures c.in-Done.is c.requires.both_lists in
    record {
      ready = x.ready;
      both_lists = x.lists;
    }

pub returns-in_default-known : goal.returns-in_default-known
returns-in_default-known c =
    after-known c.args.lhs.now c.args.rhs.now c.args.guard c.args.needed c.in_ok-early.ensures c.in-Done.is c.in_ok-known.ensures
    (last_of c.in_ok-known.known c.in_default-known.not-Done) c.args.list.now

pub tile_unchecked-requires : goal.tile_unchecked-requires
tile_unchecked-requires c =
    let x = passed_on (conflicts-rises c.args.lhs.now c.args.rhs.now) c.in_ok-early.ensures c.in-Done.is c.requires.both_lists in
    let y = passed_on (propagates-rises c.args.lhs.now c.args.rhs.now) c.in_ok-known.ensures c.in-Done-known.is x.lists in
    record {
      ready = y.ready;
      both_lists = y.lists;
    }

pub returns-in_default-tiled : goal.returns-in_default-tiled
returns-in_default-tiled c =
    after_tiled c.args.lhs.now c.args.rhs.now c.args.guard c.args.needed c.in_ok-early.ensures c.in-Done.is c.in_ok-known.ensures c.in-Done-known.is
    c.in_ok-tiled.ensures (last_of c.in_ok-tiled.tiled c.in_default-tiled.not-Done) c.args.list.now

pub split_unchecked-requires-clause-ready : goal.split_unchecked-requires-clause-ready
split_unchecked-requires-clause-ready c =
    let x = passed_on (conflicts-rises c.args.lhs.now c.args.rhs.now) c.in_ok-early.ensures c.in-Done.is c.requires.both_lists in
    let y = passed_on (propagates-rises c.args.lhs.now c.args.rhs.now) c.in_ok-known.ensures c.in-Done-known.is x.lists in
    let z = passed_on (tiles-rises c.args.lhs.now c.args.rhs.now) c.in_ok-tiled.ensures c.in-Done-tiled.is y.lists in
    z.ready

pub split_unchecked-requires-clause-both_lists : goal.split_unchecked-requires-clause-both_lists
split_unchecked-requires-clause-both_lists c =
    let x = passed_on (conflicts-rises c.args.lhs.now c.args.rhs.now) c.in_ok-early.ensures c.in-Done.is c.requires.both_lists in
    let y = passed_on (propagates-rises c.args.lhs.now c.args.rhs.now) c.in_ok-known.ensures c.in-Done-known.is x.lists in
    let z = passed_on (tiles-rises c.args.lhs.now c.args.rhs.now) c.in_ok-tiled.ensures c.in-Done-tiled.is y.lists in
    z.lists

pub returns : goal.returns
returns c =
    after-split c.args.lhs.now c.args.rhs.now c.args.guard c.args.needed c.in_ok-early.ensures c.in-Done.is c.in_ok-known.ensures c.in-Done-known.is
    c.in_ok-tiled.ensures (to_z-of_z c.ranges.guard) c.in-Done-tiled.is c.split_unchecked.ensures
