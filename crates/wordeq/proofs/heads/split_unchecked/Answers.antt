use lib.ListN.{get_or}
use mathlib.Core.Path.{sym, ◌∙◌}
use mir.ValLaws.{to_z-of_z}
use mir.Syntax.{w32}
use Rattle.records.proofs.Lists.{or_left}
use Rattle.records.specs.View.{lent}
use Rattle.wordeq.proofs.Refines.Heads.{read_in-of, left-none, right-none, heads_clash, heads-constant, heads-saturated, heads-new, pair_of, key_read}
use borrow.Author.Tests.{eqb-true, eqb-false}
use Rattle.wordeq.proofs.heads.split_unchecked.Goals as goal
use Rattle.wordeq.proofs.heads.split_unchecked.Goals.{then-is_empty-via-then-is_empty, then-is_empty-via-else-is_empty+then-is_empty-2, then-needed-via-then-needed, then-needed-via-else-needed+then-is_key_unchecked}

pub returns-then-is_empty : goal.returns-then-is_empty
returns-then-is_empty c =
    elim c.then-is_empty.branch [
      | then-is_empty-via-then-is_empty w ↦ left-none c.requires.ready c.args.guard c.args.needed c.args.lhs.now c.args.rhs.now (eqb-true _ 0 (sym c.is_empty.ensures ∙ w.if-is_empty.true))
      | then-is_empty-via-else-is_empty+then-is_empty-2 w ↦ right-none c.requires.ready c.args.guard c.args.needed c.args.lhs.now c.args.rhs.now (eqb-true _ 0 (sym w.is_empty-else-is_empty.ensures ∙ w.if-is_empty-2.true))
    ]

pub constants_differ_unchecked-requires : goal.constants_differ_unchecked-requires
constants_differ_unchecked-requires c =
    read_in-of c.requires.ready

pub returns-then-constants_differ_unchecked : goal.returns-then-constants_differ_unchecked
returns-then-constants_differ_unchecked c =
    heads_clash c.requires.ready c.args.guard c.args.needed c.args.lhs.now c.args.rhs.now (eqb-false _ 0 (sym c.is_empty.ensures ∙ c.if-is_empty.false)) (eqb-false _ 0 (sym c.is_empty-else-is_empty.ensures ∙ c.if-is_empty-2.false))
    (sym c.constants_differ_unchecked.ensures ∙ c.if-constants_differ_unchecked.true)

pub returns-then-both_constant : goal.returns-then-both_constant
returns-then-both_constant c =
    heads-constant c.requires.ready c.args.guard c.args.needed c.args.lhs.now c.args.rhs.now (eqb-false _ 0 (sym c.is_empty.ensures ∙ c.if-is_empty.false)) (eqb-false _ 0 (sym c.is_empty-else-is_empty.ensures ∙ c.if-is_empty-2.false))
    (sym c.constants_differ_unchecked.ensures ∙ c.if-constants_differ_unchecked.false) (sym c.both_constant.ensures ∙ c.if-both_constant.true)

pub returns-then-needed : goal.returns-then-needed
returns-then-needed c =
    heads-saturated c.requires.ready c.args.guard c.args.needed c.args.lhs.now c.args.rhs.now (eqb-false _ 0 (sym c.is_empty.ensures ∙ c.if-is_empty.false)) (eqb-false _ 0 (sym c.is_empty-else-is_empty.ensures ∙ c.if-is_empty-2.false))
    (sym c.constants_differ_unchecked.ensures ∙ c.if-constants_differ_unchecked.false) (sym c.both_constant.ensures ∙ c.if-both_constant.false)
    (elim c.then-needed.branch [
      | then-needed-via-then-needed w ↦ or_left _ _ w.if-needed.true
      | then-needed-via-else-needed+then-is_key_unchecked w ↦ key_read (lent c.args.terms.now c.args.cells.now c.args.chars.now c.args.reasons.now c.args.keys.now)
          c.args.c (get_or c.args.lhs.now 0 0) (get_or c.args.rhs.now 0 0) w.is_key_unchecked.ensures w.if-needed.false w.if-is_key_unchecked.true
    ])

pub split_new-requires-clause-head_pair : goal.split_new-requires-clause-head_pair
split_new-requires-clause-head_pair c =
    pair_of _ _ _ c.requires.both_lists c.requires.heads_apart (eqb-false _ 0 (sym c.is_empty.ensures ∙ c.if-is_empty.false)) (eqb-false _ 0 (sym c.is_empty-else-is_empty.ensures ∙ c.if-is_empty-2.false)) (sym c.both_constant.ensures ∙ c.if-both_constant.false)

pub returns : goal.returns
returns c =
    heads-new {m = (lent c.args.terms.now c.args.cells.now c.args.chars.now c.args.reasons.now c.args.keys.now)}
    {c = c.args.c} c.requires.ready c.args.guard c.args.needed c.args.lhs.now c.args.rhs.now (eqb-false _ 0 (sym c.is_empty.ensures ∙ c.if-is_empty.false)) (eqb-false _ 0 (sym c.is_empty-else-is_empty.ensures ∙ c.if-is_empty-2.false))
    (sym c.constants_differ_unchecked.ensures ∙ c.if-constants_differ_unchecked.false) (sym c.both_constant.ensures ∙ c.if-both_constant.false)
    (pair_of _ _ _ c.requires.both_lists c.requires.heads_apart (eqb-false _ 0 (sym c.is_empty.ensures ∙ c.if-is_empty.false)) (eqb-false _ 0 (sym c.is_empty-else-is_empty.ensures ∙ c.if-is_empty-2.false)) (sym c.both_constant.ensures ∙ c.if-both_constant.false))
    (key_read (lent c.args.terms.now c.args.cells.now c.args.chars.now c.args.reasons.now c.args.keys.now)
    c.args.c (get_or c.args.lhs.now 0 0) (get_or c.args.rhs.now 0 0) c.is_key_unchecked.ensures c.if-needed.false
    c.if-is_key_unchecked.false)
    (to_z-of_z w32 c.args.guard c.ranges.guard) c.split_new.ensures
