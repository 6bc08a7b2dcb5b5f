use borrow.Author.Tests.{eqb-true, eqb-false}
use mathlib.Core.Path.{refl, sym, ◌∙◌}
use native.Mathlib.Omega.{arith}
use Rattle.records.proofs.Public.{handed}
use Rattle.sides.proofs.Refines.LoneAtom.{not_lone, lone_constant, texts-known, classes-known, lone_within, side_within, not_found, found_arguments, found-conflict, found-refused}
use Rattle.sides.proofs.occurring.occurs_in.Goals as goal

pub returns-in_default : goal.returns-in_default
returns-in_default c =
    not_lone c.args.terms.now c.args.cells.now c.args.chars.now c.args.reasons.now c.args.keys.now c.args.c c.args.lone.now c.args.side.now c.requires.ready (λ z. absurd (omega arith))

pub returns-in_default-2 : goal.returns-in_default-2
returns-in_default-2 c =
    not_lone c.args.terms.now c.args.cells.now c.args.chars.now c.args.reasons.now c.args.keys.now c.args.c c.args.lone.now c.args.side.now c.requires.ready (λ z. absurd (omega arith))

pub returns-then-is_a : goal.returns-then-is_a
returns-then-is_a c =
    lone_constant c.args.terms.now c.args.cells.now c.args.chars.now c.args.reasons.now c.args.keys.now
    c.args.c c.args.lone.now c.args.side.now (omega arith) _ refl c.requires.ready
    (eqb-true _ _ (sym c.is_a.ensures ∙ c.if-is_a.true))

pub find-i-requires : goal.find-i-requires
find-i-requires c =
    let the-reasons = c.args.reasons.now in record {
      texts = texts-known c.args.terms.now c.args.cells.now c.args.chars.now the-reasons c.args.keys.now c.args.c
          c.args.lone.now c.args.side.now c.requires.ready c.requires.both_lists;
      closed = classes-known c.args.terms.now c.args.cells.now c.args.chars.now the-reasons c.args.keys.now c.args.c
          c.args.lone.now c.args.side.now c.requires.ready c.requires.both_lists;
      x_value = lone_within c.args.terms.now c.args.cells.now c.args.chars.now the-reasons c.args.keys.now c.args.c
          c.args.lone.now c.args.side.now c.requires.ready c.requires.both_lists (omega arith);
      l_value = side_within c.args.terms.now c.args.cells.now c.args.chars.now the-reasons c.args.keys.now c.args.c
          c.args.lone.now c.args.side.now c.requires.ready c.requires.both_lists;
    }

pub returns-then-side-i : goal.returns-then-side-i
returns-then-side-i c =
    not_found c.args.terms.now c.args.cells.now c.args.chars.now c.args.reasons.now c.args.keys.now c.args.c
    c.args.lone.now c.args.side.now c.requires.ready c.requires.both_lists (omega arith) _ refl
    (eqb-false _ _ (sym c.is_a.ensures ∙ c.if-is_a.false)) _ c.find-i.ensures c.if-side-i.true

pub explain_unchecked-requires : goal.explain_unchecked-requires
explain_unchecked-requires c = (
  c.requires.ready,
  found_arguments c.args.terms.now c.args.cells.now c.args.chars.now c.args.reasons.now c.args.keys.now
      c.args.c c.args.lone.now c.args.side.now c.requires.ready c.requires.both_lists (omega arith) _ refl
      (eqb-false _ _ (sym c.is_a.ensures ∙ c.if-is_a.false)) _ c.find-i.ensures c.if-side-i.false,
)

pub returns-in_err-d : goal.returns-in_err-d
returns-in_err-d c =
    rw (handed _ c.from_residual.ensures.1)
    (found-refused c.args.terms.now c.args.cells.now c.args.chars.now c.args.reasons.now c.args.keys.now
    c.args.c c.args.lone.now c.args.side.now c.requires.ready c.requires.both_lists (omega arith) _ refl
    (eqb-false _ _ (sym c.is_a.ensures ∙ c.if-is_a.false)) _ c.find-i.ensures c.if-side-i.false _ _ c.in_err-d.ensures)

pub returns : goal.returns
returns c =
    found-conflict c.args.terms.now c.args.cells.now c.args.chars.now c.args.reasons.now c.args.keys.now
    c.args.c c.args.lone.now c.args.side.now c.requires.ready c.requires.both_lists (omega arith) _ refl
    (eqb-false _ _ (sym c.is_a.ensures ∙ c.if-is_a.false)) _ c.find-i.ensures c.if-side-i.false _ _ c.in_ok-d.ensures
