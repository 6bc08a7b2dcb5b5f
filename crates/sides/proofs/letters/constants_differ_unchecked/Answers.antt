use mathlib.Core.Path.{◌∙◌}
use Rattle.records.proofs.Lists.{passed}
use Rattle.sides.proofs.Refines.SideTexts.{one-room, other-room, differ-is}
use native.Mathlib.Omega.{arith}
use Rattle.sides.proofs.letters.constants_differ_unchecked.Goals as goal

pub spans_differ-requires : goal.spans_differ-requires
spans_differ-requires c =
    let y = passed _ _ c.both_constant.ensures c.if-not-both_constant.false-raw in
    let u = one-room c.args.terms.now c.args.chars.now c.args.c c.args.a c.args.b c.requires y in
    let v = other-room c.args.terms.now c.args.chars.now c.args.c c.args.a c.args.b c.requires y in record {
      one_inside = omega (arith, u, c.first.ensures, c.wide-p.ensures, c.second.ensures, c.wide-n.ensures);
      other_inside = omega (arith, v, c.first-2.ensures, c.wide-q.ensures, c.second-2.ensures, c.wide-m.ensures);
    }

pub returns : goal.returns
returns c =
    differ-is c.args.terms.now c.args.chars.now c.args.c c.args.a c.args.b c.requires
    (passed _ _ c.both_constant.ensures c.if-not-both_constant.false-raw) _ _ _ _ _ (c.wide-p.ensures ∙ c.first.ensures)
    (c.wide-n.ensures ∙ c.second.ensures) (c.wide-q.ensures ∙ c.first-2.ensures)
    (c.wide-m.ensures ∙ c.second-2.ensures) c.spans_differ.ensures
