use mathlib.Core.Path.{refl, sym, ◌∙◌}
use borrow.Author.Tests.{eqb-true, eqb-false, lt-ltb}
use Rattle.sides.proofs.Refines.SideTexts.{plain-kind, plain-short, plain-is}
use Rattle.sides.proofs.letters.is_plain_unchecked.Goals as goal

pub returns-then-second-lt5 : goal.returns-then-second-lt5
returns-then-second-lt5 c =
    rw (lt-ltb _ 5 c.if-second-lt5.true)
    (plain-short _ _ _ _ _ c.requires refl (eqb-true _ _ (sym c.is_a.ensures ∙ c.if-is_a.true)) _ c.second.ensures c.if-second-lt5.true)

pub returns-else-second-lt5 : goal.returns-else-second-lt5
returns-else-second-lt5 c =
    plain-is _ _ _ _ _ c.requires refl (eqb-true _ _ (sym c.is_a.ensures ∙ c.if-is_a.true)) _ _ _ _ c.second.ensures c.if-second-lt5.false
    c.first.ensures c.text_is.ensures refl

pub returns-else-is_a : goal.returns-else-is_a
returns-else-is_a c =
    rw c.if-is_a.false (plain-kind _ _ _ _ _ c.requires refl (eqb-false _ _ (sym c.is_a.ensures ∙ c.if-is_a.false)))
