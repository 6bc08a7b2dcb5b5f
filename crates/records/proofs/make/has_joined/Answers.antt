use Rattle.records.specs.Working.Leaves.{has_text}
use Rattle.records.specs.Lists.{concat_map}
use Rattle.records.specs.View.{text_at}
use Rattle.records.proofs.Refines.JoinedTexts.{lengths-concat_map}
use Rattle.records.proofs.Refines.Making.{word_long, word_spelled}
use Rattle.std.proofs.lemmas.Bool.Decides.{nat_tests}
use native.Mathlib.Omega.{arith}
use Rattle.records.proofs.make.has_joined.Goals as goal

pub returns-then-second-total : goal.returns-then-second-total
unfolding has_text
returns-then-second-total c =
    let a = c.args in
    let n = lengths-concat_map a.terms.now a.chars.now a.list.now in
    let q = c.requires.total_value in
    let e = word_spelled a.terms.now a.chars.now (concat_map (text_at a.terms.now a.chars.now) a.list.now) a.t in
    grind (arith, nat_tests)

pub returns-else-second-total : goal.returns-else-second-total
unfolding has_text
returns-else-second-total c =
    let a = c.args in
    let n = lengths-concat_map a.terms.now a.chars.now a.list.now in
    let q = c.requires.total_value in
    let e = word_long a.terms.now a.chars.now (concat_map (text_at a.terms.now a.chars.now) a.list.now) a.t in
    grind (arith, nat_tests)
