use Rattle.std.proofs.Common.{rules}
use Rattle.std.proofs.lemmas.Iterator.{YieldsList-from_slice}
use Rattle.std.proofs.lemmas.Iterator.Search.{all_from_yields_List}
use mathlib.Core.Path.{◌∙◌}
use Rattle.records.specs.Rules.{is_char}
use Rattle.records.proofs.Lists.{all-list}
use Rattle.records.proofs.rules.chars_ok.Goals as goal

pub returns : goal.returns
returns c = all_from_yields_List is_char _ _ _ c.all.ensures.ran (YieldsList-from_slice c.args.w.now (search rules)) (λ x b q k. search rules) ∙ all-list is_char c.args.w.now
