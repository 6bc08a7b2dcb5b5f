use Rattle.records.proofs.Lists.{table-length}
use Rattle.records.proofs.Views.{first-at, second_at}
use Rattle.records.proofs.Refines.RuleLaws.{text_test}
use Rattle.records.proofs.rules.text_ok.Goals as goal

pub returns : goal.returns
returns c =
    search (text_test, first-at, second_at, table-length)
