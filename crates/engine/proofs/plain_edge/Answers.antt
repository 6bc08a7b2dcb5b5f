use borrow.Author.Rules.{rules}
use Rattle.records.proofs.Public.{handed}
use Rattle.engine.proofs.Refines.Turns.{label_is, reason_label}
use Rattle.engine.proofs.Refines.Plainly.{plain-given, plain-refused, plain-nothing}
use Rattle.engine.proofs.plain_edge.Goals as goal

pub returns-in_err-given-in-Ok-Asserted : goal.returns-in_err-given-in-Ok-Asserted
returns-in_err-given-in-Ok-Asserted c =
    rw (handed _ c.from_residual.ensures.1)
    (plain-refused _ _ _ _ _ _ _ (reason_label c.in-Ok-Asserted.ensures (search rules))
    (record { kind_is = c.label_kind-kind.ensures; value_is = c.label_value-value.ensures }) c.in_err-given-in-Ok-Asserted.ensures)

pub returns-in_ok-given-in-Ok-Asserted : goal.returns-in_ok-given-in-Ok-Asserted
returns-in_ok-given-in-Ok-Asserted c =
    plain-given _ _ _ _ _ _ _ (reason_label c.in-Ok-Asserted.ensures (search rules))
    (record { kind_is = c.label_kind-kind.ensures; value_is = c.label_value-value.ensures }) c.in_ok-given-in-Ok-Asserted.ensures

pub returns-in-Ok-Definitional : goal.returns-in-Ok-Definitional
returns-in-Ok-Definitional c =
    plain-nothing _ _ _ _ _ _ (label_is c.in-Ok-Definitional.ensures c.in-Ok-Definitional.field-0-is)
    (record { kind_is = c.label_kind-kind.ensures; value_is = c.label_value-value.ensures })
