use Rattle.records.proofs.Public.{handed}
use Rattle.normalize.proofs.Refines.Rounding.{deep_stopped, deep_long, deep_ready, deep_strings, deep_candidates, deep_done}
use Rattle.normalize.proofs.deeper.deep_form_by_unchecked.Goals as goal

pub returns-in_err-n : goal.returns-in_err-n
returns-in_err-n c =
    rw (handed _ c.from_residual.ensures.1)
    (deep_stopped _ _ c.in_err-n.ensures)

pub returns-then-n-gt-DEEP_NF_ATOM_CAP : goal.returns-then-n-gt-DEEP_NF_ATOM_CAP
returns-then-n-gt-DEEP_NF_ATOM_CAP c =
    deep_long _ _ c.requires.ready c.form_by.new.list _ _ c.in_ok-n.ensures c.if-n-gt-DEEP_NF_ATOM_CAP.true

pub rounds-requires-clause-ready : goal.rounds-requires-clause-ready
rounds-requires-clause-ready c =
    deep_ready _ _ c.requires.ready c.form_by.new.list _ _ c.in_ok-n.ensures

pub rounds-requires-clause-candidates : goal.rounds-requires-clause-candidates
rounds-requires-clause-candidates c =
    deep_candidates _ _ c.requires.ready c.form_by.new.list _ _ c.in_ok-n.ensures _ c.requires.candidates c.requires.t_value

pub rounds-requires-clause-strings : goal.rounds-requires-clause-strings
rounds-requires-clause-strings c =
    deep_strings _ _ c.requires.ready c.form_by.new.list _ _ c.in_ok-n.ensures _ c.requires.candidates c.requires.t_value

pub returns : goal.returns
returns c =
    deep_done _ _ c.requires.ready c.form_by.new.list _ _ c.in_ok-n.ensures _ c.requires.candidates c.requires.t_value c.if-n-gt-DEEP_NF_ATOM_CAP.false c.rounds.ensures
