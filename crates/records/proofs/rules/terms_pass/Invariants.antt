use Rattle.records.specs.View.{records_in, read_in}
use Rattle.records.specs.Rules.{term_rule}
use Rattle.records.specs.Working.Hashes.{Tables}
use Rattle.records.proofs.Lists.{UpTo}
use Rattle.records.proofs.rules.terms_pass.Given as goal

abbrev pub invariant-loop-t : goal.invariant-loop-t
invariant-loop-t l = UpTo (term_rule (records_in l.terms l.cells l.chars l.c)) l.t × Tables (read_in l.terms l.chars l.c) l.hashes l.links l.heads l.t
