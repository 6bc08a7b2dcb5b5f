use Rattle.records.proofs.Naming.{decimal-none, decimal-one, decimal-more, decimal-room}
use Rattle.commands.proofs.print.+put_digits.Goals as goal

pub returns-then-n-eq0 : goal.returns-then-n-eq0
returns-then-n-eq0 t c = search decimal-none

pub returns-then-x-lt10 : goal.returns-then-x-lt10
returns-then-x-lt10 t c = search decimal-one

pub bounds-out-e : goal.bounds-out-e
bounds-out-e t c = search decimal-room

pub returns : goal.returns
returns t c = search decimal-more
