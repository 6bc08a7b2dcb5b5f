use Rattle.records.proofs.Naming.{decimal-none, decimal-one, decimal-more, decimal-room}
use Rattle.records.proofs.names.+put_decimal.Goals as goal

pub returns-then-n-eq0 : goal.returns-then-n-eq0
returns-then-n-eq0 t c = search decimal-none

pub returns-then-x-lt10 : goal.returns-then-x-lt10
returns-then-x-lt10 t c = search decimal-one

pub bounds-name-e : goal.bounds-name-e
bounds-name-e t c = search decimal-room

pub returns : goal.returns
returns t c = search decimal-more
