use mathlib.Core.Path.{◌∙◌}
use Rattle.records.proofs.Naming.{name_put}
use lib.ListN.{length-set}
use native.Mathlib.Omega.{arith}
use Rattle.records.proofs.names.put_name.Goals as goal

pub bounds-name-1 : goal.bounds-name-1
bounds-name-1 c =
    simp length-set (omega arith)

pub bounds-name-2 : goal.bounds-name-2
bounds-name-2 c =
    simp length-set (omega arith)

pub bounds-name-3 : goal.bounds-name-3
bounds-name-3 c =
    simp length-set (omega arith)

pub bounds-name-4 : goal.bounds-name-4
bounds-name-4 c =
    simp length-set (omega arith)

pub shape_of-name : goal.shape_of-name
shape_of-name c =
    c.put_decimal.auto.name ∙ simp length-set

pub returns : goal.returns
returns c =
    search name_put
