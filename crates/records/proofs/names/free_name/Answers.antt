use mathlib.Core.Path.{◌≡◌}
use native.Mathlib.Omega.{arith}
use Rattle.records.specs.Make.{name_limit}
use Rattle.records.proofs.Naming.{passed_none, passed_one, free_here, free-none}
use Rattle.records.proofs.names.free_name.Goals as goal

pub loop-x-init : goal.loop-x-init
loop-x-init c =
    passed_none _

pub returns-then-not-is_taken : goal.returns-then-not-is_taken
returns-then-not-is_taken c =
    search free_here

pub loop-x-preserved : goal.loop-x-preserved
loop-x-preserved c =
    search passed_one

pub returns : goal.returns
returns c =
    let e : c.loop-x.x ≡ name_limit = omega arith in rw e at (free-none _ _ c.loop-x.invariant c.loop-x-test.false)
