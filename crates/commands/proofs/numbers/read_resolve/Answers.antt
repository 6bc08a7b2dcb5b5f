use Rattle.commands.proofs.Parsing.{resolve-none, resolve_odd, resolve-one, resolve-more, resolve-bad, resolve-free, resolve-is}
use Rattle.commands.proofs.Numbering.{field_within}
use mathlib.Core.Path.{refl}
use native.Mathlib.Omega.{arith}
use Rattle.commands.proofs.numbers.read_resolve.Goals as goal

pub returns-in_default : goal.returns-in_default
returns-in_default c = record { says = λ l. resolve-none _ (omega arith) }

pub returns-in_default-2 : goal.returns-in_default-2
returns-in_default-2 c = record { says = λ l. resolve_odd _ (omega arith) (omega arith) }

pub returns-then-rest-end : goal.returns-then-rest-end
returns-then-rest-end c = record { says = λ l. resolve-one _ (omega arith) (omega arith) _ c.field_end-end.ensures c.if-rest-end.true }

pub returns-then-last-rest : goal.returns-then-last-rest
returns-then-last-rest c = record { says = λ l. resolve-more _ (omega arith) (omega arith) _ c.field_end-end.ensures c.if-rest-end.false _ c.field_end-last.ensures c.if-last-rest.true }

pub returns-in_err-t : goal.returns-in_err-t
returns-in_err-t c = record { says = λ l. rw c.from_residual.ensures (resolve-bad _ (omega arith) (omega arith) _ c.field_end-end.ensures c.if-rest-end.false _ c.field_end-last.ensures c.if-last-rest.false c.in_err-t.ensures) }

pub slice_bounds-guard_of-end : goal.slice_bounds-guard_of-end
slice_bounds-guard_of-end c = field_within _ _ _ (let t = c.if-rest-end.false in omega arith) c.field_end-last.ensures

pub returns-in_err-g : goal.returns-in_err-g
returns-in_err-g c = record { says = λ l. rw c.from_residual-in_err-g.ensures (resolve-free _ (omega arith) (omega arith) _ c.field_end-end.ensures c.if-rest-end.false _ c.field_end-last.ensures c.if-last-rest.false _ c.in_ok-t.ensures _ c.in_err-g.ensures refl) }

pub returns : goal.returns
returns c = record { says = λ l. resolve-is _ (omega arith) (omega arith) _ c.field_end-end.ensures c.if-rest-end.false _ c.field_end-last.ensures c.if-last-rest.false _ c.in_ok-t.ensures _ c.in_ok-g.ensures _ refl (record { sfits = omega arith }) }
