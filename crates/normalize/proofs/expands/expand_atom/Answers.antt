use Rattle.records.proofs.Public.{handed}
use Rattle.normalize.proofs.Refines.Expanding.{form-short, atom-none, atom-some, atom-stopped}
use Rattle.normalize.proofs.Refines.Words.{words-part}
use native.Mathlib.Omega.{arith}
use Rattle.normalize.proofs.expands.expand_atom.Goals as goal

pub returns-in_err-n : goal.returns-in_err-n
returns-in_err-n c =
    rw (handed _ c.from_residual.ensures.1)
    (atom-stopped _ _ c.args.next.now c.args.k c.in_err-n.ensures)

pub overflow_add-k : goal.overflow_add-k
overflow_add-k c =
    (let h = form-short c.args.known.now c.args.a c.args.next.now c.args.k c.form_by.new.list _ _ c.in_ok-n.ensures c.requires.ready _ c.requires.candidates c.requires.a_string in
    let k = c.requires.k_in_bounds in let g = c.well_formed in omega (arith, c.well_formed))

pub returns-then-k-n-gt-DEEP_NF_ATOM_CAP : goal.returns-then-k-n-gt-DEEP_NF_ATOM_CAP
returns-then-k-n-gt-DEEP_NF_ATOM_CAP c =
    atom-none _ _ c.args.next.now c.args.k c.form_by.new.list _ _ c.in_ok-n.ensures c.if-k-n-gt-DEEP_NF_ATOM_CAP.true

pub returns : goal.returns
returns c =
    atom-some _ _ c.args.next.now c.args.k c.form_by.new.list _ _ c.in_ok-n.ensures _ c.if-k-n-gt-DEEP_NF_ATOM_CAP.false
    (words-part c.args.next.now c.form_by.new.list _ _ _ _ (let e = c.form_by.auto.list in let h = c.if-k-n-gt-DEEP_NF_ATOM_CAP.false in omega arith)
    (let h = c.if-k-n-gt-DEEP_NF_ATOM_CAP.false in let l = c.requires.deep_limit_in_bounds in omega arith) c.copy_from_slice.ensures.after)
