-- The works behind the exported calls: each keeps a store audited.
use mathlib.Core.List.{List}
use Prim.Native.Nat.{ℕ}
use lib.ListN.{length}
use lib.Dec.{leb}
use borrow.Author.Tests.{leb-true}
use Rattle.records.specs.Rules.{list_limit}
use Rattle.records.specs.Make.{make_constant, constant_arguments, make_variable, variable_arguments, make_concat, concat_arguments, make_length, length_arguments, make_equation, equation_arguments}
use Rattle.records.proofs.Lists.{both_left, both_right}
use Rattle.records.proofs.Kept.{constant-kept, variable-kept, concat-kept, length-kept, equation-kept}
use Rattle.capi.proofs.Exports.{Tells}

pub constant-tells : (w : List ℕ) → Tells (constant_arguments w) (make_constant w)
constant-tells w = record {
  keeps = λ s s' t a f e. (constant-kept w s s' t a f e).made.audited;
}

pub variable-tells : (w : List ℕ) → Tells (variable_arguments w) (make_variable w)
variable-tells w = record {
  keeps = λ s s' t a f e. (variable-kept w s s' t a (both_right (leb 1 (length w)) _ f) (leb-true 1 (length w) (both_left _ _ f)) e).made.audited;
}

pub concat-tells : (l : List ℕ) → Tells (concat_arguments l) (make_concat l)
concat-tells l = record {
  keeps = λ s s' t a f e. (concat-kept l s s' t a (leb-true 2 (length l) (both_left _ _ f)) (both_right (leb (length l) list_limit) _ (both_right (leb 2 (length l)) _ f)) e).made.audited;
}

pub length-tells : (x : ℕ) → Tells (length_arguments x) (make_length x)
length-tells x = record {
  keeps = λ s s' t a f e. (length-kept x s s' t a f e).made.audited;
}

pub equation-tells : (x y : ℕ) → Tells (equation_arguments x y) (make_equation x y)
equation-tells x y = record {
  keeps = λ s s' t a f e. (equation-kept x y s s' t a f e).made.audited;
}
