-- `root::lengthen` meets its contract, by `proofs/Doubling.antt`. Assumes nothing.
use native.Mathlib.Omega.{arith}
use Rattle.root.proofs.Doubling.{bounds, corrected}
use Rattle.root.proofs.lengthen.Goals as goal

pub overflow_mul-n : goal.overflow_mul-n
overflow_mul-n c = omega (arith, bounds c.requires)

pub overflow_add-n : goal.overflow_add-n
overflow_add-n c = omega (arith, bounds c.requires)

pub overflow_mul-v : goal.overflow_mul-v
overflow_mul-v c = omega (arith, bounds c.requires)

pub overflow_add-v : goal.overflow_add-v
overflow_add-v c = omega (arith, bounds c.requires)

pub overflow_mul-over : goal.overflow_mul-over
overflow_mul-over c = omega (arith, bounds c.requires)

pub overflow_add-result : goal.overflow_add-result
overflow_add-result c = omega (arith, corrected c.requires, bounds c.requires)

pub overflow_mul-result-3 : goal.overflow_mul-result-3
overflow_mul-result-3 c = omega (arith, corrected c.requires, bounds c.requires)

pub overflow_sub-result-3 : goal.overflow_sub-result-3
overflow_sub-result-3 c = (corrected c.requires).covered

pub returns : goal.returns
returns c = (corrected c.requires).longer
