use native.Mathlib.Omega.{arith}
use Rattle.sets.proofs.SettleLaws as L
use Rattle.sets.proofs.list.Goals as goal

pub overflow_mul-result : goal.overflow_mul-result
overflow_mul-result c = omega (arith, L.roomy_few _ _ _ _ c.requires c.word.ensures.number c.begin.ensures.below c.index-count.ensures)

pub overflow_add-result : goal.overflow_add-result
overflow_add-result c = omega (arith, L.roomy_few _ _ _ _ c.requires c.word.ensures.number c.begin.ensures.below c.index-count.ensures)

pub returns-clause-end : goal.returns-clause-end
returns-clause-end c = omega (arith, L.roomy_count _ _ _ _ c.word.ensures.number c.index-count.ensures)

pub returns-clause-count : goal.returns-clause-count
returns-clause-count c = L.roomy_count _ _ _ _ c.word.ensures.number c.index-count.ensures
