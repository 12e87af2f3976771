-- `sets::crowd` meets its contract. Assumes nothing.
use native.Mathlib.Omega.{arith}
use Rattle.sets.proofs.SettleLaws as S
use Rattle.sets.proofs.TableLaws as L
use Rattle.sets.proofs.crowd.Goals as goal

pub overflow_add-a : goal.overflow_add-a
overflow_add-a c = omega (arith, S.few _ 0 _ c.requires.0 (omega arith) c.index.ensures, S.few _ 0 _ c.requires.1 (omega arith) c.index-2.ensures)

pub overflow_add-b : goal.overflow_add-b
overflow_add-b c = omega (arith, S.few _ 1 _ c.requires.0 (omega arith) c.index-3.ensures, S.few _ 1 _ c.requires.1 (omega arith) c.index-4.ensures)

pub overflow_add-d : goal.overflow_add-d
overflow_add-d c = omega (arith, S.few _ 2 _ c.requires.0 (omega arith) c.index-5.ensures, S.few _ 2 _ c.requires.1 (omega arith) c.index-6.ensures)

pub overflow_add-result : goal.overflow_add-result
overflow_add-result c = omega (arith, S.few _ 0 _ c.requires.0 (omega arith) c.index.ensures, S.few _ 0 _ c.requires.1 (omega arith) c.index-2.ensures, S.few _ 1 _ c.requires.0 (omega arith) c.index-3.ensures, S.few _ 1 _ c.requires.1 (omega arith) c.index-4.ensures, S.few _ 2 _ c.requires.0 (omega arith) c.index-5.ensures, S.few _ 2 _ c.requires.1 (omega arith) c.index-6.ensures)

pub overflow_add-result-2 : goal.overflow_add-result-2
overflow_add-result-2 c = omega (arith, S.few _ 0 _ c.requires.0 (omega arith) c.index.ensures, S.few _ 0 _ c.requires.1 (omega arith) c.index-2.ensures, S.few _ 1 _ c.requires.0 (omega arith) c.index-3.ensures, S.few _ 1 _ c.requires.1 (omega arith) c.index-4.ensures, S.few _ 2 _ c.requires.0 (omega arith) c.index-5.ensures, S.few _ 2 _ c.requires.1 (omega arith) c.index-6.ensures)

pub returns : goal.returns
returns c = L.crowd_told _ _ _ _ _ _ _ _ c.index.ensures c.index-2.ensures c.index-3.ensures c.index-4.ensures c.index-5.ensures c.index-6.ensures
