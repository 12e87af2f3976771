-- `sets::fold_few` meets its contract. Assumes nothing.
use native.Mathlib.Omega.{arith}
use Rattle.sets.proofs.TableLaws as L
use Rattle.sets.proofs.fold_few.Goals as goal

pub fold_in-requires : goal.fold_in-requires
fold_in-requires c = (L.few_joins _ _ _ c.requires.0 c.requires.1 c.requires.2 (omega arith), omega arith)
