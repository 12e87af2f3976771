-- `sets::fold_fitted` meets its contract. Assumes nothing.
use native.Mathlib.Omega.{arith}
use Rattle.sets.proofs.TableLaws as L
use borrow.Author.Rules.{rules}
use Rattle.sets.proofs.fold_fitted.Goals as goal

pub fold_in-requires : goal.fold_in-requires
fold_in-requires c = (search (rules, L.fits_joins), omega arith)
