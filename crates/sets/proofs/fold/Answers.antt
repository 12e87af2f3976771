-- `sets::fold` meets its contract. Assumes nothing.
use mathlib.Core.Bool.{not}
use mathlib.Core.Path.{ap}
use Rattle.sets.proofs.TableLaws as L
use Rattle.sets.proofs.fold.Goals as goal
use Rattle.sets.proofs.fold.Goals.{then-not-lists_ok-via-then-not-lists_ok, then-not-lists_ok-via-else-not-lists_ok+then-not-lists_ok-2}

pub returns-then-not-lists_ok : goal.returns-then-not-lists_ok
returns-then-not-lists_ok c =
    elim c.then-not-lists_ok.branch [
      | then-not-lists_ok-via-then-not-lists_ok w ↦ L.bad_fold _ _ _ c.lists_ok.ensures (ap not w.if-not-lists_ok.true)
      | then-not-lists_ok-via-else-not-lists_ok+then-not-lists_ok-2 w ↦ L.bad_set _ _ _ c.lists_ok.ensures (ap not w.if-not-lists_ok.false) _ w.lists_ok-else-not-lists_ok.ensures (ap not w.if-not-lists_ok-2.true)
    ]

pub fold_fitted-requires : goal.fold_fitted-requires
fold_fitted-requires c = (L.fits_told _ _ c.lists_ok.ensures (ap not c.if-not-lists_ok.false), L.fits_told _ _ c.lists_ok-else-not-lists_ok.ensures (ap not c.if-not-lists_ok-2.false))

pub returns : goal.returns
returns c = L.fold_called _ _ _ c.lists_ok.ensures (ap not c.if-not-lists_ok.false) _ c.lists_ok-else-not-lists_ok.ensures (ap not c.if-not-lists_ok-2.false) _ _ c.fold_fitted.ensures
