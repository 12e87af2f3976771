-- `signals::check_fold` meets its contract. Assumes nothing.
use Rattle.signals.proofs.FoldLaws as K
use Rattle.signals.proofs.check_fold.Goals as goal

pub returns-then-fold_room : goal.returns-then-fold_room
returns-then-fold_room c = K.fold_takes _ _ _ _ _ _ c.requires.0 _ c.fold_room.ensures c.if-fold_room.true

pub returns : goal.returns
returns c = K.fold_tried _ _ _ _ _ _ _ c.draft_set.ensures _ c.settles.ensures.tried
