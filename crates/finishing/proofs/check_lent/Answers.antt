-- `finishing::check_lent` meets its contract. Assumes nothing.
use mathlib.Core.Bool.{not}
use mathlib.Core.Path.{ap}
use mathlib.Core.List.{[]}
use Rattle.finishing.proofs.LentLaws as L
use Rattle.finishing.proofs.check_lent.Goals as goal

pub returns-then-not-is_map : goal.returns-then-not-is_map
returns-then-not-is_map c = L.no_map_lem _ _ _ _ _ _ c.is_map.ensures (ap not c.if-not-is_map.true)

pub returns-then-set-ne-WORDS : goal.returns-then-set-ne-WORDS
returns-then-set-ne-WORDS c = L.no_set_lem _ _ _ _ _ _ c.is_map.ensures (ap not c.if-not-is_map.false) c.if-set-ne-WORDS.true

pub fold_ok-requires : goal.fold_ok-requires
fold_ok-requires c = L.words_sized _ _ [] c.args.tally [] _ c.is_map.ensures (ap not c.if-not-is_map.false)

pub returns-then-not-fold_ok : goal.returns-then-not-fold_ok
returns-then-not-fold_ok c = L.no_fold _ _ _ _ _ _ c.is_map.ensures (ap not c.if-not-is_map.false) c.if-set-ne-WORDS.false _ c.fold_ok.ensures (ap not c.if-not-fold_ok.true)

pub returns : goal.returns
returns c = L.all_fine _ _ _ _ _ _ c.is_map.ensures (ap not c.if-not-is_map.false) c.if-set-ne-WORDS.false _ c.fold_ok.ensures (ap not c.if-not-fold_ok.false)
