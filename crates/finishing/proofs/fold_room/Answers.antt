-- `finishing::fold_room` meets its contract. Assumes nothing.
use Rattle.finishing.proofs.SettleLaws as L
use borrow.Author.Rules.{rules}
use Rattle.finishing.proofs.fold_room.Goals as goal

pub returns : goal.returns
returns c = search (rules, L.settling)
