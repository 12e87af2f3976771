-- `linking::kinds::with_signal` meets its contract. Assumes nothing.
use Rattle.std.proofs.lemmas.Result.{err_from_is_err_and}
use Rattle.linking.proofs.KindLaws.{added_missing, word_asks, added_later, added_vehicle, added_pedestrian}
use Rattle.linking.proofs.kinds.with_signal.Goals as goal

pub returns-in_default : goal.returns-in_default
returns-in_default c = added_missing _ _ _ _ c.find-f.ensures c.in_default.is

pub word-requires : goal.word-requires
word-requires c = word_asks _ _ c.args.rest _ c.find-f.ensures _ c.in-Some.is c.requires

pub returns-in_err-vehicle : goal.returns-in_err-vehicle
returns-in_err-vehicle c =
    let p = err_from_is_err_and c.from_residual.result c.from_residual.ensures.1 in
    rw (p.1, p.2) (added_later _ _ _ _ c.find-f.ensures _ c.in-Some.is _ c.in_err-vehicle.was)

pub returns-then-word-eq0 : goal.returns-then-word-eq0
returns-then-word-eq0 c = added_vehicle _ _ _ _ c.find-f.ensures _ c.in-Some.is _ _ c.in_ok-vehicle.was _ c.word.ensures c.if-word-eq0.true

pub returns-else-word-eq0 : goal.returns-else-word-eq0
returns-else-word-eq0 c = added_pedestrian _ _ _ _ c.find-f.ensures _ c.in-Some.is _ _ c.in_ok-vehicle.was _ c.word.ensures c.if-word-eq0.false
