-- `placing::stop_line::place_with` meets its contract. Assumes nothing.
use mathlib.Core.Path.{ap}
use mathlib.Core.Bool.{not}
use Rattle.placing.proofs.PlaceLaws.{no_center, center_there, placed_is}
use Rattle.placing.proofs.stop_line.place_with.Goals as goal

pub returns-then-not-center : goal.returns-then-not-center
returns-then-not-center c = (no_center _ c.args.lanes.now _ _ c.args.center c.requires.2 _ (ap not c.if-not-center.true) c.refused_line.ensures, c.refused_line.ensures.room)

pub place_as-requires : goal.place_as-requires
place_as-requires c = (c.requires.0, c.requires.1, center_there _ c.args.lanes.now c.args.how c.args.given.now c.args.center c.requires.2 (ap not c.if-not-center.false))

pub returns : goal.returns
returns c = (placed_is _ c.args.lanes.now _ _ c.args.center c.requires.2 (ap not c.if-not-center.false) _ c.place_as.ensures.0, c.place_as.ensures.1)
