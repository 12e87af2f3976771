-- `placing::stop_line::place_as` meets its contract. Assumes nothing.
use mathlib.Core.Bool.{not}
use mathlib.Core.Path.{ap}
use Rattle.placing.proofs.PlaceLaws.{as_infinite, as_negative, as_given, as_station, as_end}
use Rattle.placing.proofs.stop_line.place_as.Goals as goal
use Rattle.placing.proofs.stop_line.place_as.Goals.{then-not-is_finite-via-then-not-is_finite, then-not-is_finite-via-else-not-is_finite+then-offset}

pub returns-in-Given : goal.returns-in-Given
returns-in-Given c = (as_given _ _ _ _ c.requires.2 _ _ _ c.length-len.ensures _ c.in-Given.is c.given_line.ensures.0, c.given_line.ensures.1)

pub returns-in-AtStation : goal.returns-in-AtStation
returns-in-AtStation c = (as_station _ _ _ _ c.requires.2 _ _ _ c.length-len.ensures _ _ c.in-AtStation.is c.place_at.ensures.0, c.place_at.ensures.1)

pub returns-else-offset : goal.returns-else-offset
returns-else-offset c = (as_end _ _ _ _ c.requires.2 _ _ _ c.length-len.ensures _ c.in-AtLaneEnd.is _ c.is_finite.ensures _ (ap not c.if-not-is_finite.false) c.if-offset.false c.place_at-in-AtLaneEnd.ensures.0, c.place_at-in-AtLaneEnd.ensures.1)

pub returns-then-not-is_finite : goal.returns-then-not-is_finite
returns-then-not-is_finite c =
    elim c.then-not-is_finite.branch [
      | then-not-is_finite-via-then-not-is_finite w ↦ (as_infinite _ _ _ _ c.requires.2 _ _ _ c.length-len.ensures _ c.in-AtLaneEnd.is _ c.is_finite.ensures _ (ap not w.if-not-is_finite.true) c.refused_line.ensures, c.refused_line.ensures.room)
      | then-not-is_finite-via-else-not-is_finite+then-offset w ↦ (as_negative _ _ _ _ c.requires.2 _ _ _ c.length-len.ensures _ c.in-AtLaneEnd.is _ c.is_finite.ensures _ (ap not w.if-not-is_finite.false) w.if-offset.true c.refused_line.ensures, c.refused_line.ensures.room)
    ]
