-- `place::lines::copied` meets its contract. Assumes nothing.
use mathlib.Core.Path.{refl}
use Rattle.centerline.specs.Line.{points_of}
use Rattle.place.proofs.LineLaws.{copy_is}
use Rattle.place.proofs.lines.copied.Goals as goal

pub returns : goal.returns
unfolding points_of
returns c = copy_is _ _ _ refl c.requires refl _ c.put.ensures
