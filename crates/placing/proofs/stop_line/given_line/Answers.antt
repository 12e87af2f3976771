-- `placing::stop_line::given_line` meets its contract. Assumes nothing.
use mathlib.Core.Path.{◌≡◌, sym, ap, ◌∙◌}
use lib.ListN.{length}
use Rattle.placing.specs.Answers.{checked}
use Rattle.placing.proofs.CheckLaws.{shape_few}
use Rattle.placing.proofs.PlaceLaws.{given_refused, given_placed, given_room}
use borrow.Author.Rules.{rules}
use Rattle.placing.proofs.stop_line.given_line.Goals as goal

pub copied-requires : goal.copied-requires
copied-requires c = shape_few _ (sym (ap checked c.in-Ok.is) ∙ c.check_polyline.ensures)

pub returns-in-Err : goal.returns-in-Err
returns-in-Err c = (given_refused _ c.args.reference _ c.check_polyline.ensures _ _ c.in-Err.is c.refused_line.ensures, c.refused_line.ensures.room)

pub returns-in-Ok : goal.returns-in-Ok
returns-in-Ok c = let long-copied : length c.copied.result.coords ≡ 192 = search rules in
    (given_placed _ c.args.reference _ c.check_polyline.ensures _ c.in-Ok.is c.copied.ensures, given_room _ _ (shape_few _ (sym (ap checked c.in-Ok.is) ∙ c.check_polyline.ensures)) c.copied.ensures (long-copied))
