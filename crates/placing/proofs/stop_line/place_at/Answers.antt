-- `placing::stop_line::place_at` meets its contract. Assumes nothing.
use mathlib.Core.Bool.{not}
use mathlib.Core.Path.{ap}
use mathlib.Core.Path.{◌≡◌}
use lib.ListN.{length}
use Rattle.placing.proofs.PlaceLaws.{station_bad, section_refused, section_placed, across_room}
use borrow.Author.Rules.{rules}
use Rattle.placing.proofs.stop_line.place_at.Goals as goal

pub returns-then-not-is_finite : goal.returns-then-not-is_finite
returns-then-not-is_finite c = (station_bad _ _ _ _ _ _ _ c.is_finite.ensures _ (ap not c.if-not-is_finite.true) c.refused_line.ensures, c.refused_line.ensures.room)

pub returns-in-Err : goal.returns-in-Err
returns-in-Err c = (search (rules, section_refused), search rules)

pub returns-in-Ok : goal.returns-in-Ok
returns-in-Ok c = let long-across : length c.across.result.coords ≡ 192 = search rules in
    (search (rules, section_placed), across_room _ _ _ c.across.ensures (long-across))
