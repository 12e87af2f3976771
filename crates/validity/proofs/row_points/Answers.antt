-- `validity::row_points` meets its contract. Assumes nothing.
use mathlib.Core.Path.{◌≡◌, ◌∙◌}
use Rattle.store.specs.declared.Kind.TheVariants.{Crosswalk}
use Rattle.store.specs.Layout.{place_of, base_of, width_of}
use Rattle.validity.proofs.Within.{word_room}
use Rattle.validity.proofs.row_points.Goals as goal

pub crosswalk_points-requires : goal.crosswalk_points-requires
unfolding place_of base_of width_of
crosswalk_points-requires c = (word_room c.args.words.now c.requires.0 Crosswalk c.args.i c.place-at-in-Crosswalk.result (rw c.in-Crosswalk.is at c.requires.1) c.place-at-in-Crosswalk.ensures, rw c.place-at-in-Crosswalk.ensures (rw c.in-Crosswalk.is at c.requires.2))

pub returns-in-Lane : goal.returns-in-Lane
unfolding place_of base_of width_of
returns-in-Lane c = c.points_if.ensures ∙ rw (c.place-at.ensures, c.in-Lane.is)

pub returns-in-Boundary : goal.returns-in-Boundary
unfolding place_of base_of width_of
returns-in-Boundary c = rw (c.place-at-in-Boundary.ensures, c.in-Boundary.is)

pub returns-in-StopLine : goal.returns-in-StopLine
unfolding place_of base_of width_of
returns-in-StopLine c = rw (c.place-at-in-StopLine.ensures, c.in-StopLine.is)

pub returns-in-Signal : goal.returns-in-Signal
unfolding place_of base_of width_of
returns-in-Signal c = rw (c.place-at-in-Signal.ensures, c.in-Signal.is)

pub returns-in-Crosswalk : goal.returns-in-Crosswalk
unfolding place_of base_of width_of
returns-in-Crosswalk c = c.crosswalk_points.ensures ∙ rw (c.place-at-in-Crosswalk.ensures, c.in-Crosswalk.is)

pub returns-in-Rule : goal.returns-in-Rule
unfolding place_of base_of width_of
returns-in-Rule c = c.sign_points.ensures ∙ rw (c.place-at-in-Rule.ensures, c.in-Rule.is)
