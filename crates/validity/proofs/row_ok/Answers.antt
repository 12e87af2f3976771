-- `validity::row_ok` meets its contract. Assumes nothing.
use mathlib.Core.Path.{◌≡◌, ◌∙◌}
use native.Mathlib.Nat.{zero-add}
use Rattle.store.specs.Layout.{place_of, coord_place_of, base_of, width_of, coord_base_of, coord_width_of}
use Rattle.validity.proofs.row_ok.Goals as goal

pub returns-in-Lane : goal.returns-in-Lane
unfolding place_of coord_place_of base_of width_of coord_base_of coord_width_of
returns-in-Lane c = c.lane_ok.ensures ∙ rw (c.place-at.ensures, c.coord_place-o.ensures, c.in-Lane.is, zero-add)

pub returns-in-Boundary : goal.returns-in-Boundary
unfolding place_of coord_place_of base_of width_of coord_base_of coord_width_of
returns-in-Boundary c = c.string_ok.ensures ∙ rw (c.place-at-in-Boundary.ensures, c.coord_place-o-in-Boundary.ensures, c.in-Boundary.is)

pub returns-in-StopLine : goal.returns-in-StopLine
unfolding place_of coord_place_of base_of width_of coord_base_of coord_width_of
returns-in-StopLine c = c.string_ok-in-StopLine.ensures ∙ rw (c.place-at-in-StopLine.ensures, c.coord_place-o-in-StopLine.ensures, c.in-StopLine.is)

pub returns-in-Signal : goal.returns-in-Signal
unfolding place_of coord_place_of base_of width_of coord_base_of coord_width_of
returns-in-Signal c = c.signal_ok.ensures ∙ rw (c.place-at-in-Signal.ensures, c.coord_place-o-in-Signal.ensures, c.in-Signal.is)

pub returns-in-Crosswalk : goal.returns-in-Crosswalk
unfolding place_of coord_place_of base_of width_of coord_base_of coord_width_of
returns-in-Crosswalk c = c.crosswalk_ok.ensures ∙ rw (c.place-at-in-Crosswalk.ensures, c.coord_place-o-in-Crosswalk.ensures, c.in-Crosswalk.is)

pub returns-in-Rule : goal.returns-in-Rule
unfolding place_of coord_place_of base_of width_of coord_base_of coord_width_of
returns-in-Rule c = c.rule_ok.ensures ∙ rw (c.place-at-in-Rule.ensures, c.coord_place-o-in-Rule.ensures, c.in-Rule.is)
