-- The names of the ends apart, each answer is the one from before: points, warnings, records, numbers, change sets, refusals and their order.
use Rattle.std.specs.Prelude.{ℕ, ◌≡◌, false, List, Float}
use Rattle.refusal.specs.Answer.{Answer, refused, done}
use Rattle.map.specs.Record.{Map}
use Rattle.changes.specs.Running.{State}
use Rattle.place.specs.declared.Placement.{Placement}
use Rattle.place.specs.Place.{Placed, cross_section, place_stop_line}
use Rattle.edit.specs.Edit.{Outcome}
use Rattle.edit.specs.StopLine.{NewStopLine, add_stop_line}
use Rattle.edit.specs.Light.{NewTrafficSignal, add_traffic_signal}
use Rattle.edit.specs.Links.{RegulatoryLinks, set_regulatory_links}
use Rattle.group_line.specs.Law.{answered_anew}
use Rattle.names_apart.specs.Placing as before
use Rattle.names_apart.specs.Edits as earlier

-- an answer with its result changed
abbrev pub with_result : {A B : Type 0} → (A → B) → Answer A → Answer B
with_result f (refused n ds) = refused n ds
with_result f (done a) = done (f a)

-- without the names
abbrev pub bare : Placed → before.Placed
bare p = record { points = p.points; warnings = p.warnings }

abbrev pub bare_outcome : Outcome → earlier.Outcome
bare_outcome o = record { state = o.state; id = o.id; changes = o.changes }

pub record NamesApart : Type 0 where
  pub section : (m : Map) (reference : ℕ) (station : Float) (lanes : List ℕ) → with_result (λ x. x.points) (cross_section m reference station lanes) ≡ before.cross_section m reference station lanes
  pub placement : (m : Map) (lanes : List ℕ) (how : Placement) (cs : List Float) → with_result bare (place_stop_line m lanes how cs) ≡ before.place_stop_line m lanes how cs
  pub line : (a : NewStopLine) (s : State) → with_result bare_outcome (add_stop_line a s) ≡ earlier.add_stop_line a s
  -- a light whose answer the group's line has not changed since
  pub light : (a : NewTrafficSignal) (s : State) → answered_anew a s.map ≡ false → with_result bare_outcome (add_traffic_signal a s) ≡ earlier.add_traffic_signal a s
  pub links : (a : RegulatoryLinks) (s : State) → with_result bare_outcome (set_regulatory_links a s) ≡ earlier.set_regulatory_links a s
