-- Which calls answer the names of a line's ends, and what they are the names of.
use Rattle.std.specs.Prelude.{ℕ, ◌≡◌, List, [], ◌∷◌, ◌++◌, Float, get_or, Option, None, Some}
use Rattle.refusal.specs.Answer.{done}
use Rattle.rows.specs.Lists.{or_else}
use Rattle.geometry.specs.Double.{f0}
use Rattle.map.specs.Record.{LineString, Map}
use Rattle.map.specs.Rows.{fresh}
use Rattle.place.specs.declared.Placement.{Placement}
use Rattle.place.specs.declared.Placement.TheVariants.{AtLaneEnd}
use Rattle.place.specs.declared.SectionNames.{SectionNames}
use Rattle.place.specs.Place.{Placed, place_stop_line}
use Rattle.place.specs.EndNames.{EndsBy}
use Rattle.edit.specs.declared.StopLineChoice.{StopLineChoice}
use Rattle.edit.specs.declared.StopLineChoice.TheVariants.{Automatic, Existing, New, NoLine}
use Rattle.edit.specs.Edit.{Outcome}
use Rattle.edit.specs.Light.{NewTrafficSignal, group_line, existing_stop_line}
use Rattle.run.specs.Run.{Edit, line, signal, links}

-- what a call tells of the line: its ends' names, and the map's lines after it
pub record LineTold : Type 0 where
  pub ends : Option SectionNames
  pub lines : List LineString

abbrev pub told_by : Outcome → LineTold
told_by o = record { ends = o.ends; lines = o.state.map.stop_lines }

-- a line is placed and stored; its ends are named if it lies across lanes
pub record PlacedEnds (m : Map) (lanes : List ℕ) (how : Placement) (cs : List Float) (t : LineTold) : Type 0 where
  pub placed : Placed
  pub placed_is : place_stop_line m lanes how cs ≡ done placed
  pub by : EndsBy how m lanes placed
  pub ends : t.ends ≡ placed.ends
  pub stored : t.lines ≡ m.stop_lines ++ (record { num = fresh m; geometry = placed.points } ∷ [])

-- no line is placed, and none named
pub record NoEnds (m : Map) (t : LineTold) : Type 0 where
  pub ends : t.ends ≡ None
  pub stored : t.lines ≡ m.stop_lines

abbrev pub AutoEnds : Map → List ℕ → Option ℕ → LineTold → Type 0
AutoEnds m lanes (Some s) t = NoEnds m t
AutoEnds m lanes None t = PlacedEnds m lanes (AtLaneEnd f0) [] t

abbrev pub ChoiceEnds : Map → List ℕ → Option ℕ → StopLineChoice → List Float → LineTold → Type 0
ChoiceEnds m lanes group (Existing s) cs t = NoEnds m t
ChoiceEnds m lanes group NoLine cs t = NoEnds m t
ChoiceEnds m lanes group (New how) cs t = PlacedEnds m lanes how cs t
ChoiceEnds m lanes group Automatic cs t = AutoEnds m lanes (or_else group (existing_stop_line m (get_or lanes 0 0))) t

pub record LightEnds (a : NewTrafficSignal) (m : Map) (t : LineTold) : Type 0 where
  -- the line of the light that it joins
  pub group : Option ℕ
  pub group_is : group_line m a.group ≡ done group
  pub ends : ChoiceEnds m a.lanes group a.choice a.points t

-- the table of calls
abbrev pub EndsAnswered : Edit → Map → LineTold → Type 0
EndsAnswered (line a) m t = PlacedEnds m a.lanes a.placement a.points t
EndsAnswered (signal a) m t = LightEnds a m t
EndsAnswered (links a) m t = NoEnds m t
