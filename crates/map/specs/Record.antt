-- The records of a map, and the map. Lists of records stand in rising order of their numbers.
use Rattle.std.specs.Prelude.{ℕ, Bool, List, Float, Option}
use Rattle.geometry.specs.declared.Point3.{Point3}
use Rattle.geometry.specs.Polyline.{Polyline}
use Rattle.map.specs.declared.SignalKind.{SignalKind}
use Rattle.map.specs.declared.SignalKind.TheVariants.{Vehicle, Pedestrian}
use Rattle.map.specs.declared.BulbColor.{BulbColor}
use Rattle.map.specs.declared.BulbColor.TheVariants.{Red, Yellow, Green, White}
use Rattle.map.specs.declared.BulbArrow.{BulbArrow}
use Rattle.map.specs.declared.BulbArrow.TheVariants.{NoArrow, Up, Down, Left, Right, UpLeft, UpRight, DownLeft, DownRight}

-- a side of a lane: a boundary's number, and whether it runs against the lane
pub record BoundaryRef : Type 0 where
  pub boundary : ℕ
  pub reversed : Bool

pub record Lane : Type 0 where
  pub num : ℕ
  pub kind : ℕ
  pub left : BoundaryRef
  pub right : BoundaryRef
  pub centerline : Option Polyline

-- a boundary, or a stop line
pub record LineString : Type 0 where
  pub num : ℕ
  pub geometry : Polyline

pub record Bulb : Type 0 where
  pub position : Point3
  pub color : ℕ
  pub arrow : ℕ

pub record Signal : Type 0 where
  pub num : ℕ
  pub kind : ℕ
  pub geometry : Polyline
  pub height : Option Float
  pub bulbs : List Bulb

pub record Crosswalk : Type 0 where
  pub num : ℕ
  pub left : Polyline
  pub right : Polyline
  pub outline : Option Polyline

-- the six kinds of rules and their fields
pub data RuleBody : Type 0 where
  -- signals, line
  light : List ℕ → Option ℕ → RuleBody
  -- sign type (1 is the stop sign), where it stands, line
  sign : ℕ → Option Polyline → Option ℕ → RuleBody
  -- line
  marking : ℕ → RuleBody
  -- lanes with priority, lanes that yield, lines
  right_of_way : List ℕ → List ℕ → List ℕ → RuleBody
  -- crosswalk, lines
  crossing : ℕ → List ℕ → RuleBody
  -- kind number
  other : ℕ → RuleBody

pub record Rule : Type 0 where
  pub num : ℕ
  pub body : RuleBody
  pub lanes : List ℕ
  -- the crosswalks that it controls
  pub controlled : List ℕ

pub record Map : Type 0 where
  pub next : ℕ
  pub lanes : List Lane
  pub boundaries : List LineString
  pub stop_lines : List LineString
  pub signals : List Signal
  pub crosswalks : List Crosswalk
  pub rules : List Rule

-- ---- the numbers of a signal's enums

abbrev pub signal_kind_number : SignalKind → ℕ
signal_kind_number Vehicle = 0
signal_kind_number Pedestrian = 1

abbrev pub bulb_color_number : BulbColor → ℕ
bulb_color_number Red = 0
bulb_color_number Yellow = 1
bulb_color_number Green = 2
bulb_color_number White = 3

abbrev pub bulb_arrow_number : BulbArrow → ℕ
bulb_arrow_number NoArrow = 0
bulb_arrow_number Up = 1
bulb_arrow_number Down = 2
bulb_arrow_number Left = 3
bulb_arrow_number Right = 4
bulb_arrow_number UpLeft = 5
bulb_arrow_number UpRight = 6
bulb_arrow_number DownLeft = 7
bulb_arrow_number DownRight = 8
