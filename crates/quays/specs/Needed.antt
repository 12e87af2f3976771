-- Each item that two maps agree on is needed: without it two opened maps that agree on all else may answer a stop line differently.
use Rattle.std.specs.Prelude.{ℕ, ◌≡◌, true, false, List, [], ◌∷◌, Float}
use Rattle.geometry.specs.Double.{f0}
use Rattle.map.specs.Record.{Map}
use Rattle.map.specs.MapFile.{is_map}
use Rattle.changes.specs.Running.{State, opening}
use Rattle.place.specs.declared.Placement.TheVariants.{AtLaneEnd}
use Rattle.edit.specs.declared.StopRule.TheVariants.{StopSign}
use Rattle.edit.specs.StopLine.{NewStopLine, add_stop_line}
use Rattle.run.specs.Law.{passes}
use Rattle.quays.specs.Quays.{same_lanes, same_boundaries, same_next, same_lines, same_rules, same_points, SameQuay, SameRoom, SameAnswer, Alike}

pub data Item : Type 0 where
  lanes : Item
  boundaries : Item
  next : Item
  lines : Item
  rules : Item
  used : Item

-- agreed on all but that item
abbrev pub AllBut : Item → List ℕ → Map → Map → Type 0
AllBut lanes ls m n = same_boundaries ls m n × SameRoom m n
AllBut boundaries ls m n = same_lanes ls m n × SameRoom m n
AllBut next ls m n = SameQuay ls m n × same_lines m n × same_rules m n × same_points m n
AllBut lines ls m n = SameQuay ls m n × same_next m n × same_rules m n × same_points m n
AllBut rules ls m n = SameQuay ls m n × same_next m n × same_lines m n × same_points m n
AllBut used ls m n = SameQuay ls m n × same_next m n × same_lines m n × same_rules m n

-- a stop sign so far before the end of lane 3
abbrev pub sign_before_end : Float → NewStopLine
sign_before_end offset = record { lanes = 3 ∷ []; placement = AtLaneEnd offset; points = []; rule = StopSign }

abbrev pub sign_at_end : NewStopLine
sign_at_end = sign_before_end f0

pub record Needed (i : Item) : Type 0 where
  pub first : Map
  pub second : Map
  pub opened : (is_map first ≡ true) × (is_map second ≡ true)
  pub agreed : AllBut i sign_at_end.lanes first second
  pub apart : Alike sign_at_end (opening first) (opening second) → ⊥

-- the specification too: two for the same lane, on one opened map
pub record SpecificationNeeded : Type 0 where
  pub map : Map
  pub opened : is_map map ≡ true
  pub first : NewStopLine
  pub second : NewStopLine
  pub same : first.lanes ≡ second.lanes
  pub apart : SameAnswer (add_stop_line first (opening map)) (add_stop_line second (opening map)) → ⊥

-- and the fold must be the map's own: on one map, with a fold that passes and one that does not
pub record FoldNeeded : Type 0 where
  pub first : State
  pub second : State
  pub same : first.map ≡ second.map
  pub passing : passes first ≡ true
  pub failing : passes second ≡ false
  pub apart : Alike sign_at_end first second → ⊥
