-- The number and the details of each refusal.
use Rattle.std.specs.Prelude.{ℕ, List, [], ◌∷◌}
use Rattle.refusal.specs.declared.RecordKind.{RecordKind}
use Rattle.refusal.specs.declared.RecordKind.TheVariants as record_kind
use Rattle.refusal.specs.declared.Listed.{Listed}
use Rattle.refusal.specs.declared.Listed.TheVariants as listed
use Rattle.refusal.specs.declared.Measure.{Measure}
use Rattle.refusal.specs.declared.Measure.TheVariants as measure
use Rattle.refusal.specs.declared.ShapeFault.{ShapeFault}
use Rattle.refusal.specs.declared.ShapeFault.TheVariants as shape
use Rattle.refusal.specs.declared.PlaceFault.{PlaceFault}
use Rattle.refusal.specs.declared.PlaceFault.TheVariants as place
use Rattle.refusal.specs.declared.GroupFault.{GroupFault}
use Rattle.refusal.specs.declared.GroupFault.TheVariants as group
use Rattle.refusal.specs.declared.LinkFault.{LinkFault}
use Rattle.refusal.specs.declared.LinkFault.TheVariants as link
use Rattle.refusal.specs.declared.Refusal.{Refusal}
use Rattle.refusal.specs.declared.Refusal.TheVariants.{NoLanes, Unknown, ListedTwice, BadMeasure, BadShape, NoPlace, WrongGroup, WrongLink, OffTheMap, Full, NumbersSpent, BadMap, BadSet, ShortBuffer}

abbrev pub refusal_number : Refusal → ℕ
refusal_number NoLanes = 1
refusal_number (Unknown kind number) = 2
refusal_number (ListedTwice list) = 3
refusal_number (BadMeasure detail) = 4
refusal_number (BadShape detail) = 5
refusal_number (NoPlace detail) = 6
refusal_number (WrongGroup detail) = 7
refusal_number (WrongLink detail) = 8
refusal_number OffTheMap = 9
refusal_number Full = 10
refusal_number NumbersSpent = 11
refusal_number BadMap = 12
refusal_number BadSet = 13
refusal_number ShortBuffer = 14

abbrev pub record_kind_number : RecordKind → ℕ
record_kind_number record_kind.Lane = 1
record_kind_number record_kind.StopLine = 5
record_kind_number record_kind.Signal = 6
record_kind_number record_kind.Crosswalk = 7
record_kind_number record_kind.Rule = 8

abbrev pub list_number : Listed → ℕ
list_number listed.Lanes = 1
list_number listed.Crosswalks = 2
list_number listed.Lines = 3

abbrev pub measure_number : Measure → ℕ
measure_number measure.Height = 1
measure_number measure.Offset = 2
measure_number measure.Station = 3

abbrev pub shape_detail : ShapeFault → ℕ
shape_detail shape.NotFinite = 1
shape_detail shape.TooShort = 2

abbrev pub place_detail : PlaceFault → ℕ
place_detail place.NoLaneGeometry = 1
place_detail place.Empty = 2
place_detail place.DegenerateCenterline = 3
place_detail place.MissingBoundary = 4
place_detail place.NoSection = 5
place_detail place.EmptyStopLine = 6

abbrev pub group_detail : GroupFault → ℕ
group_detail group.ControlsCrosswalks = 1
group_detail group.NotALight = 2
group_detail group.UsesAnotherLine = 3
group_detail group.HasALine = 4

abbrev pub link_detail : LinkFault → ℕ
link_detail link.NoSignals = 1
link_detail link.MixedSignals = 2
link_detail link.PedestriansWithLanes = 3
link_detail link.VehiclesWithCrosswalks = 4
link_detail link.SeveralLines = 5
link_detail link.CrossingWithCrosswalks = 6
link_detail link.MarkingWithOthers = 7
link_detail link.OtherRule = 8

abbrev pub refusal_details : Refusal → List ℕ
refusal_details NoLanes = []
refusal_details (Unknown kind number) = record_kind_number kind ∷ number ∷ []
refusal_details (ListedTwice list) = list_number list ∷ []
refusal_details (BadMeasure measure) = measure_number measure ∷ []
refusal_details (BadShape fault) = shape_detail fault ∷ []
refusal_details (NoPlace fault) = place_detail fault ∷ []
refusal_details (WrongGroup fault) = group_detail fault ∷ []
refusal_details (WrongLink fault) = link_detail fault ∷ []
refusal_details OffTheMap = []
refusal_details Full = []
refusal_details NumbersSpent = []
refusal_details BadMap = []
refusal_details BadSet = []
refusal_details ShortBuffer = []
