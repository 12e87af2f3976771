-- A refusal is told by its number and its details.
use Rattle.std.specs.Prelude.{ℕ, List, ◌≡◌, cond, eqb, get_or}
use mathlib.Core.Path.{refl, sym, ap, ap₂, ◌∙◌}
use Rattle.refusal.specs.declared.RecordKind.{RecordKind}
use Rattle.refusal.specs.declared.RecordKind.TheVariants as record_kind
use Rattle.refusal.specs.declared.Listed.{Listed}
use Rattle.refusal.specs.declared.Listed.TheVariants as listed
use Rattle.refusal.specs.declared.Measure.{Measure}
use Rattle.refusal.specs.declared.Measure.TheVariants as measure
use Rattle.refusal.specs.declared.ShapeFault.{ShapeFault}
use Rattle.refusal.specs.declared.ShapeFault.TheVariants as shape
use Rattle.refusal.specs.declared.PlaceFault.{PlaceFault}
use Rattle.refusal.specs.declared.PlaceFault.TheVariants as place
use Rattle.refusal.specs.declared.GroupFault.{GroupFault}
use Rattle.refusal.specs.declared.GroupFault.TheVariants as group
use Rattle.refusal.specs.declared.LinkFault.{LinkFault}
use Rattle.refusal.specs.declared.LinkFault.TheVariants as link
use Rattle.refusal.specs.declared.Refusal.{Refusal}
use Rattle.refusal.specs.declared.Refusal.TheVariants.{NoLanes, Unknown, ListedTwice, BadMeasure, BadShape, NoPlace, WrongGroup, WrongLink, OffTheMap, Full, NumbersSpent, BadMap, BadSet, ShortBuffer}
use Rattle.refusal.specs.Refusal.{refusal_number, refusal_details, record_kind_number, list_number, measure_number, shape_detail, place_detail, group_detail, link_detail}

record_kind_by : ℕ → RecordKind
record_kind_by n = cond (eqb n 1) record_kind.Lane (cond (eqb n 5) record_kind.StopLine (cond (eqb n 6) record_kind.Signal (cond (eqb n 7) record_kind.Crosswalk record_kind.Rule)))

record_kind_by_lem : (x : RecordKind) → record_kind_by (record_kind_number x) ≡ x
unfolding record_kind_by
record_kind_by_lem record_kind.Lane = refl
record_kind_by_lem record_kind.StopLine = refl
record_kind_by_lem record_kind.Signal = refl
record_kind_by_lem record_kind.Crosswalk = refl
record_kind_by_lem record_kind.Rule = refl

listed_by : ℕ → Listed
listed_by n = cond (eqb n 1) listed.Lanes (cond (eqb n 2) listed.Crosswalks listed.Lines)

listed_by_lem : (x : Listed) → listed_by (list_number x) ≡ x
unfolding listed_by
listed_by_lem listed.Lanes = refl
listed_by_lem listed.Crosswalks = refl
listed_by_lem listed.Lines = refl

measure_by : ℕ → Measure
measure_by n = cond (eqb n 1) measure.Height (cond (eqb n 2) measure.Offset measure.Station)

measure_by_lem : (x : Measure) → measure_by (measure_number x) ≡ x
unfolding measure_by
measure_by_lem measure.Height = refl
measure_by_lem measure.Offset = refl
measure_by_lem measure.Station = refl

shape_by : ℕ → ShapeFault
shape_by n = cond (eqb n 1) shape.NotFinite shape.TooShort

shape_by_lem : (x : ShapeFault) → shape_by (shape_detail x) ≡ x
unfolding shape_by
shape_by_lem shape.NotFinite = refl
shape_by_lem shape.TooShort = refl

place_by : ℕ → PlaceFault
place_by n = cond (eqb n 1) place.NoLaneGeometry (cond (eqb n 2) place.Empty (cond (eqb n 3) place.DegenerateCenterline (cond (eqb n 4) place.MissingBoundary (cond (eqb n 5) place.NoSection place.EmptyStopLine))))

place_by_lem : (x : PlaceFault) → place_by (place_detail x) ≡ x
unfolding place_by
place_by_lem place.NoLaneGeometry = refl
place_by_lem place.Empty = refl
place_by_lem place.DegenerateCenterline = refl
place_by_lem place.MissingBoundary = refl
place_by_lem place.NoSection = refl
place_by_lem place.EmptyStopLine = refl

group_by : ℕ → GroupFault
group_by n = cond (eqb n 1) group.ControlsCrosswalks (cond (eqb n 2) group.NotALight (cond (eqb n 3) group.UsesAnotherLine group.HasALine))

group_by_lem : (x : GroupFault) → group_by (group_detail x) ≡ x
unfolding group_by
group_by_lem group.ControlsCrosswalks = refl
group_by_lem group.NotALight = refl
group_by_lem group.UsesAnotherLine = refl
group_by_lem group.HasALine = refl

link_by : ℕ → LinkFault
link_by n = cond (eqb n 1) link.NoSignals (cond (eqb n 2) link.MixedSignals (cond (eqb n 3) link.PedestriansWithLanes (cond (eqb n 4) link.VehiclesWithCrosswalks (cond (eqb n 5) link.SeveralLines (cond (eqb n 6) link.CrossingWithCrosswalks (cond (eqb n 7) link.MarkingWithOthers link.OtherRule))))))

link_by_lem : (x : LinkFault) → link_by (link_detail x) ≡ x
unfolding link_by
link_by_lem link.NoSignals = refl
link_by_lem link.MixedSignals = refl
link_by_lem link.PedestriansWithLanes = refl
link_by_lem link.VehiclesWithCrosswalks = refl
link_by_lem link.SeveralLines = refl
link_by_lem link.CrossingWithCrosswalks = refl
link_by_lem link.MarkingWithOthers = refl
link_by_lem link.OtherRule = refl

refusal_by : ℕ → List ℕ → Refusal
refusal_by n ds =
    cond (eqb n 1) NoLanes (cond (eqb n 2) (Unknown (record_kind_by (get_or ds 0 0)) (get_or ds 1 0)) (cond (eqb n 3) (ListedTwice (listed_by (get_or ds 0 0))) (cond (eqb n 4) (BadMeasure (measure_by (get_or ds 0 0)))
    (cond (eqb n 5) (BadShape (shape_by (get_or ds 0 0))) (cond (eqb n 6) (NoPlace (place_by (get_or ds 0 0))) (cond (eqb n 7) (WrongGroup (group_by (get_or ds 0 0))) (cond (eqb n 8) (WrongLink (link_by (get_or ds 0 0)))
    (cond (eqb n 9) OffTheMap (cond (eqb n 10) Full (cond (eqb n 11) NumbersSpent (cond (eqb n 12) BadMap (cond (eqb n 13) BadSet ShortBuffer))))))))))))

refusal_by_lem : (r : Refusal) → refusal_by (refusal_number r) (refusal_details r) ≡ r
unfolding refusal_by
refusal_by_lem NoLanes = refl
refusal_by_lem (Unknown kind number) = ap (λ (k : RecordKind). Unknown k number) (record_kind_by_lem kind)
refusal_by_lem (ListedTwice list) = ap ListedTwice (listed_by_lem list)
refusal_by_lem (BadMeasure measure) = ap BadMeasure (measure_by_lem measure)
refusal_by_lem (BadShape fault) = ap BadShape (shape_by_lem fault)
refusal_by_lem (NoPlace fault) = ap NoPlace (place_by_lem fault)
refusal_by_lem (WrongGroup fault) = ap WrongGroup (group_by_lem fault)
refusal_by_lem (WrongLink fault) = ap WrongLink (link_by_lem fault)
refusal_by_lem OffTheMap = refl
refusal_by_lem Full = refl
refusal_by_lem NumbersSpent = refl
refusal_by_lem BadMap = refl
refusal_by_lem BadSet = refl
refusal_by_lem ShortBuffer = refl

pub same_refusal : (r u : Refusal) → refusal_number r ≡ refusal_number u → refusal_details r ≡ refusal_details u → r ≡ u
same_refusal r u n ds = sym (refusal_by_lem r) ∙ ap₂ refusal_by n ds ∙ refusal_by_lem u
