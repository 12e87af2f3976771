-- Where a stop line goes: each refusal, and the line.
use Prim.Native.Nat.{ℕ, ◌*◌, ◌/◌, ◌≤◌}
use mathlib.Core.Path.{◌≡◌, refl, sym, ap, ◌∙◌}
use mathlib.Core.Bool.{Bool, true, false, not}
use Rattle.std.specs.Prelude.{None, Some, Err, Ok, Result}
use mathlib.Core.List.{List, [], ◌∷◌}
use native.Mathlib.Omega.{arith}
use lib.Ieee.{Float, lt}
use lib.ListN.{length, get_or, take}
use borrow.Author.Tests.{not-true, not-false}
use Rattle.refusal.specs.Answer.{Answer, done, ◌>>=◌}
use Rattle.refusal.specs.declared.Refusal.{Refusal}
use Rattle.refusal.specs.declared.Refusal.TheVariants.{BadMeasure, NoPlace}
use Rattle.refusal.specs.declared.Measure.TheVariants as measure
use Rattle.refusal.specs.declared.PlaceFault.TheVariants as place_fault
use Rattle.rows.specs.Lists.{list_to}
use Rattle.geometry.specs.declared.Point3.{Point3}
use Rattle.geometry.specs.Double.{◌⊖◌, f0, epsilon, is_finite, absolute, clamp}
use Rattle.geometry.specs.Polyline.{Polyline, point_in, polyline_of, polyline_length}
use Rattle.polyline.proofs.Lines.{length-points}
use Rattle.centerline.specs.declared.Line.{Line}
use Rattle.centerline.specs.Line.{points_of}
use Rattle.map.specs.Record.{Map}
use Rattle.place.specs.declared.CrossSection.{CrossSection}
use Rattle.place.specs.declared.SectionNames.{SectionNames}
use Rattle.place.specs.declared.MaybeLine.{MaybeLine}
use Rattle.place.specs.declared.Placement.{Placement}
use Rattle.place.specs.declared.Placement.TheVariants.{AtLaneEnd, AtStation, Given}
use Rattle.place.specs.Place.{Placed, lane_centerline, cross_section, check_polyline, clamp_warning, place_at, place_as, place_stop_line}
use Rattle.place.specs.Steps.{section_on}
use Rattle.place.specs.Values.{Roomy, LineRead, section_answer}
use Rattle.place.proofs.LineLaws.{line_part_lem, count_few}
use Rattle.place.proofs.SectionLaws.{cross_section_is}
use Rattle.placing.specs.declared.PlacedLine.{PlacedLine}
use Rattle.placing.specs.Answers.{checked, placed_answer, RefusedWith, place_on, place_given}

-- ---- two points in an array

pub across_is : (a b : Point3) (rest : List Float) → points_of (record { coords = a.x ∷ a.y ∷ a.z ∷ b.x ∷ b.y ∷ b.z ∷ rest; count = 2 }) ≡ a ∷ b ∷ []
unfolding points_of list_to point_in
across_is a b rest = refl

pub across_room : (a b : Point3) (l : Line) → points_of l ≡ a ∷ b ∷ [] → length l.coords ≡ 192 → Roomy l
across_room a b l e w = record { few = count_few l (a ∷ b ∷ []) e (omega arith); long = w }

pub given_room : (cs : List Float) (l : Line) → length cs / 3 ≤ 64 → points_of l ≡ polyline_of cs → length l.coords ≡ 192 → Roomy l
given_room cs l h e w = record { few = count_few l (polyline_of cs) e (omega (arith, length-points cs)); long = w }

-- ---- at a station

module _ (m : Map) (center : Polyline) (lanes : List ℕ) (n : ℕ) (len station : Float) (b : Bool) (e : b ≡ is_finite station) where
  pub station_bad : (a : PlacedLine) → not b ≡ true → RefusedWith (BadMeasure measure.Station) a → placed_answer n a ≡ place_on m center lanes n len station
  unfolding place_on
  station_bad a t h = h.answer n ∙ rw (← e, not-true b t)

  module _ (t : not b ≡ false) (x : Float) (ex : x ≡ clamp station f0 len) (s : Result (CrossSection × SectionNames) Refusal) (es : section_answer s ≡ section_on m center x lanes) where
    at_section : place_on m center lanes n len station ≡ (section_answer s >>= λ y. done (record { points = y.points; warnings = clamp_warning n station x; ends = Some y.names }))
    unfolding place_on
    at_section = rw (← e, not-false b t, ← ex, ← es)

    pub section_refused : (r : Refusal) (a : PlacedLine) → s ≡ Err r → RefusedWith r a → placed_answer n a ≡ place_on m center lanes n len station
    section_refused r a q h = h.answer n ∙ sym (at_section ∙ rw q)

    pub section_placed : (y : CrossSection) (z : SectionNames) (l : Line) (d : Bool) → s ≡ Ok (y, z) → points_of l ≡ y.left ∷ y.right ∷ [] → d ≡ lt epsilon (absolute (x ⊖ station))
        → placed_answer n (record { checked = (Ok tt); line = l; clamped = d; ends = Some z }) ≡ place_on m center lanes n len station
    unfolding clamp_warning
    section_placed y z l d q h ed = sym (at_section ∙ rw (q, ← h, ← ed))

-- ---- given points

module _ (cs : List Float) (n : ℕ) (k : Result (Unit {0}) Refusal) (e : checked k ≡ check_polyline cs) where
  pub given_refused : (r : Refusal) (a : PlacedLine) → k ≡ Err r → RefusedWith r a → placed_answer n a ≡ place_given cs
  unfolding place_given
  given_refused r a q h = h.answer n ∙ rw (← e, q)

  pub given_placed : (l : Line) → k ≡ (Ok tt) → points_of l ≡ polyline_of cs → placed_answer n (record { checked = (Ok tt); line = l; clamped = false; ends = None }) ≡ place_given cs
  unfolding place_given
  given_placed l q h = rw (← e, q, h)

-- ---- a placement

module _ (m : Map) (center : Polyline) (lanes : List ℕ) (n : ℕ) (e : lane_centerline m n ≡ Some center) where
  on_center : (s : Float) → cross_section m n s lanes ≡ section_on m center s lanes
  on_center s = cross_section_is m n s lanes ∙ rw e

  at_center : (len station : Float) → place_at m lanes n len station ≡ place_on m center lanes n len station
  unfolding place_at place_on
  at_center len station = rw (on_center (clamp station f0 len))

  module _ (how : Placement) (given : List Float) (len : Float) (el : len ≡ polyline_length center) where
    pub as_given : (a : Answer Placed) → how ≡ Given → a ≡ place_given given → a ≡ place_as how given m lanes n (polyline_length center)
    unfolding place_as place_given
    as_given a q h = rw q h

    pub as_station : (s : Float) (a : Answer Placed) → how ≡ AtStation s → a ≡ place_on m center lanes n len s → a ≡ place_as how given m lanes n (polyline_length center)
    unfolding place_as
    as_station s a q h = rw (q, ← el) (h ∙ sym (at_center len s))

    module _ (o : Float) (q : how ≡ AtLaneEnd o) (b : Bool) (eb : b ≡ is_finite o) where
      pub as_infinite : (a : PlacedLine) → not b ≡ true → RefusedWith (BadMeasure measure.Offset) a → placed_answer n a ≡ place_as how given m lanes n (polyline_length center)
      unfolding place_as
      as_infinite a t h = h.answer n ∙ rw (q, ← eb, not-true b t)

      pub as_negative : (a : PlacedLine) → not b ≡ false → lt o f0 ≡ true → RefusedWith (BadMeasure measure.Offset) a → placed_answer n a ≡ place_as how given m lanes n (polyline_length center)
      unfolding place_as
      as_negative a t u h = h.answer n ∙ rw (q, ← eb, not-false b t, u)

      pub as_end : (a : Answer Placed) → not b ≡ false → lt o f0 ≡ false → a ≡ place_on m center lanes n len (len ⊖ o) → a ≡ place_as how given m lanes n (polyline_length center)
      unfolding place_as
      as_end a t u h = rw (q, ← eb, not-false b t, u, ← el) (h ∙ sym (at_center len (len ⊖ o)))

-- ---- with the centreline looked up

module _ (m : Map) (lanes : List ℕ) (how : Placement) (given : List Float) (l : MaybeLine) (read : LineRead (lane_centerline m (get_or lanes 0 0)) l) where
  pub no_center : (a : PlacedLine) → not l.there ≡ true → RefusedWith (NoPlace place_fault.NoLaneGeometry) a → placed_answer (get_or lanes 0 0) a ≡ place_stop_line m lanes how given
  unfolding place_stop_line
  no_center a t h =
      let f = not-true l.there t in
      let g : lane_centerline m (get_or lanes 0 0) ≡ None = sym read.answer ∙ rw f in
      h.answer (get_or lanes 0 0) ∙ rw g

  module _ (t : not l.there ≡ false) where
    pub center_there : lane_centerline m (get_or lanes 0 0) ≡ Some (polyline_of (take (l.line.count * 3) l.line.coords))
    center_there =
        let f = not-false l.there t in
        sym read.answer ∙ rw f (ap Some (sym (line_part_lem l.line read.room)))

    pub placed_is : (a : Answer Placed) → a ≡ place_as how given m lanes (get_or lanes 0 0) (polyline_length (polyline_of (take (l.line.count * 3) l.line.coords))) → a ≡ place_stop_line m lanes how given
    unfolding place_stop_line
    placed_is a h = rw center_there h
