-- Where the signal goes: each refusal, and the housing.
use Prim.Native.Nat.{◌*◌, ◌/◌, ◌≤◌}
use mathlib.Core.Path.{◌≡◌, ap, ◌∙◌}
use mathlib.Core.Bool.{Bool, true, false, not, cond}
use Rattle.std.specs.Prelude.{None, Some, Option, Ok}
use mathlib.Core.List.{List, [], ◌∷◌}
use lib.Ieee.{Float}
use lib.ListN.{length, take}
use borrow.Author.Tests.{not-true, not-false}
use Rattle.refusal.specs.Answer.{refused_as}
use Rattle.refusal.specs.declared.Refusal.TheVariants.{NoPlace}
use Rattle.refusal.specs.declared.PlaceFault.TheVariants as place_fault
use Rattle.geometry.specs.declared.Point2.{Point2}
use Rattle.geometry.specs.declared.Point3.{Point3}
use Rattle.geometry.specs.declared.NearestPoint.{NearestPoint}
use Rattle.geometry.specs.Double.{f0, half}
use Rattle.geometry.specs.Point.{xy}
use Rattle.geometry.specs.Polyline.{Polyline, polyline_of, point_at_fraction, direction_at, nearest_point}
use Rattle.centerline.specs.declared.Line.{Line}
use Rattle.centerline.specs.Line.{points_of}
use Rattle.place.specs.declared.CrossSection.{CrossSection}
use Rattle.place.specs.declared.MaybeLine.{MaybeLine}
use Rattle.place.specs.Values.{maybe_line, Roomy}
use Rattle.place.proofs.LineLaws.{line_part_lem}
use Rattle.placing.proofs.PlaceLaws.{across_room, given_room}
use Rattle.edit.specs.Light.{housing_at, station_of}
use Rattle.lighting.specs.declared.Housing.{Housing}
use Rattle.lighting.specs.Housing.{HousingRead, synthesized_on, housing_on}

-- what is read from a part of a line's coordinates is read from its points
pub of_line : {A : Type 0} (g : Polyline → A) (l : Line) (x : A) → Roomy l → x ≡ g (polyline_of (take (l.count * 3) l.coords)) → x ≡ g (points_of l)
of_line g l x h e = e ∙ ap g (line_part_lem l h)

module _ (n : Option NearestPoint) where
  pub station_none : n ≡ None → f0 ≡ station_of n
  unfolding station_of
  station_none q = rw q

  pub station_is : (p : NearestPoint) → n ≡ Some p → p.station ≡ station_of n
  unfolding station_of
  station_is p q = rw q

pub near_is : (l : Line) (p : Point2) (n : Option NearestPoint) (s : Float) (r : Option Point2) → n ≡ nearest_point (points_of l) p → s ≡ station_of n
    → r ≡ direction_at (points_of l) s → r ≡ direction_at (points_of l) (station_of (nearest_point (points_of l) p))
near_is l p n s r en es er = er ∙ ap (direction_at (points_of l)) (es ∙ ap station_of en)

-- ---- made up

module _ (center : MaybeLine) (anchor : Line) (m : Option Point3) (em : m ≡ point_at_fraction (points_of anchor) half) where
  pub no_middle : (h : Housing) → m ≡ None → HousingRead (refused_as (NoPlace place_fault.EmptyStopLine)) h → HousingRead (housing_on (maybe_line center) (points_of anchor) None) h
  unfolding housing_on synthesized_on
  no_middle h q r = record { answer = r.answer ∙ rw (← em, q); room = r.room }

  module _ (mid : Point3) (q : m ≡ Some mid) where
    pub center_missing : (h : Housing) → not center.there ≡ true → HousingRead (refused_as (NoPlace place_fault.NoLaneGeometry)) h → HousingRead (housing_on (maybe_line center) (points_of anchor) None) h
    unfolding housing_on synthesized_on
    center_missing h t r = let f = not-true center.there t in record { answer = r.answer ∙ rw (← em, q, f); room = r.room }

    module _ (t : not center.there ≡ false) (p : Point2) (ep : p ≡ xy mid) (d : Option Point2)
        (ed : d ≡ direction_at (points_of center.line) (station_of (nearest_point (points_of center.line) p))) where
      pub no_direction : (h : Housing) → d ≡ None → HousingRead (refused_as (NoPlace place_fault.DegenerateCenterline)) h → HousingRead (housing_on (maybe_line center) (points_of anchor) None) h
      unfolding housing_on synthesized_on
      no_direction h n r = let f = not-false center.there t in record { answer = r.answer ∙ rw (← em, q, f, ← ep, ← ed, n); room = r.room }

      pub made_up : (dir : Point2) (s : CrossSection) (l : Line) → d ≡ Some dir → s.left ∷ s.right ∷ [] ≡ housing_at mid dir → points_of l ≡ s.left ∷ s.right ∷ [] → length l.coords ≡ 192
          → HousingRead (housing_on (maybe_line center) (points_of anchor) None) (record { checked = (Ok tt); line = l; synthesized = true })
      unfolding housing_on synthesized_on
      made_up dir s l n es el w =
          let f = not-false center.there t in
          record { answer = rw (← em, q, f, ← ep, ← ed, n, ← es, ← el); room = across_room s.left s.right l el w }

-- ---- as given

module _ (center : MaybeLine) (anchor : Line) (given : Bool) (cs : List Float) where
  pub as_given : (l : Line) → given ≡ true → length cs / 3 ≤ 64 → points_of l ≡ polyline_of cs → length l.coords ≡ 192
      → HousingRead (housing_on (maybe_line center) (points_of anchor) (cond given (Some cs) None)) (record { checked = (Ok tt); line = l; synthesized = false })
  unfolding housing_on
  as_given l t h e w = record { answer = rw (t, ← e); room = given_room cs l h e w }

  pub not_given : (h : Housing) → given ≡ false → HousingRead (housing_on (maybe_line center) (points_of anchor) None) h
      → HousingRead (housing_on (maybe_line center) (points_of anchor) (cond given (Some cs) None)) h
  not_given h t r = record { answer = rw t r.answer; room = r.room }
