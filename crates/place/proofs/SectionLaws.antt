-- The cross-section: its ends, and the walk over lanes and their sides.
use Prim.Native.Nat.{ℕ, suc, ◌+◌, ◌*◌, ◌≤◌, ◌<◌}
use mathlib.Core.Path.{◌≡◌, refl, sym, ap, ◌∙◌}
use mathlib.Core.Bool.{Bool, true, false, not, cond}
use mathlib.Core.List.{List, [], ◌∷◌}
use native.Mathlib.Numerals.{add-one}
use native.Mathlib.Omega.{arith}
use lib.Ieee.{Float}
use lib.ListN.{length, get_or, drop, take, drop_of_length-le}
use lib.Seq.{drop-cons}
use borrow.Author.Tests.{not-true, not-false}
use Rattle.refusal.specs.Answer.{Answer, refused, done, ◌>>=◌, present}
use Rattle.geometry.specs.declared.Point2.{Point2}
use Rattle.geometry.specs.declared.Point3.{Point3}
use Rattle.geometry.specs.declared.NearestPoint.{NearestPoint}
use Rattle.geometry.specs.Point.{xy}
use Rattle.geometry.specs.Polyline.{Polyline, polyline_of, nearest_point}
use Rattle.centerline.specs.declared.Line.{Line}
use Rattle.centerline.specs.Line.{points_of}
use Rattle.store.specs.Layout.{row_of, coords_of}
use Rattle.map.specs.Access.{Found}
use Rattle.std.specs.Prelude.{Some, None, Option}
use Rattle.map.specs.declared.LaneRow.{LaneRow}
use Rattle.map.specs.Record.{BoundaryRef, Lane, Map}
use Rattle.map.specs.Lookup.{lane_of, oriented}
use Rattle.map.specs.Tables.{lane_in, map_of}
use Rattle.map.specs.Access.{lookup, LaneRead, lane_of_row}
use Rattle.map.proofs.ReadLaws.{found_record, none_record, lane_number}
use Rattle.place.specs.declared.LaneSide.TheVariants.{Left, Right}
use Rattle.place.specs.declared.EndName.{EndName}
use Rattle.place.specs.declared.SideNearest.{SideNearest}
use Rattle.place.specs.declared.SectionEnds.{SectionEnds}
use Rattle.place.specs.Place.{Ends, widened, with_side, with_lane, with_lanes, cross_section, lane_centerline}
use Rattle.place.specs.Steps.{no_ends, NamedSide, with_sides, section_on}
use Rattle.place.specs.Values.{Roomy, side_of, sides_of, no_side, side_nearest, nearest_in, ends_of, walked}
use Rattle.place.proofs.LineLaws.{line_part_lem}

-- ---- a line

pub nearest_is : (l : Line) (p : Point2) (o : Option NearestPoint) → Roomy l → o ≡ nearest_point (polyline_of (take (l.count * 3) l.coords)) p → o ≡ nearest_point (points_of l) p
nearest_is l p o h e = e ∙ ap (λ (xs : Polyline). nearest_point xs p) (line_part_lem l h)

-- ---- sides

none_some : {x : Option NearestPoint} → ◌≡◌ {A = Option (Option NearestPoint)} None (Some x) → ⊥
none_some e = let z : ◌≡◌ {A = ℕ} 0 1 = cc in omega arith

some_same : {x y : Option NearestPoint} → Some x ≡ Some y → x ≡ y
some_same e = cc

module _ (m : Map) (p : Point3) (normal : Point2) (x : EndName) (s : BoundaryRef) (es : Ends) where
  side_none : oriented m s ≡ None → with_side m p normal x s es ≡ refused 6 (4 ∷ [])
  unfolding with_side
  side_none q = rw q

  side_some : (b : Polyline) → oriented m s ≡ Some b → with_side m p normal x s es ≡ done (widened p normal x (nearest_point b (xy p)) es)
  unfolding with_side
  side_some b q = rw q

-- es are the ends after k sides of a lane
pub record Siding (m : Map) (p : Point3) (normal : Point2) (lane : ℕ) (row : LaneRow) (first es : Ends) (k : ℕ) : Type 0 where
  pub within : k ≤ 2
  pub goes : with_sides m p normal lane (sides_of row) first ≡ with_sides m p normal lane (drop k (sides_of row)) es

module _ (m : Map) (p : Point3) (normal : Point2) (lane : ℕ) (row : LaneRow) (first es : Ends) (k : ℕ) (inv : Siding m p normal lane row first es k) where
  pub siding_end : 2 ≤ k → done es ≡ with_sides m p normal lane (sides_of row) first
  unfolding with_sides
  siding_end h = sym (inv.goes ∙ rw (drop_of_length-le (sides_of row) h))

  module _ (h : k < 2) (s : NamedSide) (e : s ≡ get_or (sides_of row) k no_side) (q : Point2) (eq : q ≡ xy p)
      (b : SideNearest) (read : side_nearest b ≡ nearest_in (oriented m s.boundary) q) where
    step : with_sides m p normal lane (sides_of row) first ≡ (with_side m p normal (record { lane = lane; side = s.side }) s.boundary es >>= λ one. with_sides m p normal lane (drop (suc k) (sides_of row)) one)
    unfolding with_sides
    step = inv.goes ∙ rw (drop-cons (sides_of row) k no_side h, ← e)

    missing : (o : Option Polyline) → oriented m s.boundary ≡ o → b.there ≡ false → side_nearest b ≡ nearest_in o q → with_side m p normal (record { lane = lane; side = s.side }) s.boundary es ≡ refused 6 (4 ∷ [])
    missing None g f w = side_none m p normal (record { lane = lane; side = s.side }) s.boundary es g
    missing (Some l) g f w = absurd (none_some (sym (ap (λ (t : Bool). cond t (Some b.nearest) None) f) ∙ w))

    pub siding_missing : not b.there ≡ true → refused 6 (4 ∷ []) ≡ with_sides m p normal lane (sides_of row) first
    siding_missing t = sym (step ∙ rw (missing (oriented m s.boundary) refl (not-true b.there t) read))

    one : (o : Option Polyline) → oriented m s.boundary ≡ o → b.there ≡ true → side_nearest b ≡ nearest_in o q
        → with_side m p normal (record { lane = lane; side = s.side }) s.boundary es ≡ done (widened p normal (record { lane = lane; side = s.side }) b.nearest es)
    one None g f w = absurd (none_some (sym w ∙ ap (λ (t : Bool). cond t (Some b.nearest) None) f))
    one (Some l) g f w =
        side_some m p normal (record { lane = lane; side = s.side }) s.boundary es l g
        ∙ ap (λ (o : Option NearestPoint). done (widened p normal (record { lane = lane; side = s.side }) o es)) (sym (some_same (sym (ap (λ (t : Bool). cond t (Some b.nearest) None) f) ∙ w) ∙ ap (nearest_point l) eq))

    next : (o : Option NearestPoint) → not b.there ≡ false → b.nearest ≡ o → Siding m p normal lane row first (widened p normal (record { lane = lane; side = s.side }) o es) (k + 1)
    next o t w =
        record {
          within = omega arith;
          goes =
              step ∙ rw (one (oriented m s.boundary) refl (not-false b.there t) read, w)
              (ap (λ (j : ℕ). with_sides m p normal lane (drop j (sides_of row)) (widened p normal (record { lane = lane; side = s.side }) o es)) (sym (add-one k)));
        }

    module _ (t : not b.there ≡ false) where
      pub siding_past : b.nearest ≡ None → Siding m p normal lane row first es (k + 1)
      unfolding widened
      siding_past z = next None t z

      pub siding_taken : (c : NearestPoint) (es' : Ends) → b.nearest ≡ Some c → es' ≡ widened p normal (record { lane = lane; side = s.side }) (Some c) es → Siding m p normal lane row first es' (k + 1)
      siding_taken c es' z y = rw y (next (Some c) t z)

-- ---- lanes

again : {A : Type 0} (a : Answer A) → (a >>= λ x. done x) ≡ a
again (refused n ds) = refl
again (done x) = refl

module _ (ws : List ℕ) (cs : List Float) (p : Point3) (normal : Point2) (x : ℕ) (es : Ends) (r : Found) (e : r ≡ lookup ws 0 x) where
  pub lane_missing : r ≡ None → refused 6 (4 ∷ []) ≡ with_lane (map_of ws cs) p normal x es
  unfolding with_lane lane_of map_of
  lane_missing f = rw (none_record (λ (l : Lane). l.num) lane_in lane_number ws cs 0 (omega arith) x (sym e ∙ f))

  module _ (i : ℕ) (f : r ≡ Some i) (row : LaneRow) (read : LaneRead (row_of ws 0 i) row) where
    found : lane_of (map_of ws cs) x ≡ Some (lane_of_row row (coords_of cs 0 i))
    unfolding lane_of map_of
    found = found_record (λ (l : Lane). l.num) lane_in lane_number ws cs 0 (omega arith) x i (sym e ∙ f) ∙ ap Some (sym (read.lane (coords_of cs 0 i)))

    pub lane_sides : (a : Answer Ends) → a ≡ with_sides (map_of ws cs) p normal x (sides_of row) es → a ≡ with_lane (map_of ws cs) p normal x es
    unfolding with_lane with_sides lane_of_row
    lane_sides a h = h ∙ sym (rw found (both (with_side (map_of ws cs) p normal (record { lane = x; side = Left }) (side_of row.left row.left_reversed) es)))
      where
        both : (b : Answer Ends)
            → (b >>= λ one. with_side (map_of ws cs) p normal (record { lane = x; side = Right }) (side_of row.right row.right_reversed) one)
            ≡ (b >>= λ one. (with_side (map_of ws cs) p normal (record { lane = x; side = Right }) (side_of row.right row.right_reversed) one >>= λ two. done two))
        both (refused n ds) = refl
        both (done one) = sym (again (with_side (map_of ws cs) p normal (record { lane = x; side = Right }) (side_of row.right row.right_reversed) one))

-- es are the ends after i lanes
pub record Laning (m : Map) (p : Point3) (normal : Point2) (lanes : List ℕ) (es : Ends) (i : ℕ) : Type 0 where
  pub within : i ≤ length lanes
  pub goes : with_lanes m p normal lanes no_ends ≡ with_lanes m p normal (drop i lanes) es

module _ (m : Map) (p : Point3) (normal : Point2) (lanes : List ℕ) (es : Ends) (i : ℕ) (inv : Laning m p normal lanes es i) where
  pub laning_end : length lanes ≤ i → done es ≡ with_lanes m p normal lanes no_ends
  unfolding with_lanes
  laning_end h = sym (inv.goes ∙ rw (drop_of_length-le lanes h))

  module _ (h : i < length lanes) (r : Option SectionEnds) (e : walked r ≡ with_lane m p normal (get_or lanes i 0) es) where
    lane_step : with_lanes m p normal lanes no_ends ≡ (walked r >>= λ one. with_lanes m p normal (drop (suc i) lanes) one)
    unfolding with_lanes
    lane_step = inv.goes ∙ rw (drop-cons lanes i 0 h, ← e)

    pub laning_missing : r ≡ None → refused 6 (4 ∷ []) ≡ with_lanes m p normal lanes no_ends
    laning_missing q = sym (lane_step ∙ rw q)

    pub laning_next : (x : SectionEnds) → r ≡ Some x → Laning m p normal lanes (ends_of x) (i + 1)
    laning_next x q =
        record {
          within = omega arith;
          goes = lane_step ∙ rw q (ap (λ (j : ℕ). with_lanes m p normal (drop j lanes) (ends_of x)) (sym (add-one i)));
        }

-- ---- the section

-- a cross-section is that of the centreline
pub cross_section_is : (m : Map) (n : ℕ) (s : Float) (lanes : List ℕ) → cross_section m n s lanes ≡ (present (lane_centerline m n) 6 (1 ∷ []) >>= λ c. section_on m c s lanes)
unfolding cross_section section_on
cross_section_is m n s lanes = refl
