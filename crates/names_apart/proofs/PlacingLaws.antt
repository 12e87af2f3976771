-- The names apart, a cross-section and a placement are what they were.
use Prim.Native.Nat.{ℕ}
use mathlib.Core.Path.{◌≡◌, refl, ap, ◌∙◌}
use mathlib.Core.Bool.{Bool, true, false, not, ◌||◌, cond}
use Rattle.std.specs.Prelude.{Option, None, Some}
use mathlib.Core.List.{List, [], ◌∷◌}
use lib.ListN.{get_or}
use lib.Ieee.{Float, lt}
use Rattle.refusal.specs.Answer.{Answer, refused, done, ◌>>=◌, ◌>>◌, refuse_when, present}
use Rattle.geometry.specs.declared.Point2.{Point2}
use Rattle.geometry.specs.declared.Point3.{Point3}
use Rattle.geometry.specs.declared.NearestPoint.{NearestPoint}
use Rattle.geometry.specs.Double.{◌⊖◌, f0, milli, is_finite, clamp}
use Rattle.geometry.specs.Point.{xy, perp}
use Rattle.geometry.specs.Polyline.{Polyline, polyline_length, point_at, direction_at, nearest_point}
use Rattle.map.specs.Record.{BoundaryRef, Map}
use Rattle.map.specs.Lookup.{lane_of, oriented}
use Rattle.place.specs.declared.Placement.{Placement}
use Rattle.place.specs.declared.Placement.TheVariants.{AtLaneEnd, AtStation, Given}
use Rattle.place.specs.declared.LaneSide.TheVariants.{Left, Right}
use Rattle.place.specs.declared.EndName.{EndName}
use Rattle.place.specs.Place.{End, Ends, Section, outer, widened, with_side, with_lane, with_lanes, section, cross_section, lane_centerline, check_polyline, place_at, place_as, place_stop_line}
use Rattle.place.specs.Steps.{no_ends}
use Rattle.names_apart.specs.Placing as old
use Rattle.names_apart.specs.Apart.{with_result, bare}

-- ---- step by step

module _ {A B C D : Type 0} (f : A → C) (g : B → D) where
  pub through : (x : Answer A) (k : A → Answer B) (h : C → Answer D) → ((a : A) → with_result g (k a) ≡ h (f a)) → with_result g (x >>= k) ≡ (with_result f x >>= h)
  through (refused n ds) k h e = refl
  through (done a) k h e = e a

module _ {A B D : Type 0} (g : B → D) where
  pub past : (x : Answer A) (k : A → Answer B) (h : A → Answer D) → ((a : A) → with_result g (k a) ≡ h a) → with_result g (x >>= k) ≡ (x >>= h)
  past (refused n ds) k h e = refl
  past (done a) k h e = e a

  pub behind : (x : Answer A) (k : Answer B) (h : Answer D) → with_result g k ≡ h → with_result g (x >> k) ≡ (x >> h)
  behind (refused n ds) k h e = refl
  behind (done a) k h e = e

-- ---- ends without their names

abbrev end : End → old.End
end e = record { lateral = e.lateral; point = e.point }

abbrev maybe_end_lem : Option End → Option old.End
maybe_end_lem None = None
maybe_end_lem (Some e) = Some (end e)

abbrev ends : Ends → old.Ends
ends es = record { left = maybe_end_lem es.left; right = maybe_end_lem es.right }

outer_kept : (beats : Float → Float → Bool) (o : Option End) (e : End) → maybe_end_lem (outer beats o e) ≡ old.outer beats (maybe_end_lem o) (end e)
unfolding outer old.outer
outer_kept beats None e = refl
outer_kept beats (Some b) e = go (beats e.lateral b.lateral)
  where
    go : (t : Bool) → Some (end (cond t e b)) ≡ Some (cond t (end e) (end b))
    go true = refl
    go false = refl

module _ (m : Map) (p : Point3) (normal : Point2) where
  widened_kept : (x : EndName) (o : Option NearestPoint) (es : Ends) → ends (widened p normal x o es) ≡ old.widened p normal o (ends es)
  unfolding widened old.widened
  widened_kept x None es = refl
  widened_kept x (Some n) es = rw (outer_kept (λ a b. lt b a) es.left, outer_kept lt es.right)

  side_kept : (x : EndName) (s : BoundaryRef) (es : Ends) → with_result ends (with_side m p normal x s es) ≡ old.with_side m p normal s (ends es)
  unfolding with_side old.with_side
  side_kept x s es = past ends (present (oriented m s) 6 (4 ∷ [])) _ _ (λ b. ap done (widened_kept x (nearest_point b (xy p)) es))

  lane_kept : (n : ℕ) (es : Ends) → with_result ends (with_lane m p normal n es) ≡ old.with_lane m p normal n (ends es)
  unfolding with_lane old.with_lane
  lane_kept n es =
      past ends (present (lane_of m n) 6 (4 ∷ [])) _ _ (λ l.
      through ends ends (with_side m p normal (record { lane = n; side = Left }) l.left es) _ (λ one. old.with_side m p normal l.right one) (λ one. side_kept (record { lane = n; side = Right }) l.right one)
      ∙ ap (λ (a : Answer old.Ends). a >>= λ one. old.with_side m p normal l.right one) (side_kept (record { lane = n; side = Left }) l.left es))

  lanes_kept : (ns : List ℕ) (es : Ends) → with_result ends (with_lanes m p normal ns es) ≡ old.with_lanes m p normal ns (ends es)
  unfolding with_lanes old.with_lanes
  lanes_kept [] es = refl
  lanes_kept (n ∷ ns) es =
      through ends ends (with_lane m p normal n es) _ (λ one. old.with_lanes m p normal ns one) (λ one. lanes_kept ns one)
      ∙ ap (λ (a : Answer old.Ends). a >>= λ one. old.with_lanes m p normal ns one) (lane_kept n es)

-- ---- the section and the placement

section_kept : (l r : Option End) → with_result (λ x. x.points) (section l r) ≡ old.section (maybe_end_lem l) (maybe_end_lem r)
unfolding section old.section
section_kept None r = refl
section_kept (Some l) None = refl
section_kept (Some l) (Some r) = go (lt milli (l.lateral ⊖ r.lateral))
  where
    go : (t : Bool) → with_result (λ (x : Section). x.points) (cond t (done (record { points = l.point ∷ r.point ∷ []; names = record { left = l.name; right = r.name } })) (refused 6 (5 ∷ [])))
        ≡ cond t (done (l.point ∷ r.point ∷ [])) (refused 6 (5 ∷ []))
    go true = refl
    go false = refl

pub section_points_kept : (m : Map) (reference : ℕ) (station : Float) (lanes : List ℕ) → with_result (λ x. x.points) (cross_section m reference station lanes) ≡ old.cross_section m reference station lanes
unfolding cross_section old.cross_section
section_points_kept m reference station lanes =
    past _ (present (lane_centerline m reference) 6 (1 ∷ [])) _ _ (λ c.
    past _ (present (point_at c station) 6 (2 ∷ [])) _ _ (λ p.
    past _ (present (direction_at c station) 6 (3 ∷ [])) _ _ (λ d.
    through ends _ (with_lanes m p (perp d) lanes no_ends) _ (λ es. old.section es.left es.right) (λ es. section_kept es.left es.right)
    ∙ ap (λ (a : Answer old.Ends). a >>= λ es. old.section es.left es.right) (lanes_kept m p (perp d) lanes no_ends))))

module _ (m : Map) (lanes : List ℕ) where
  at_kept : (reference : ℕ) (len station : Float) → with_result bare (place_at m lanes reference len station) ≡ old.place_at m lanes reference len station
  unfolding place_at old.place_at
  at_kept reference len station =
      behind bare (refuse_when (not (is_finite station)) 4 (3 ∷ [])) _ _
      (through _ bare (cross_section m reference (clamp station f0 len) lanes) _ _ (λ x. refl)
      ∙ ap (λ (a : Answer Polyline). a >>= λ xs. done (record { points = xs; warnings = Rattle.place.specs.Place.clamp_warning reference station (clamp station f0 len) }))
      (section_points_kept m reference (clamp station f0 len) lanes))

  as_kept : (how : Placement) (cs : List Float) (reference : ℕ) (len : Float) → with_result bare (place_as how cs m lanes reference len) ≡ old.place_as how cs m lanes reference len
  unfolding place_as old.place_as
  as_kept Given cs reference len = behind bare (check_polyline cs) _ _ refl
  as_kept (AtLaneEnd offset) cs reference len = behind bare (refuse_when (not (is_finite offset) || lt offset f0) 4 (2 ∷ [])) _ _ (at_kept reference len (len ⊖ offset))
  as_kept (AtStation station) cs reference len = at_kept reference len station

  pub place_kept : (how : Placement) (cs : List Float) → with_result bare (place_stop_line m lanes how cs) ≡ old.place_stop_line m lanes how cs
  unfolding place_stop_line old.place_stop_line
  place_kept how cs = past bare (present (lane_centerline m (get_or lanes 0 0)) 6 (1 ∷ [])) _ _ (λ c. as_kept how cs (get_or lanes 0 0) (polyline_length c))
