-- Placing reads the lanes of its list and the boundaries that they name, and nothing else of the map.
use Prim.Native.Nat.{ℕ}
use mathlib.Core.Path.{◌≡◌, refl, ap, subst}
use mathlib.Core.Bool.{true, cond}
use Rattle.std.specs.Prelude.{Option, None, Some}
use mathlib.Core.List.{List, [], ◌∷◌}
use lib.Dec.{eqb}
use lib.Ieee.{Float}
use borrow.Author.Tests.{eq-eqb}
use Rattle.refusal.specs.Answer.{Answer, refused, done, ◌>>=◌, ◌>>◌, present}
use Rattle.rows.specs.Lists.{member, no_entries, first_of, or_else}
use Rattle.rows.specs.Table.{find}
use Rattle.rows.proofs.Bools.{or_r}
use Rattle.rows.proofs.Tables.{is_some, holds_found}
use Rattle.geometry.specs.declared.Point2.{Point2}
use Rattle.geometry.specs.declared.Point3.{Point3}
use Rattle.geometry.specs.Double.{◌⊖◌, f0, clamp}
use Rattle.geometry.specs.Point.{perp}
use Rattle.geometry.specs.Polyline.{Polyline, polyline_length, point_at, direction_at, reversed}
use Rattle.map.specs.Record.{BoundaryRef, Lane, LineString, Map}
use Rattle.map.specs.Lookup.{lane_of, boundary_of, oriented, unknown_in}
use Rattle.place.specs.declared.EndName.{EndName}
use Rattle.place.specs.declared.LaneSide.TheVariants.{Left, Right}
use Rattle.place.specs.declared.Placement.{Placement}
use Rattle.place.specs.declared.Placement.TheVariants.{AtLaneEnd, AtStation, Given}
use Rattle.place.specs.Place.{Ends, check_lane_list, between, centerline_of, lane_centerline, with_side, with_lane, with_lanes, cross_section, place_at, place_as, place_stop_line}

-- ---- members of a list

here : (k : ℕ) (ns : List ℕ) → member k (k ∷ ns) ≡ true
unfolding member
here k ns = rw (eq-eqb k k refl)

later : (k : ℕ) (ns : List ℕ) (j : ℕ) → member j ns ≡ true → member j (k ∷ ns) ≡ true
unfolding member
later k ns j e = or_r (eqb k j) e

-- ---- a lane that is looked up in both maps

pub oriented_same : (m n : Map) (s : BoundaryRef) → boundary_of m s.boundary ≡ boundary_of n s.boundary → oriented m s ≡ oriented n s
unfolding oriented
oriented_same m n s e = ap (λ (o : Option LineString). elim o [ None ↦ None | Some b ↦ Some (cond s.reversed (reversed b.geometry) b.geometry) ]) e

-- what placing reads of a lane that is there
pub record SameSides (m n : Map) (l : Lane) : Type 0 where
  pub left : oriented m l.left ≡ oriented n l.left
  pub right : oriented m l.right ≡ oriented n l.right

pub record SameLane (m n : Map) (k : ℕ) : Type 0 where
  pub lane : lane_of m k ≡ lane_of n k
  pub sides : (l : Lane) → lane_of m k ≡ Some l → SameSides m n l

-- of each lane of a list
abbrev pub SameLanes : Map → Map → List ℕ → Type 0
SameLanes m n ls = (k : ℕ) → member k ls ≡ true → SameLane m n k

-- what is worked out of the lane, where it is there
by_lane : {A : Type 0} (m n : Map) (k : ℕ) (f g : Option Lane → A) → SameLane m n k → f None ≡ g None → ((l : Lane) → SameSides m n l → f (Some l) ≡ g (Some l)) → f (lane_of m k) ≡ g (lane_of n k)
by_lane {A} m n k f g b none-same some_same = subst (λ (o : Option Lane). f (lane_of m k) ≡ g o) b.lane (go (lane_of m k) refl)
  where
    go : (o : Option Lane) → lane_of m k ≡ o → f o ≡ g o
    go None q = none-same
    go (Some l) q = some_same l (b.sides l q)

-- what comes after an answer that is the same
after : {A B : Type 0} {f g : A → Answer B} (x : Answer A) → ((a : A) → f a ≡ g a) → (x >>= f) ≡ (x >>= g)
after (refused n ds) h = refl
after (done a) h = h a

-- ---- the centreline

center_of : (m n : Map) (l : Lane) → SameSides m n l → centerline_of m l ≡ centerline_of n l
unfolding centerline_of
center_of m n l s = go l.centerline
  where
    go : (o : Option Polyline)
        → ◌≡◌ {A = Option Polyline} (elim o [ Some c ↦ Some c | None ↦ between (oriented m l.left) (oriented m l.right) ]) (elim o [ Some c ↦ Some c | None ↦ between (oriented n l.left) (oriented n l.right) ])
    go None = rw (s.left, s.right)
    go (Some c) = refl

center_at : Map → Option Lane → Option Polyline
center_at m o = elim o [ None ↦ None | Some l ↦ centerline_of m l ]

center_same : (m n : Map) (k : ℕ) → SameLane m n k → lane_centerline m k ≡ lane_centerline n k
unfolding lane_centerline center_at
center_same m n k b = by_lane m n k (center_at m) (center_at n) b refl (center_of m n)

-- ---- the walk over the lanes

module _ (m n : Map) (p : Point3) (v : Point2) where
  side_same : (x : EndName) (s : BoundaryRef) (es : Ends) → oriented m s ≡ oriented n s → with_side m p v x s es ≡ with_side n p v x s es
  unfolding with_side
  side_same x s es e = rw e

  walk_lane : Map → ℕ → Ends → Option Lane → Answer Ends
  walk_lane o k es l = present l 6 (4 ∷ []) >>= λ r. with_side o p v (record { lane = k; side = Left }) r.left es >>= λ one. with_side o p v (record { lane = k; side = Right }) r.right one

  lane_same : (k : ℕ) (es : Ends) → SameLane m n k → with_lane m p v k es ≡ with_lane n p v k es
  unfolding with_lane walk_lane
  lane_same k es b = by_lane m n k (walk_lane m k es) (walk_lane n k es) b refl (λ l s. rw (side_same _ l.left es s.left) (after (with_side n p v _ l.left es) (λ one. side_same _ l.right one s.right)))

  lanes_same : (ns : List ℕ) (es : Ends) → SameLanes m n ns → with_lanes m p v ns es ≡ with_lanes n p v ns es
  unfolding with_lanes
  lanes_same [] es h = refl
  lanes_same (k ∷ ns) es h = rw (lane_same k es (h k (here k ns))) (after (with_lane n p v k es) (λ one. lanes_same ns one (λ j e. h j (later k ns j e))))

-- ---- the placement

module _ (m n : Map) (ls : List ℕ) (h : SameLanes m n ls) where
  section_same : (k : ℕ) (x : Float) → SameLane m n k → cross_section m k x ls ≡ cross_section n k x ls
  unfolding cross_section
  section_same k x b = rw (center_same m n k b)
      (after (present (lane_centerline n k) 6 (1 ∷ [])) (λ c.
      after (present (point_at c x) 6 (2 ∷ [])) (λ p.
      after (present (direction_at c x) 6 (3 ∷ [])) (λ d.
      rw (lanes_same m n p (perp d) ls (record { left = None; right = None }) h)))))

  at_same : (k : ℕ) (len x : Float) → SameLane m n k → place_at m ls k len x ≡ place_at n ls k len x
  unfolding place_at
  at_same k len x b = rw (section_same k (clamp x f0 len) b)

  as_same : (how : Placement) (cs : List Float) (k : ℕ) (len : Float) → SameLane m n k → place_as how cs m ls k len ≡ place_as how cs n ls k len
  unfolding place_as
  as_same Given cs k len b = refl
  as_same (AtLaneEnd o) cs k len b = rw (at_same k len (len ⊖ o) b)
  as_same (AtStation s) cs k len b = at_same k len s b

-- ---- the list of lanes

known_same : (m n : Map) (ls : List ℕ) → SameLanes m n ls → unknown_in (λ (l : Lane). l.num) m.lanes ls ≡ unknown_in (λ (l : Lane). l.num) n.lanes ls
unfolding unknown_in first_of lane_of
known_same m n [] h = refl
known_same m n (k ∷ ls) h =
    rw (holds_found (λ (l : Lane). l.num) k m.lanes, holds_found (λ (l : Lane). l.num) k n.lanes, (h k (here k ls)).lane)
    (ap (or_else (cond (is_some (find (λ (l : Lane). l.num) k n.lanes)) None (Some k))) (known_same m n ls (λ j e. h j (later k ls j e))))

checked_same : (m n : Map) (ls : List ℕ) → SameLanes m n ls → check_lane_list m ls ≡ check_lane_list n ls
unfolding check_lane_list
checked_same m n ls h = rw (known_same m n ls h)

-- ---- the whole: points, warnings, names of the ends, and the refusals on the way. No number and no count plays a part.

-- along the first lane
along_first : (m n : Map) (k : ℕ) (ns : List ℕ) (how : Placement) (cs : List Float) → SameLanes m n (k ∷ ns) → place_stop_line m (k ∷ ns) how cs ≡ place_stop_line n (k ∷ ns) how cs
unfolding place_stop_line
along_first m n k ns how cs h =
    let b = h k (here k ns) in
    rw (center_same m n k b) (after (present (lane_centerline n k) 6 (1 ∷ [])) (λ c. as_same m n (k ∷ ns) h how cs k (polyline_length c) b))

-- a list without lanes is refused: no lane is looked for then
pub placed_same : (m n : Map) (ls : List ℕ) (how : Placement) (cs : List Float) → SameLanes m n ls
    → (check_lane_list m ls >> place_stop_line m ls how cs) ≡ (check_lane_list n ls >> place_stop_line n ls how cs)
unfolding check_lane_list no_entries
placed_same m n [] how cs h = refl
placed_same m n (k ∷ ns) how cs h = rw (checked_same m n (k ∷ ns) h, along_first m n k ns how cs h)
