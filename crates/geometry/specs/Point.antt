-- Points and vectors: geometry/mod.rs.
use Rattle.std.specs.Prelude.{◌≡◌, refl, Bool, ◌&&◌, cond, Float, Option, None, Some}
use Rattle.std.specs.Float.Ieee.{lt, neg}
use Rattle.root.specs.Root.{square_root}
use Rattle.geometry.specs.declared.Point2.{Point2}
use Rattle.geometry.specs.declared.Point3.{Point3}
use Rattle.geometry.specs.Double.{◌⊕◌, ◌⊖◌, ◌⊗◌, ◌⊘◌, f0, f1, epsilon, clamp, is_finite, on_map, open_double}

abbrev pub at2 : Float → Float → Point2
at2 a b = record { x = a; y = b }

abbrev pub at3 : Float → Float → Float → Point3
at3 a b c = record { x = a; y = b; z = c }

abbrev pub origin : Point3
origin = at3 f0 f0 f0

-- ---- in the plane

abbrev pub xy : Point3 → Point2
xy p = at2 p.x p.y

unfoldable pub sub2 : Point2 → Point2 → Point2
sub2 a b = at2 (a.x ⊖ b.x) (a.y ⊖ b.y)

unfoldable pub scale2 : Point2 → Float → Point2
scale2 a t = at2 (a.x ⊗ t) (a.y ⊗ t)

unfoldable pub dot : Point2 → Point2 → Float
dot a b = a.x ⊗ b.x ⊕ a.y ⊗ b.y

unfoldable pub cross : Point2 → Point2 → Float
cross a b = a.x ⊗ b.y ⊖ a.y ⊗ b.x

-- hypot's stand-in: the root of x × x + y × y
unfoldable pub norm2 : Point2 → Float
norm2 a = square_root (a.x ⊗ a.x ⊕ a.y ⊗ a.y)

unfoldable pub distance2 : Point2 → Point2 → Float
distance2 a b = norm2 (sub2 a b)

pub distance2_is : (a b : Point2) → norm2 (sub2 a b) ≡ distance2 a b
unfolding distance2
distance2_is a b = refl

-- the unit vector, where the norm is above 1e-9
unfoldable pub normalized : Point2 → Option Point2
normalized a =
    let n = norm2 a in
    cond (lt epsilon n) (Some (at2 (a.x ⊘ n) (a.y ⊘ n))) None

-- rotated by a quarter to the left
unfoldable pub perp : Point2 → Point2
perp a = at2 (neg a.y) a.x

-- how far along a to b the point nearest to p is, from 0 to 1
unfoldable pub project_on_segment : Point2 → Point2 → Point2 → Float
project_on_segment p a b =
    let ab = sub2 b a in
    let squared = dot ab ab in
    cond (lt squared (epsilon ⊗ epsilon)) f0 (clamp (dot (sub2 p a) ab ⊘ squared) f0 f1)

-- ---- in space

unfoldable pub add3 : Point3 → Point3 → Point3
add3 a b = at3 (a.x ⊕ b.x) (a.y ⊕ b.y) (a.z ⊕ b.z)

unfoldable pub sub3 : Point3 → Point3 → Point3
sub3 a b = at3 (a.x ⊖ b.x) (a.y ⊖ b.y) (a.z ⊖ b.z)

unfoldable pub scale3 : Point3 → Float → Point3
scale3 a t = at3 (a.x ⊗ t) (a.y ⊗ t) (a.z ⊗ t)

unfoldable pub norm3 : Point3 → Float
norm3 a = square_root (a.x ⊗ a.x ⊕ a.y ⊗ a.y ⊕ a.z ⊗ a.z)

unfoldable pub distance3 : Point3 → Point3 → Float
distance3 a b = norm3 (sub3 a b)

pub distance3_is : (a b : Point3) → norm3 (sub3 a b) ≡ distance3 a b
unfolding distance3
distance3_is a b = refl

-- between a (t = 0) and b (t = 1)
unfoldable pub lerp : Point3 → Point3 → Float → Point3
lerp a b t = add3 a (scale3 (sub3 b a) t)

-- ---- tests

unfoldable pub finite_point : Point3 → Bool
finite_point p = is_finite p.x && is_finite p.y && is_finite p.z

unfoldable pub point_on_map : Point3 → Bool
point_on_map p = on_map p.x && on_map p.y && on_map p.z

unfoldable pub point2_on_map : Point2 → Bool
point2_on_map p = on_map p.x && on_map p.y

unfoldable pub open_point : Unit {0}
unfolding open_double sub2 scale2 dot cross norm2 distance2 normalized perp project_on_segment add3 sub3 scale3 norm3 distance3 lerp finite_point point_on_map point2_on_map
open_point = tt
