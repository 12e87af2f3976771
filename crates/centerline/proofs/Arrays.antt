-- Points stored in an array of coordinates, one after the other.
use Prim.Native.Nat.{ℕ, zero, suc, ◌+◌, ◌*◌, ◌<◌}
use mathlib.Core.Path.{◌≡◌, refl, ap₂, ◌∙◌}
use mathlib.Core.List.{List, [], ◌∷◌, ◌++◌}
use native.Mathlib.Omega.{arith}
use native.Mathlib.Numerals.{add-one}
use lib.ListN.{length, get_or, set, length-set}
use lib.Seq.{get_or-set_same, get_or-set_other}
use lib.Ieee.{Float, nan}
use Rattle.rows.specs.Lists.{list_to}
use Rattle.geometry.specs.declared.Point3.{Point3}
use Rattle.geometry.specs.Point.{at3}
use Rattle.geometry.specs.Polyline.{point_in}
use Rattle.centerline.specs.declared.Line.{Line}
use Rattle.centerline.specs.Line.{points_of, Pushed, Empty}

pub list_to_same : {A : Type 0} (f g : ℕ → A) (n : ℕ) → ((j : ℕ) → j < n → f j ≡ g j) → list_to f n ≡ list_to g n
unfolding list_to
list_to_same f g zero h = refl
list_to_same f g (suc n) h = rw (list_to_same f g n (λ j k. h j (omega arith)), h n (omega arith))

-- ---- three stores

module _ (cs : List Float) (i : ℕ) (x y z : Float) where
  abbrev stored : List Float
  stored = set (set (set cs (i * 3) x) (i * 3 + 1) y) (i * 3 + 2) z

  stored_before : (k : ℕ) → k < i * 3 → get_or stored k nan ≡ get_or cs k nan
  stored_before k h =
      get_or-set_other (set (set cs (i * 3) x) (i * 3 + 1) y) (i * 3 + 2) k z nan (λ e. omega arith)
      ∙ get_or-set_other (set cs (i * 3) x) (i * 3 + 1) k y nan (λ e. omega arith)
      ∙ get_or-set_other cs (i * 3) k x nan (λ e. omega arith)

  module _ (h : i * 3 + 2 < length cs) where
    stored_x : get_or stored (i * 3) nan ≡ x
    stored_x =
        get_or-set_other (set (set cs (i * 3) x) (i * 3 + 1) y) (i * 3 + 2) (i * 3) z nan (λ e. omega arith)
        ∙ get_or-set_other (set cs (i * 3) x) (i * 3 + 1) (i * 3) y nan (λ e. omega arith)
        ∙ get_or-set_same cs (i * 3) x nan (omega arith)

    stored_y : get_or stored (i * 3 + 1) nan ≡ y
    stored_y =
        get_or-set_other (set (set cs (i * 3) x) (i * 3 + 1) y) (i * 3 + 2) (i * 3 + 1) z nan (λ e. omega arith)
        ∙ get_or-set_same (set cs (i * 3) x) (i * 3 + 1) y nan (simp length-set (omega arith))

    stored_z : get_or stored (i * 3 + 2) nan ≡ z
    stored_z = get_or-set_same (set (set cs (i * 3) x) (i * 3 + 1) y) (i * 3 + 2) z nan (simp length-set (omega arith))

    stored_here : point_in stored i ≡ at3 x y z
    unfolding point_in
    stored_here = rw (stored_x, stored_y, stored_z)

  stored_point : (j : ℕ) → j < i → point_in stored j ≡ point_in cs j
  unfolding point_in
  stored_point j h = rw (stored_before (j * 3) (omega arith), stored_before (j * 3 + 1) (omega arith), stored_before (j * 3 + 2) (omega arith))

pub pushed : (l : Line) (p : Point3) → length l.coords ≡ 192 → l.count < 64
    → Pushed l p (record { coords = set (set (set l.coords (l.count * 3) p.x) (l.count * 3 + 1) p.y) (l.count * 3 + 2) p.z; count = l.count + 1 })
unfolding points_of list_to
pushed l p w h =
    record {
      count = refl;
      points =
          rw (add-one l.count)
          (ap₂ (λ (xs : List Point3) (q : Point3). xs ++ (q ∷ []))
          (list_to_same _ _ l.count (stored_point l.coords l.count p.x p.y p.z))
          (stored_here l.coords l.count p.x p.y p.z (omega arith)));
    }

-- the line has the first i points of f
pub record Built (f : ℕ → Point3) (l : Line) (i : ℕ) : Type 0 where
  pub count : l.count ≡ i
  pub points : points_of l ≡ list_to f i

module _ (f : ℕ → Point3) (l : Line) where
  pub built_none : Empty l → Built f l 0
  unfolding points_of list_to
  built_none e = record { count = e.count; points = rw e.count }

  pub built_next : (i : ℕ) (p : Point3) (m : Line) → Built f l i → p ≡ f i → Pushed l p m → Built f m (i + 1)
  unfolding list_to
  built_next i p m b e r =
      record {
        count = omega (arith, b.count, r.count);
        points = r.points ∙ rw (add-one i) (ap₂ (λ (xs : List Point3) (q : Point3). xs ++ (q ∷ [])) b.points e);
      }

-- the first i points of the array are f's
pub record Filled (f : ℕ → Point3) (cs : List Float) (i : ℕ) : Type 0 where
  pub long : length cs ≡ 192
  pub made : list_to (point_in cs) i ≡ list_to f i

pub filled_none : (f : ℕ → Point3) (cs : List Float) → length cs ≡ 192 → Filled f cs 0
unfolding list_to
filled_none f cs h = record { long = h; made = refl }

pub filled_next : (f : ℕ → Point3) (cs : List Float) (i : ℕ) (p : Point3) → Filled f cs i → i < 64 → p ≡ f i
    → Filled f (set (set (set cs (i * 3) p.x) (i * 3 + 1) p.y) (i * 3 + 2) p.z) (i + 1)
unfolding list_to
filled_next f cs i p w h e =
    let l : i * 3 + 2 < length cs = omega (arith, w.long) in
    record {
      long = simp length-set w.long;
      made =
          rw (add-one i)
          (ap₂ (λ (l : List Point3) (q : Point3). l ++ (q ∷ []))
          (list_to_same _ _ i (stored_point cs i p.x p.y p.z) ∙ w.made)
          (stored_here cs i p.x p.y p.z l ∙ e));
    }
