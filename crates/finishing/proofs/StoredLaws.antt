-- Points on the map, coordinate by coordinate. Assumes nothing.
use Prim.Native.Nat.{ℕ, zero, suc, ◌+◌, ◌*◌, ◌/◌, ◌%◌, ◌≤◌}
use mathlib.Core.Path.{◌≡◌, refl, sym, ap, ◌∙◌}
use mathlib.Core.Bool.{Bool, true, false, ◌&&◌}
use mathlib.Core.List.{List, [], ◌∷◌}
use native.Mathlib.Nat.{div-add-mod'}
use native.Mathlib.Omega.{arith}
use lib.Ieee.{Float, nan}
use lib.ListN.{length, get_or}
use Rattle.rows.specs.Lists.{every, list_to}
use Rattle.rows.specs.Rows.{cut}
use Rattle.rows.proofs.RowLaws.{cut_add, cut_cons, cut_whole}
use Rattle.geometry.specs.Double.{on_map}
use Rattle.geometry.specs.Point.{point_on_map}
use Rattle.geometry.specs.Polyline.{point_in, polyline_of}
use Rattle.finishing.proofs.CeilingLaws.{every_join}

three : (cs : List Float) (p : ℕ) → p + 3 ≤ length cs → cut cs p 3 ≡ get_or cs p nan ∷ get_or cs (p + 1) nan ∷ get_or cs (p + 2) nan ∷ []
three cs p h =
    let a : p + 1 + 1 ≡ p + 2 = omega arith in
    sym (cut_cons cs p 2 nan (omega arith))
    ∙ ap (λ (l : List Float). get_or cs p nan ∷ l) (sym (cut_cons cs (p + 1) 1 nan (omega arith))
    ∙ ap (λ (l : List Float). get_or cs (p + 1) nan ∷ l) (rw a (sym (cut_cons cs (p + 2) 0 nan (omega arith)) ∙ unfold cut in refl)))

one_point : (cs : List Float) (i : ℕ) → i * 3 + 3 ≤ length cs → every on_map (cut cs (i * 3) 3) ≡ point_on_map (point_in cs i)
unfolding every point_on_map point_in
one_point cs i h = ap (every on_map) (three cs (i * 3) h) ∙ go (on_map (get_or cs (i * 3) nan)) (on_map (get_or cs (i * 3 + 1) nan)) (on_map (get_or cs (i * 3 + 2) nan))
  where
    go : (a b c : Bool) → (a && (b && (c && true))) ≡ (a && b && c)
    go true true true = refl
    go true true false = refl
    go true false c = refl
    go false b c = refl

some_points : (cs : List Float) (n : ℕ) → n * 3 ≤ length cs → every on_map (cut cs 0 (n * 3)) ≡ every point_on_map (list_to (point_in cs) n)
unfolding list_to every
some_points cs zero h = unfold cut in refl
some_points cs (suc n) h =
    let e : suc n * 3 ≡ n * 3 + 3 = omega arith in
    let z : 0 + n * 3 ≡ n * 3 = omega arith in
    rw (e, cut_add cs 0 (n * 3) 3, z, every_join on_map (cut cs 0 (n * 3)) (cut cs (n * 3) 3), some_points cs n (omega arith), one_point cs n (omega arith), every_join point_on_map (list_to (point_in cs) n) (point_in cs n ∷ []))
    (go (every point_on_map (list_to (point_in cs) n)) (point_on_map (point_in cs n)))
  where
    go : (a b : Bool) → (a && b) ≡ (a && (b && true))
    go true true = refl
    go true false = refl
    go false b = refl

pub points_on_map : (cs : List Float) (b : Bool) → length cs % 3 ≡ 0 → b ≡ every on_map cs → b ≡ every point_on_map (polyline_of cs)
unfolding polyline_of
points_on_map cs b h e =
    let q : length cs ≡ length cs / 3 * 3 = omega (arith, div-add-mod' (length cs) 3) in
    e ∙ ap (every on_map) (sym (cut_whole cs (length cs / 3 * 3) q)) ∙ some_points cs (length cs / 3) (omega arith)
