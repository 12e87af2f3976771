-- The points of a row.
use Prim.Native.Nat.{ℕ, zero, suc, ◌≤◌, ◌<◌}
use mathlib.Core.Path.{◌≡◌, refl, sym, ◌∙◌}
use mathlib.Core.Bool.{Bool, true, false, ◌&&◌, cond}
use Rattle.std.specs.Prelude.{Option, None, Some}
use mathlib.Core.List.{List}
use native.Mathlib.Omega.{arith}
use lib.Dec.{eqb}
use lib.Ieee.{Float}
use lib.ListN.{length, get_or}
use borrow.Author.Tests.{ne_eqb, leb-true}
use Rattle.rows.proofs.Indexed.{length-list_to}
use Rattle.rows.proofs.Bools.{parts}
use Rattle.codec.specs.Format.{◌⊗◌, via, both, tagged}
use Rattle.codec.specs.Number.{number}
use Rattle.codec.specs.Items.{option, from}
use Rattle.codec.proofs.Fits.{list_few, fits_option}
use Rattle.geometry.specs.Polyline.{Polyline}
use Rattle.map.specs.Record.{RuleBody, light, sign, marking, right_of_way, crossing, other}
use Rattle.map.specs.Ceilings.{size_of, lane_points, line_string_points, signal_points, crosswalk_points, rule_points, body_points}
use Rattle.map.specs.MapFile.{polyline, point, lane, line_string, signal, crosswalk, body, rule}
use Rattle.map.specs.Tables.{flag_at, option_at, line_at, body_of, lane_in, line_string_in, signal_in, crosswalk_in, rule_in}
use Rattle.records.specs.Records.{Rec, record_form, record_in}
use Rattle.checking.specs.Checking.{record_num, record_points, points_in}

-- ---- a row's words give the record's points, at most 192

cond_size : {A : Type 0} (f : A → ℕ) (b : Bool) (a : A) → size_of f (cond b (Some a) None) ≡ cond b (f a) 0
unfolding size_of
cond_size f true a = refl
cond_size f false a = refl

line_length : (c : List Float) (o n : ℕ) → length (line_at c o n) ≡ n
unfolding line_at
line_length c o n = length-list_to _ n

option-length : (r : List ℕ) (o : ℕ) (c : List Float) (m n : ℕ) → size_of length (option_at r o (line_at c m n)) ≡ cond (flag_at r o) n 0
option-length r o c m n = cond_size length (flag_at r o) (line_at c m n) ∙ rw (line_length c m n)

body_points_lem : (k : ℕ) (r : List ℕ) (c : List Float) → cond (eqb k 2) (cond (flag_at r 5) (get_or r 6 0) 0) 0 ≡ body_points (body_of k r c)
unfolding body_points
body_points_lem zero r c = refl
body_points_lem (suc zero) r c = refl
body_points_lem (suc (suc zero)) r c = sym (option-length r 5 c 0 (get_or r 6 0))
body_points_lem (suc (suc (suc zero))) r c = refl
body_points_lem (suc (suc (suc (suc zero)))) r c = refl
body_points_lem (suc (suc (suc (suc (suc zero))))) r c = refl
body_points_lem (suc (suc (suc (suc (suc (suc zero)))))) r c = refl
body_points_lem (suc (suc (suc (suc (suc (suc (suc k))))))) r c = rw (ne_eqb (suc (suc (suc (suc (suc (suc (suc k))))))) 2 (λ e. let z : ⊥ = omega arith in z))

pub points_are : (k : ℕ) (r : List ℕ) (c : List Float) → points_in k r ≡ record_points k (record_in k r c)
unfolding points_in record_points lane_points line_string_points signal_points crosswalk_points rule_points lane_in line_string_in signal_in crosswalk_in rule_in
points_are zero r c = sym (option-length r 6 c 0 (get_or r 7 0))
points_are (suc zero) r c = sym (line_length c 0 (get_or r 1 0))
points_are (suc (suc zero)) r c = sym (line_length c 0 (get_or r 1 0))
points_are (suc (suc (suc zero))) r c = sym (line_length c 0 (get_or r 2 0))
points_are (suc (suc (suc (suc zero)))) r c = rw (line_length c 0 (get_or r 1 0), line_length c 192 (get_or r 2 0), option-length r 3 c 384 (get_or r 4 0))
points_are (suc (suc (suc (suc (suc zero))))) r c = body_points_lem (get_or r 1 0) r c
points_are (suc (suc (suc (suc (suc (suc k)))))) r c = refl

pub num_is : (k : ℕ) (r : List ℕ) (c : List Float) → k < 6 → get_or r 0 0 ≡ record_num k (record_in k r c)
unfolding lane_in line_string_in signal_in crosswalk_in rule_in
num_is zero r c h = refl
num_is (suc zero) r c h = refl
num_is (suc (suc zero)) r c h = refl
num_is (suc (suc (suc zero))) r c h = refl
num_is (suc (suc (suc (suc zero)))) r c h = refl
num_is (suc (suc (suc (suc (suc zero))))) r c h = refl
num_is (suc (suc (suc (suc (suc (suc k)))))) r c h = absurd (let z : ⊥ = omega arith in z)

line_few : (xs : Polyline) → polyline.fits xs ≡ true → length xs ≤ 64
unfolding polyline
line_few xs h = leb-true (length xs) 64 (list_few 64 point xs h)

option_few : (o : Option Polyline) → (option polyline).fits o ≡ true → size_of length o ≤ 64
unfolding size_of
option_few None h = omega arith
option_few (Some xs) h = line_few xs (fits_option polyline xs h)

body_few : (w : RuleBody) → body.fits w ≡ true → body_points w ≤ 64
unfolding body via tagged body_points ◌⊗◌
body_few (light signals line) h = omega arith
body_few (sign type shape line) h =
    option_few shape (both ((option polyline).fits shape) ((option number).fits line) (both ((from 1).fits type) ((option polyline).fits shape && (option number).fits line) (both (number.fits 2) ((from 1).fits type && ((option polyline).fits shape && (option number).fits line)) h).1).1).0
body_few (marking line) h = omega arith
body_few (right_of_way priority yielding stop_lines) h = omega arith
body_few (crossing c stop_lines) h = omega arith
body_few (other k) h = omega arith

pub points_few : (k : ℕ) (r : Rec k) → (record_form k).fits r ≡ true → record_points k r ≤ 192
unfolding record_points lane_points line_string_points signal_points crosswalk_points rule_points lane line_string signal crosswalk rule via ◌⊗◌
points_few zero l h =
    let o : (option polyline).fits l.centerline ≡ true = search parts in
    omega (arith, option_few l.centerline o)
points_few (suc zero) l h = let o : polyline.fits l.geometry ≡ true = search parts in omega (arith, line_few l.geometry o)
points_few (suc (suc zero)) l h = let o : polyline.fits l.geometry ≡ true = search parts in omega (arith, line_few l.geometry o)
points_few (suc (suc (suc zero))) l h = let o : polyline.fits l.geometry ≡ true = search parts in omega (arith, line_few l.geometry o)
points_few (suc (suc (suc (suc zero)))) l h =
    let a : polyline.fits l.left ≡ true = search parts in
    let b : polyline.fits l.right ≡ true = search parts in
    let o : (option polyline).fits l.outline ≡ true = search parts in
    omega (arith, line_few l.left a, line_few l.right b, option_few l.outline o)
points_few (suc (suc (suc (suc (suc zero))))) l h = let o : body.fits l.body ≡ true = search parts in omega (arith, body_few l.body o)
points_few (suc (suc (suc (suc (suc (suc k)))))) l h = omega arith
