-- Records written field by field.
use Prim.Native.Nat.{ℕ, zero, suc, ◌+◌, ◌≤◌, ◌<◌}
use mathlib.Core.Path.{◌≡◌, refl}
use mathlib.Core.Bool.{not, cond}
use Rattle.std.specs.Prelude.{None, Some}
use mathlib.Core.List.{List, ◌++◌}
use native.Mathlib.Omega.{arith}
use lib.Dec.{eqb}
use lib.Ieee.{Float, nan}
use lib.ListN.{get_or}
use Rattle.rows.specs.Lists.{list_to}
use Rattle.codec.specs.Format.{Bytes, ◌⊗◌, via, only, tagged}
use Rattle.codec.specs.Number.{number}
use Rattle.codec.specs.Items.{below, from, list, flag, option}
use Rattle.map.specs.MapFile.{polyline, height, boundary_ref, numbers, lane, line_string, signal, bulb, crosswalk, body, rule}
use Rattle.map.specs.Tables.{flag_at, list_at, line_at, lane_in, line_string_in, bulb_at, signal_in, crosswalk_in, body_of, rule_in}
use Rattle.fields.specs.Fields.{Place}
use Rattle.records.specs.Records.{side_at, light_in, sign_in, right_of_way_in, crossing_in}
use Rattle.putting.specs.Putting.{PutAt}
use Rattle.putting.proofs.PutLaws.{put_then}
use Rattle.putfields.specs.Entries.{entries_in}
use Rattle.mapput.specs.MapPut.{kind_in, fields_form}

-- the forms of fields as the code writes them
abbrev option_line : ℕ → ℕ → List Float → ℕ → Bytes
option_line there n cs c = (option polyline).write (cond (not (eqb there 0)) (Some (line_at cs c n)) None)

abbrev option_number : ℕ → ℕ → Bytes
option_number there n = (option number).write (cond (not (eqb there 0)) (Some n) None)

abbrev numbers_from : ℕ → List ℕ → ℕ → Bytes
numbers_from n ws from = numbers.write (entries_in ws from n)

module _ (ws : List ℕ) (at : ℕ) (o o1 o2 : Bytes) (p p1 p2 : Place) where
  pub side_put : PutAt (number.write (get_or ws at 0)) o p p1 o1 → PutAt (flag.write (not (eqb (get_or ws (at + 1) 0) 0))) o1 p1 p2 o2 → PutAt (boundary_ref.write (side_at ws at)) o p p2 o2
  unfolding boundary_ref via ◌⊗◌ flag_at
  side_put x y = put_then _ _ o o1 o2 p p1 p2 x y

pub ruleset putting_side = (side_put)

module _ (ws : List ℕ) (cs : List Float) (o o1 o2 : Bytes) (p p1 p2 : Place) where
  pub line_string_put : PutAt (number.write (get_or ws 0 0)) o p p1 o1 → PutAt (polyline.write (line_at cs 0 (get_or ws 1 0))) o1 p1 p2 o2 → PutAt (line_string.write (line_string_in ws cs)) o p p2 o2
  unfolding line_string line_string_in via ◌⊗◌
  line_string_put x y = put_then _ _ o o1 o2 p p1 p2 x y

  module _ (o3 : Bytes) (p3 : Place) where
    pub sign_put : PutAt (number.write (get_or ws 2 0)) o p p1 o1 → PutAt (option_line (get_or ws 5 0) (get_or ws 6 0) cs 0) o1 p1 p2 o2 → PutAt (option_number (get_or ws 3 0) (get_or ws 4 0)) o2 p2 p3 o3
        → PutAt ((from 1 ⊗ option polyline ⊗ option number).write (sign_in ws cs)) o p p3 o3
    unfolding ◌⊗◌ from only flag_at
    sign_put x y z = put_then _ _ o o1 o3 p p1 p3 x (put_then _ _ o1 o2 o3 p1 p2 p3 y z)

    module _ (o4 : Bytes) (p4 : Place) where
      pub crosswalk_put : PutAt (number.write (get_or ws 0 0)) o p p1 o1 → PutAt (polyline.write (line_at cs 0 (get_or ws 1 0))) o1 p1 p2 o2 → PutAt (polyline.write (line_at cs 192 (get_or ws 2 0))) o2 p2 p3 o3
          → PutAt (option_line (get_or ws 3 0) (get_or ws 4 0) cs 384) o3 p3 p4 o4 → PutAt (crosswalk.write (crosswalk_in ws cs)) o p p4 o4
      unfolding crosswalk crosswalk_in via ◌⊗◌ flag_at
      crosswalk_put x y z w = put_then _ _ o o1 o4 p p1 p4 x (put_then _ _ o1 o2 o4 p1 p2 p4 y (put_then _ _ o2 o3 o4 p2 p3 p4 z w))

      module _ (o5 : Bytes) (p5 : Place) where
        pub lane_put : PutAt (number.write (get_or ws 0 0)) o p p1 o1 → PutAt (number.write (get_or ws 1 0)) o1 p1 p2 o2 → PutAt (boundary_ref.write (side_at ws 2)) o2 p2 p3 o3
            → PutAt (boundary_ref.write (side_at ws 4)) o3 p3 p4 o4 → PutAt (option_line (get_or ws 6 0) (get_or ws 7 0) cs 0) o4 p4 p5 o5 → PutAt (lane.write (lane_in ws cs)) o p p5 o5
        unfolding lane lane_in via ◌⊗◌ below only flag_at
        lane_put x y z w v = put_then _ _ o o1 o5 p p1 p5 x (put_then _ _ o1 o2 o5 p1 p2 p5 y (put_then _ _ o2 o3 o5 p2 p3 p5 z (put_then _ _ o3 o4 o5 p3 p4 p5 w v)))

        pub signal_put : PutAt (number.write (get_or ws 0 0)) o p p1 o1 → PutAt (number.write (get_or ws 1 0)) o1 p1 p2 o2 → PutAt (polyline.write (line_at cs 0 (get_or ws 2 0))) o2 p2 p3 o3
            → PutAt ((option height).write (cond (not (eqb (get_or ws 3 0) 0)) (Some (get_or cs 192 nan)) None)) o3 p3 p4 o4 → PutAt ((list 4 bulb).write (list_to (bulb_at ws cs) (get_or ws 4 0))) o4 p4 p5 o5
            → PutAt (signal.write (signal_in ws cs)) o p p5 o5
        unfolding signal signal_in via ◌⊗◌ below only flag_at
        signal_put x y z w v = put_then _ _ o o1 o5 p p1 p5 x (put_then _ _ o1 o2 o5 p1 p2 p5 y (put_then _ _ o2 o3 o5 p2 p3 p5 z (put_then _ _ o3 o4 o5 p3 p4 p5 w v)))

module _ (ws : List ℕ) (o o1 o2 : Bytes) (p p1 p2 : Place) where
  pub light_put : PutAt (numbers_from (get_or ws 41 0) ws 42) o p p1 o1 → PutAt (option_number (get_or ws 3 0) (get_or ws 4 0)) o1 p1 p2 o2 → PutAt ((numbers ⊗ option number).write (light_in ws)) o p p2 o2
  unfolding ◌⊗◌ list_at entries_in flag_at
  light_put x y = put_then _ _ o o1 o2 p p1 p2 x y

  pub crossing_put : PutAt (number.write (get_or ws 2 0)) o p p1 o1 → PutAt (numbers_from (get_or ws 75 0) ws 76) o1 p1 p2 o2 → PutAt ((number ⊗ numbers).write (crossing_in ws)) o p p2 o2
  unfolding ◌⊗◌ list_at entries_in
  crossing_put x y = put_then _ _ o o1 o2 p p1 p2 x y

  module _ (o3 : Bytes) (p3 : Place) where
    pub right_of_way_put : PutAt (numbers_from (get_or ws 41 0) ws 42) o p p1 o1 → PutAt (numbers_from (get_or ws 58 0) ws 59) o1 p1 p2 o2 → PutAt (numbers_from (get_or ws 75 0) ws 76) o2 p2 p3 o3
        → PutAt ((numbers ⊗ numbers ⊗ numbers).write (right_of_way_in ws)) o p p3 o3
    unfolding ◌⊗◌ list_at entries_in
    right_of_way_put x y z = put_then _ _ o o1 o3 p p1 p3 x (put_then _ _ o1 o2 o3 p1 p2 p3 y z)

pub ruleset putting_line_string = (line_string_put)

pub ruleset putting_light = (light_put)

pub ruleset putting_crossing = (crossing_put)

pub ruleset putting_sign = (sign_put)

pub ruleset putting_right_of_way = (right_of_way_put)

pub ruleset putting_crosswalk = (crosswalk_put)

pub ruleset putting_lane = (lane_put)

pub ruleset putting_signal = (signal_put)

-- ---- a rule's fields, by its kind

module _ (k : ℕ) (ws : List ℕ) (cs : List Float) (o o1 : Bytes) (p p1 : Place) where
  pub as_light : k ≡ 1 → PutAt ((numbers ⊗ option number).write (light_in ws)) o p p1 o1 → PutAt (fields_form (body_of k ws cs)) o p p1 o1
  unfolding fields_form
  as_light e x = rw e x

  pub as_sign : k ≡ 2 → PutAt ((from 1 ⊗ option polyline ⊗ option number).write (sign_in ws cs)) o p p1 o1 → PutAt (fields_form (body_of k ws cs)) o p p1 o1
  unfolding fields_form
  as_sign e x = rw e x

  pub as_marking : k ≡ 3 → PutAt (number.write (get_or ws 4 0)) o p p1 o1 → PutAt (fields_form (body_of k ws cs)) o p p1 o1
  unfolding fields_form
  as_marking e x = rw e x

  pub as_right_of_way : k ≡ 4 → PutAt ((numbers ⊗ numbers ⊗ numbers).write (right_of_way_in ws)) o p p1 o1 → PutAt (fields_form (body_of k ws cs)) o p p1 o1
  unfolding fields_form
  as_right_of_way e x = rw e x

  pub as_crossing : k ≡ 5 → PutAt ((number ⊗ numbers).write (crossing_in ws)) o p p1 o1 → PutAt (fields_form (body_of k ws cs)) o p p1 o1
  unfolding fields_form
  as_crossing e x = rw e x

  pub as_other : k ≡ 6 → PutAt (number.write (get_or ws 2 0)) o p p1 o1 → PutAt (fields_form (body_of k ws cs)) o p p1 o1
  unfolding fields_form from only
  as_other e x = rw e x

pub as_none : (k : ℕ) (ws : List ℕ) (cs : List Float) (o o1 : Bytes) (p p1 : Place) → (k ≡ 1 → ⊥) → (k ≡ 2 → ⊥) → (k ≡ 3 → ⊥) → (k ≡ 4 → ⊥) → (k ≡ 5 → ⊥) → (k ≡ 6 → ⊥)
    → PutAt (number.write 0) o p p1 o1 → PutAt (fields_form (body_of k ws cs)) o p p1 o1
unfolding fields_form from only
as_none zero ws cs o o1 p p1 a b c d e f x = x
as_none (suc zero) ws cs o o1 p p1 a b c d e f x = absurd (a refl)
as_none (suc (suc zero)) ws cs o o1 p p1 a b c d e f x = absurd (b refl)
as_none (suc (suc (suc zero))) ws cs o o1 p p1 a b c d e f x = absurd (c refl)
as_none (suc (suc (suc (suc zero)))) ws cs o o1 p p1 a b c d e f x = absurd (d refl)
as_none (suc (suc (suc (suc (suc zero))))) ws cs o o1 p p1 a b c d e f x = absurd (e refl)
as_none (suc (suc (suc (suc (suc (suc zero)))))) ws cs o o1 p p1 a b c d e f x = absurd (f refl)
as_none (suc (suc (suc (suc (suc (suc (suc k))))))) ws cs o o1 p p1 a b c d e f x = x

pub ruleset putting_fields = (as_light, as_sign, as_marking, as_right_of_way, as_crossing, as_other, as_none)

pub no_kind : (k : ℕ) → k ≡ 0 → 6 ≡ kind_in k
no_kind k e = rw e

pub high_kind : (k : ℕ) → 6 < k → 6 ≡ kind_in k
high_kind zero h = refl
high_kind (suc zero) h = absurd (let z : ⊥ = omega arith in z)
high_kind (suc (suc zero)) h = absurd (let z : ⊥ = omega arith in z)
high_kind (suc (suc (suc zero))) h = absurd (let z : ⊥ = omega arith in z)
high_kind (suc (suc (suc (suc zero)))) h = absurd (let z : ⊥ = omega arith in z)
high_kind (suc (suc (suc (suc (suc zero))))) h = absurd (let z : ⊥ = omega arith in z)
high_kind (suc (suc (suc (suc (suc (suc k)))))) h = refl

pub own_kind : (k : ℕ) → (k ≡ 0 → ⊥) → k ≤ 6 → k ≡ kind_in k
own_kind zero n h = absurd (n refl)
own_kind (suc zero) n h = refl
own_kind (suc (suc zero)) n h = refl
own_kind (suc (suc (suc zero))) n h = refl
own_kind (suc (suc (suc (suc zero)))) n h = refl
own_kind (suc (suc (suc (suc (suc zero))))) n h = refl
own_kind (suc (suc (suc (suc (suc (suc zero)))))) n h = refl
own_kind (suc (suc (suc (suc (suc (suc (suc k))))))) n h = absurd (let z : ⊥ = omega arith in z)

pub ruleset telling_kind = (no_kind, high_kind, own_kind)

-- the kind and the fields are the body
body_form : (k : ℕ) (ws : List ℕ) (cs : List Float) → body.write (body_of k ws cs) ≡ number.write (kind_in k) ++ fields_form (body_of k ws cs)
unfolding body via tagged fields_form
body_form zero ws cs = refl
body_form (suc zero) ws cs = refl
body_form (suc (suc zero)) ws cs = refl
body_form (suc (suc (suc zero))) ws cs = refl
body_form (suc (suc (suc (suc zero)))) ws cs = refl
body_form (suc (suc (suc (suc (suc zero))))) ws cs = refl
body_form (suc (suc (suc (suc (suc (suc zero)))))) ws cs = refl
body_form (suc (suc (suc (suc (suc (suc (suc k))))))) ws cs = refl

module _ (ws : List ℕ) (cs : List Float) (k : ℕ) (o o1 o2 o3 o4 o5 : Bytes) (p p1 p2 p3 p4 p5 : Place) where
  pub rule_put : PutAt (number.write (get_or ws 0 0)) o p p1 o1 → k ≡ kind_in (get_or ws 1 0) → PutAt (number.write k) o1 p1 p2 o2 → PutAt (fields_form (body_of (get_or ws 1 0) ws cs)) o2 p2 p3 o3
      → PutAt (numbers_from (get_or ws 7 0) ws 8) o3 p3 p4 o4 → PutAt (numbers_from (get_or ws 24 0) ws 25) o4 p4 p5 o5 → PutAt (rule.write (rule_in ws cs)) o p p5 o5
  unfolding rule rule_in via ◌⊗◌ list_at entries_in
  rule_put x e y z w v =
      let b : PutAt (body.write (body_of (get_or ws 1 0) ws cs)) o1 p1 p3 o3 = rw (body_form (get_or ws 1 0) ws cs) (put_then _ _ o1 o2 o3 p1 p2 p3 (rw e at y) z) in
      put_then _ _ o o1 o5 p p1 p5 x (put_then _ _ o1 o3 o5 p1 p3 p5 b (put_then _ _ o3 o4 o5 p3 p4 p5 w v))

pub ruleset putting_rule = (rule_put)
