-- What a new signal's lamps and its row stand for.
use Rattle.std.specs.Prelude.{ℕ, ◌≤◌, ◌<◌, ◌≡◌, Bool, false, List, map, Float, length, get_or}
use Rattle.rows.specs.Lists.{or_default, list_to, every}
use Rattle.geometry.specs.declared.Point3.{Point3}
use Rattle.geometry.specs.Double.{◌⊕◌, ◌⊘◌, whole, half}
use Rattle.geometry.specs.Point.{at3, origin, point_on_map}
use Rattle.geometry.specs.Polyline.{Polyline, point_in, polyline_of, point_at_fraction}
use Rattle.map.specs.declared.SignalKind.{SignalKind}
use Rattle.map.specs.declared.BulbColor.{BulbColor}
use Rattle.map.specs.declared.BulbColor.TheVariants.{Red}
use Rattle.map.specs.declared.BulbArrow.TheVariants.{NoArrow}
use Rattle.map.specs.Record.{Bulb, bulb_color_number, bulb_arrow_number}
use Rattle.map.specs.Updates.{signal_of_parts}
use Rattle.edit.specs.declared.Look.{Look}
use Rattle.edit.specs.declared.SignalBulb.{SignalBulb}
use Rattle.edit.specs.declared.SignalRequest.{SignalRequest}
use Rattle.edit.specs.Light.{f2, stored_bulb, positions, default_bulbs, bulbs_of, new_signal}
use Rattle.edit.specs.Request.{lamp_count, lamp_at, new_traffic_signal}
use Rattle.signal_row.specs.declared.Bulbs.{Bulbs}
use Rattle.signal_row.specs.declared.BulbNumbers.{BulbNumbers}
use Rattle.signal_row.specs.declared.SignalRow.{SignalRow}

-- the middle of part i of n, raised by half the height
unfoldable pub bulb_place : Polyline → Float → ℕ → ℕ → Point3
bulb_place xs height i n =
    let p = or_default (point_at_fraction xs ((whole i ⊕ half) ⊘ whole n)) origin in
    at3 p.x p.y (p.z ⊕ height ⊘ f2)

pub record BulbMade (xs : Polyline) (height : Float) (i n : ℕ) (color : BulbColor) (b : SignalBulb) : Type 0 where
  pub place : b.position ≡ bulb_place xs height i n
  pub tint : b.color ≡ color
  pub bare : b.arrow ≡ NoArrow

-- room that no lamp stands in
abbrev pub no_bulb : SignalBulb
no_bulb = record { position = origin; color = Red; arrow = NoArrow }

-- lamp i of those whose coordinates are cs, with its look
pub record BulbGiven (cs : List Float) (i : ℕ) (look : Look) (b : SignalBulb) : Type 0 where
  pub is : b ≡ record { position = point_in cs i; color = look.color; arrow = look.arrow }

-- all that are given, counted, and the first four
pub record LampsRead (cs : List Float) (looks : List Look) (b : Bulbs) : Type 0 where
  pub count : b.count ≡ lamp_count cs
  pub each : (i : ℕ) → i < 4 → get_or b.bulbs i no_bulb ≡ lamp_at looks cs i

-- the lamps that are stored
unfoldable pub stored_bulbs : Bulbs → List Bulb
stored_bulbs b = map stored_bulb (list_to (λ i. get_or b.bulbs i no_bulb) b.count)

pub record StandardMade (kind : SignalKind) (xs : Polyline) (height : Float) (b : Bulbs) : Type 0 where
  pub lamps : stored_bulbs b ≡ default_bulbs kind xs height
  pub few : b.count ≤ 4

-- as many as the request asks for, and these where they are few enough to be stored
pub record BulbsRead (q : SignalRequest) (xs : Polyline) (lamps : List Float) (b : Bulbs) : Type 0 where
  pub count : (lanes : List ℕ) (points housing : List Float) → length (bulbs_of (new_traffic_signal lanes q points housing lamps) xs) ≡ b.count
  pub answer : (lanes : List ℕ) (points housing : List Float) → b.count ≤ 4 → stored_bulbs b ≡ bulbs_of (new_traffic_signal lanes q points housing lamps) xs
  pub standard : q.lamps.given ≡ false → b.count ≤ 4

pub record BulbWords (b : SignalBulb) (r : BulbNumbers) : Type 0 where
  pub color : r.color ≡ bulb_color_number b.color
  pub arrow : r.arrow ≡ bulb_arrow_number b.arrow

-- the row in the form that `push_signal` asks for, and the signal that it stands for
pub record RowMade (n : ℕ) (q : SignalRequest) (points : ℕ) (b : Bulbs) (r : SignalRow) : Type 0 where
  pub number : get_or r.words 0 0 ≡ n
  pub housing : get_or r.words 2 0 ≡ points
  pub lamps : get_or r.words 4 0 ≡ b.count
  pub signal : (lanes : List ℕ) (given cs lamps pts : List Float) → BulbsRead q (polyline_of pts) lamps b → signal_of_parts r.words pts r.more ≡ new_signal (new_traffic_signal lanes q given cs lamps) n (polyline_of pts)

unfoldable pub bulbs_on_map : Bulbs → Bool
bulbs_on_map b = every point_on_map (positions (stored_bulbs b))
