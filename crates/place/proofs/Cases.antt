-- Closed cases of placing on the map of the worked crossings: where the line goes, and how many warnings there are.
use Prim.Native.Nat.{ℕ}
use mathlib.Core.Path.{◌≡◌, refl}
use mathlib.Core.Bool.{true, false}
use Rattle.std.specs.Prelude.{None}
use mathlib.Core.List.{[], ◌∷◌, ◌++◌}
use lib.Ieee.{Float, neg}
use lib.ListN.{length}
use Rattle.refusal.specs.Answer.{Answer, refused, done}
use Rattle.rows.specs.Lists.{same_list}
use Rattle.geometry.specs.Double.{whole, decimal, f0}
use Rattle.geometry.specs.Point.{at3}
use Rattle.codec.specs.Format.{Bytes}
use Rattle.map.specs.Record.{Map}
use Rattle.map.specs.MapFile.{polyline, open_map_file}
use Rattle.place.specs.declared.Placement.{Placement}
use Rattle.place.specs.declared.Placement.TheVariants.{AtLaneEnd, AtStation}
use Rattle.place.specs.Place.{Placed, place_stop_line, open_place}
use Rattle.place.proofs.Worked.{fresh_map}

-- a refusal's number and details, or the number of warnings and the points' written form
abbrev shown : Answer Placed → Bytes
shown (refused n ds) = 0 ∷ n ∷ ds
shown (done p) = 1 ∷ length p.warnings ∷ polyline.write p.points

abbrev across : ℕ → Float → Float → Bytes
across warned x y = 1 ∷ warned ∷ polyline.write (at3 x y f0 ∷ at3 x (neg y) f0 ∷ [])

abbrev placed : Placement → Float → Bytes
placed how y = shown (place_stop_line (fresh_map y) (3 ∷ []) how [])

-- at the lane's end, 3 before it, at the start without and with a warning, at station 4; ends 1e-3 apart are no section, and a hair more is one
places : same_list
    (placed (AtLaneEnd f0) (whole 2) ++ placed (AtLaneEnd (whole 3)) (whole 2) ++ placed (AtLaneEnd (whole 10)) (whole 2) ++ placed (AtLaneEnd (whole 12)) (whole 2) ++ placed (AtStation (whole 4)) (whole 2)
    ++ placed (AtLaneEnd f0) (decimal 5 10000) ++ placed (AtLaneEnd f0) (decimal 51 100000) ++ placed (AtLaneEnd (neg (whole 1))) (whole 2))
    (across 0 (whole 10) (whole 2) ++ across 0 (whole 7) (whole 2) ++ across 0 f0 (whole 2) ++ across 1 f0 (whole 2) ++ across 0 (whole 4) (whole 2)
    ++ (0 ∷ 6 ∷ 5 ∷ []) ++ across 0 (whole 10) (decimal 51 100000) ++ (0 ∷ 4 ∷ 2 ∷ [])) ≡ true
unfolding open_place open_map_file neg
places = refl

-- a shorter lane beside lane 3 plays no part
abbrev beside : Map
beside =
    let m = fresh_map (whole 2) in
    record {
      next = 7;
      lanes = m.lanes ++ (record { num = 6; kind = 0; left = record { boundary = 4; reversed = false }; right = record { boundary = 5; reversed = false }; centerline = None } ∷ []);
      boundaries = m.boundaries ++ (record { num = 4; geometry = at3 f0 (whole 6) f0 ∷ at3 (whole 5) (whole 6) f0 ∷ [] } ∷ record { num = 5; geometry = at3 f0 (whole 4) f0 ∷ at3 (whole 5) (whole 4) f0 ∷ [] } ∷ []);
      stop_lines = [];
      signals = [];
      crosswalks = [];
      rules = [];
    }

shorter_lane : same_list (shown (place_stop_line beside (3 ∷ []) (AtLaneEnd f0) []) ++ shown (place_stop_line beside (6 ∷ []) (AtLaneEnd f0) []))
    (across 0 (whole 10) (whole 2) ++ (1 ∷ 0 ∷ polyline.write (at3 (whole 5) (whole 6) f0 ∷ at3 (whole 5) (whole 4) f0 ∷ []))) ≡ true
unfolding open_place open_map_file neg
shorter_lane = refl
