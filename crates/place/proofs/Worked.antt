-- The map of the worked crossings.
use mathlib.Core.Bool.{false}
use Rattle.std.specs.Prelude.{None}
use mathlib.Core.List.{[], ◌∷◌}
use lib.Ieee.{Float, neg}
use Rattle.geometry.specs.Double.{whole, f0}
use Rattle.geometry.specs.Point.{at3}
use Rattle.map.specs.Record.{Map}

-- lane 3, left boundary 1 at y and right boundary 2 at -y, from x = 0 to x = 10, next number 4
abbrev pub fresh_map : Float → Map
fresh_map y =
    record {
      next = 4;
      lanes = record { num = 3; kind = 0; left = record { boundary = 1; reversed = false }; right = record { boundary = 2; reversed = false }; centerline = None } ∷ [];
      boundaries = record { num = 1; geometry = at3 f0 y f0 ∷ at3 (whole 10) y f0 ∷ [] }
          ∷ record { num = 2; geometry = at3 f0 (neg y) f0 ∷ at3 (whole 10) (neg y) f0 ∷ [] } ∷ [];
      stop_lines = [];
      signals = [];
      crosswalks = [];
      rules = [];
    }
