-- The worked crossings P1 to P10, as one table proved by one theorem.
use Prim.Native.Nat.{ℕ}
use mathlib.Core.Path.{◌≡◌, refl, sym, ap₂}
use mathlib.Core.Bool.{Bool, true, false, ◌&&◌, true≢false}
use Rattle.std.specs.Prelude.{None}
use mathlib.Core.List.{List, [], ◌∷◌, ◌++◌, map}
use lib.Dec.{eqb}
use lib.IntN.{negsuc}
use lib.Ieee.{Float, fin, neg, binary64, to_bits}
use borrow.Author.Tests.{eqb-true}
use Rattle.refusal.specs.Answer.{Answer, refused, done}
use Rattle.rows.specs.Lists.{every, same_list}
use Rattle.root.specs.Root.{square_root}
use Rattle.geometry.specs.declared.Point3.{Point3}
use Rattle.geometry.specs.Double.{whole, decimal, f0, f1}
use Rattle.geometry.specs.Point.{at3}
use Rattle.codec.specs.Format
use Rattle.codec.specs.Format.{Bytes, Read, fault, got}
use Rattle.codec.specs.Number.{number}
use Rattle.codec.specs.Items.{list}
use Rattle.map.specs.declared.SignalKind.TheVariants.{Vehicle}
use Rattle.map.specs.Record.{LineString, Signal}
use Rattle.map.specs.MapFile.{line_string}
use Rattle.changes.specs.ChangeFile.{change_file}
use Rattle.changes.specs.Running.{State, opening}
use Rattle.place.specs.declared.Placement.TheVariants.{AtLaneEnd}
use Rattle.edit.specs.declared.StopRule.TheVariants.{StopSign}
use Rattle.edit.specs.declared.StopLineChoice.TheVariants.{Automatic}
use Rattle.place.proofs.Worked.{fresh_map}
use Rattle.edit.specs.Edit.{Outcome}
use Rattle.edit.specs.StopLine.{NewStopLine, add_stop_line, open_stop_line}
use Rattle.edit.specs.Light.{NewTrafficSignal, add_traffic_signal, open_light}

-- ---- what a row shows

pub data Shown : Type 0 where
  -- a double's bits; bytes; a number that was read
  bits : ℕ → Shown
  bytes : Bytes → Shown
  reads : Read ℕ → Shown
  -- a refusal and its details
  refusal : ℕ → List ℕ → Shown
  -- an edit: the new number, the stop lines, the signals' housings, the rules' numbers, and the change set file
  edited : ℕ → List LineString → List LineString → List ℕ → Bytes → Shown

pub record Row : Type 0 where
  pub is : Shown
  pub should : Shown

infix 20 ◌gives◌
abbrev pub ◌gives◌ : Shown → Shown → Row
a gives b = record { is = a; should = b }

abbrev pub housing_of : Signal → LineString
housing_of s = record { num = s.num; geometry = s.geometry }

abbrev pub shown : Answer Outcome → Shown
shown (refused n ds) = refusal n ds
shown (done o) =
    edited o.id o.state.map.stop_lines (map housing_of o.state.map.signals) (map (λ r. r.num) o.state.map.rules) (change_file.write o.changes)

-- a row's two sides are compared as they are written
abbrev pub read_bytes : Read ℕ → Bytes
read_bytes fault = 0 ∷ []
read_bytes (got n s) = 1 ∷ n ∷ s

abbrev pub written : Shown → Bytes
written (bits n) = 1 ∷ n ∷ []
written (bytes s) = 2 ∷ s
written (reads r) = 3 ∷ read_bytes r
written (refusal n ds) = 4 ∷ n ∷ ds
written (edited n ls ss rs c) = 5 ∷ n ∷ (list 64 line_string).write ls ++ (list 64 line_string).write ss ++ (list 128 number).write rs ++ c

abbrev pub holds_in : Row → Bool
holds_in r = same_list (written r.is) (written r.should)

-- ---- the map of the crossings, and the calls

abbrev pub start : State
start = opening (fresh_map (whole 2))

abbrev pub after : State → Answer Outcome → State
after s (refused n ds) = s
after s (done o) = o.state

-- a stop sign on lanes, at a distance from the lane's end
abbrev pub stop_sign_on : List ℕ → Float → NewStopLine
stop_sign_on ls x = record { lanes = ls; placement = AtLaneEnd x; points = []; rule = StopSign }

abbrev pub vehicle_light : List ℕ → NewTrafficSignal
vehicle_light ls = record { lanes = ls; choice = Automatic; points = []; housing = None; height = None; kind = Vehicle; bulbs = None; group = None }

abbrev pub from_to : ℕ → Point3 → Point3 → List LineString
from_to n a b = record { num = n; geometry = a ∷ b ∷ [] } ∷ []

abbrev pub p1 : Answer Outcome
p1 = add_stop_line (stop_sign_on (3 ∷ []) f0) start

abbrev pub p2 : Answer Outcome
p2 = add_traffic_signal (vehicle_light (3 ∷ [])) (after start p1)

abbrev pub line_at : ℕ → List LineString
line_at x = from_to 4 (at3 (whole x) (whole 2) f0) (at3 (whole x) (neg (whole 2)) f0)

abbrev pub line_on : ℕ → Float → Answer Outcome
line_on offset y = add_stop_line (stop_sign_on (3 ∷ []) (whole offset)) (opening (fresh_map y))

-- ---- the table

abbrev pub table : List Row
table =
    -- P1
    (shown p1 gives edited 4 (line_at 10) [] (5 ∷ []) (0x02 ∷ 0x05 ∷ 0x04 ∷ 0x08 ∷ 0x05 ∷ 0x00 ∷ 0x00 ∷ 0x00 ∷ []))
    -- P2
    ∷ (shown p2 gives edited 6 (line_at 10) (from_to 6 (at3 (whole 10) (decimal 6 10) (whole 5)) (at3 (whole 10) (neg (decimal 6 10)) (whole 5))) (7 ∷ [])
    (0x02 ∷ 0x06 ∷ 0x06 ∷ 0x08 ∷ 0x07 ∷ 0x00 ∷ 0x01 ∷ 0x08 ∷ 0x05 ∷ 0x02 ∷ 0x03 ∷ 0x00 ∷ 0x04 ∷ 0x08 ∷ 0x05 ∷ []))
    -- P3
    ∷ (bytes (change_file.write (after start p2).fold) gives bytes (0x03 ∷ 0x05 ∷ 0x04 ∷ 0x06 ∷ 0x06 ∷ 0x08 ∷ 0x07 ∷ 0x00 ∷ 0x00 ∷ 0x00 ∷ []))
    -- P4, P5
    ∷ (shown (line_on 12 (whole 2)) gives edited 4 (line_at 0) [] (5 ∷ []) (0x02 ∷ 0x05 ∷ 0x04 ∷ 0x08 ∷ 0x05 ∷ 0x00 ∷ 0x00 ∷ 0x01 ∷ 0x01 ∷ 0x01 ∷ 0x03 ∷ []))
    ∷ (shown (line_on 10 (whole 2)) gives edited 4 (line_at 0) [] (5 ∷ []) (0x02 ∷ 0x05 ∷ 0x04 ∷ 0x08 ∷ 0x05 ∷ 0x00 ∷ 0x00 ∷ 0x00 ∷ []))
    -- P6, P7
    ∷ (shown (add_stop_line (stop_sign_on (3 ∷ []) (neg f1)) start) gives refusal 4 (2 ∷ []))
    ∷ (shown (add_stop_line (stop_sign_on (9 ∷ 3 ∷ 3 ∷ []) f0) start) gives refusal 2 (1 ∷ 9 ∷ []))
    -- P8
    ∷ (shown (line_on 0 (decimal 5 10000)) gives refusal 6 (5 ∷ []))
    ∷ (shown (line_on 0 (decimal 51 100000)) gives edited 4 (from_to 4 (at3 (whole 10) (decimal 51 100000) f0) (at3 (whole 10) (neg (decimal 51 100000)) f0)) [] (5 ∷ [])
    (0x02 ∷ 0x05 ∷ 0x04 ∷ 0x08 ∷ 0x05 ∷ 0x00 ∷ 0x00 ∷ 0x00 ∷ []))
    -- P9
    ∷ (bits (to_bits binary64 (square_root (whole 2))) gives bits 0x3FF6A09E667F3BCD)
    ∷ (bits (to_bits binary64 (square_root (fin false 1 (negsuc 1073)))) gives bits 0x1E60000000000000)
    -- P10
    ∷ (bytes (number.write 127) gives bytes (0x7F ∷ []))
    ∷ (bytes (number.write 128) gives bytes (0x80 ∷ 0x01 ∷ []))
    ∷ (reads (number.read (0x80 ∷ 0x00 ∷ [])) gives reads fault)
    ∷ []

pub worked_crossings : every holds_in table ≡ true
unfolding open_stop_line open_light neg to_bits
worked_crossings = refl

-- ---- the same as an equation

and_left : (a b : Bool) → (a && b) ≡ true → a ≡ true
and_left true b t = refl
and_left false b t = t

and_right : (a b : Bool) → (a && b) ≡ true → b ≡ true
and_right true b t = t
and_right false b t = absurd (true≢false (sym t))

same_is : (xs ys : List ℕ) → same_list xs ys ≡ true → xs ≡ ys
unfolding same_list
same_is [] [] t = refl
same_is [] (y ∷ ys) t = absurd (true≢false (sym t))
same_is (x ∷ xs) [] t = absurd (true≢false (sym t))
same_is (x ∷ xs) (y ∷ ys) t =
    ap₂ {C = List ℕ} (λ a r. a ∷ r) (eqb-true x y (and_left (eqb x y) (same_list xs ys) t)) (same_is xs ys (and_right (eqb x y) (same_list xs ys) t))

rows_equal : (rs : List Row) → every holds_in rs ≡ true → map (λ r. written r.is) rs ≡ map (λ r. written r.should) rs
unfolding every
rows_equal [] t = refl
rows_equal (r ∷ rs) t =
    ap₂ {C = List Bytes} (λ a b. a ∷ b)
    (same_is (written r.is) (written r.should) (and_left (holds_in r) (every holds_in rs) t))
    (rows_equal rs (and_right (holds_in r) (every holds_in rs) t))

pub crossings : map (λ r. written r.is) table ≡ map (λ r. written r.should) table
crossings = rows_equal table worked_crossings
