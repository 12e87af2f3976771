-- A list of calls in plain memory: rows of 28 words, and two pools, of numbers and of measures, in which the rows' lists stand.
use Rattle.std.specs.Prelude.{ℕ, ◌+◌, ◌*◌, ◌/◌, Bool, not, ◌&&◌, ◌||◌, cond, List, [], ◌∷◌, eqb, leb, ltb, Float, length, get_or, Option, None, Some}
use Rattle.std.specs.Float.{nan}
use Rattle.rows.specs.Lists.{list_to, joined}
use Rattle.rows.specs.Rows.{cut}
use Rattle.geometry.specs.Double.{f0}
use Rattle.edit.specs.StopLine.{NewStopLine}
use Rattle.edit.specs.Light.{NewTrafficSignal}
use Rattle.boundary.specs.Numbers.{flag}
use Rattle.boundary.specs.Plain.{stop_line_by, signal_by}
use Rattle.run.specs.Run.{Edit, line, signal, links}

abbrev pub row_words : ℕ
row_words = 28

-- the n entries from index at lie within a pool
abbrev pub within : {A : Type 0} → List A → ℕ → ℕ → Bool
within pool at n = leb (at + n) (length pool)

-- ---- parts of a pool: one that a call does not read is not looked at, and stands for nothing

abbrev pub part_within : {A : Type 0} → Bool → List A → ℕ → ℕ → Bool
part_within read pool at n = not read || within pool at n

unfoldable pub part : {A : Type 0} → Bool → List A → ℕ → ℕ → List A
part read pool at n = cond read (cut pool at n) []

unfoldable pub measure : Bool → List Float → ℕ → Float
measure read pool at = cond read (get_or pool at nan) f0

-- ---- calls by numbers: a number that is no case is no call

abbrev pub line_of : Option NewStopLine → Option Edit
line_of None = None
line_of (Some a) = Some (line a)

abbrev pub signal_of : Option NewTrafficSignal → Option Edit
signal_of None = None
signal_of (Some a) = Some (signal a)

unfoldable pub line_by : List ℕ → ℕ → Float → List Float → ℕ → Option Edit
line_by lanes placement measure given rule = line_of (stop_line_by lanes placement measure given rule)

unfoldable pub light_by : List ℕ → List ℕ → Float → Float → List Float → List Float → List Float → Option Edit
light_by lanes ns measure height points housing lamps = signal_of (signal_by lanes ns measure height points housing lamps)

abbrev pub links_by : ℕ → List ℕ → List ℕ → List ℕ → Edit
links_by rule lanes crosswalks stop_lines = links (record { rule = rule; lanes = lanes; crosswalks = crosswalks; stop_lines = stop_lines })

-- ---- rows: word 0 what is called, 1 and 2 place and count of the lanes. A part that is read and does not lie within its pool makes no call.

-- an offset or a station is read for placements 0 and 1, given coordinates for placement 2
abbrev pub measured : ℕ → Bool
measured placement = ltb placement 2

abbrev pub pointed : ℕ → Bool
pointed placement = eqb placement 2

-- 3 placement, 4 rule, 5 place of the measure, 6 and 7 the given coordinates
unfoldable pub line_within : List ℕ → List ℕ → List Float → Bool
line_within row lists reals =
    let w : ℕ → ℕ = λ i. get_or row i 0 in
    within lists (w 1) (w 2) && part_within (measured (w 3)) reals (w 5) 1 && part_within (pointed (w 3)) reals (w 6) (w 7)

unfoldable pub line_row : List ℕ → List ℕ → List Float → Option Edit
line_row row lists reals =
    let w : ℕ → ℕ = λ i. get_or row i 0 in
    cond (line_within row lists reals) (line_by (cut lists (w 1) (w 2)) (w 3) (measure (measured (w 3)) reals (w 5)) (part (pointed (w 3)) reals (w 6) (w 7)) (w 4)) None

-- a light's measure and its given line are read where the line is new: word 3 is its choice, word 5 the placement
abbrev pub light_measured : List ℕ → Bool
light_measured row = eqb (get_or row 3 0) 2 && measured (get_or row 5 0)

abbrev pub light_pointed : List ℕ → Bool
light_pointed row = eqb (get_or row 3 0) 2 && pointed (get_or row 5 0)

-- 3 to 19 the light's numbers, 20 place of the offset or station, 21 of the height, 22 and 23 the coordinates of a given line, 24 and 25 of the housing, 26 and
-- 27 of the lamps
unfoldable pub signal_within : List ℕ → List ℕ → List Float → Bool
signal_within row lists reals =
    let w : ℕ → ℕ = λ i. get_or row i 0 in
    within lists (w 1) (w 2) && part_within (light_measured row) reals (w 20) 1 && part_within (flag (w 7)) reals (w 21) 1
    && part_within (light_pointed row) reals (w 22) (w 23) && part_within (flag (w 6)) reals (w 24) (w 25) && part_within (flag (w 9)) reals (w 26) (w 27)

unfoldable pub signal_row : List ℕ → List ℕ → List Float → Option Edit
signal_row row lists reals =
    let w : ℕ → ℕ = λ i. get_or row i 0 in
    cond (signal_within row lists reals)
    (light_by (cut lists (w 1) (w 2)) (cut row 3 17) (measure (light_measured row) reals (w 20)) (measure (flag (w 7)) reals (w 21)) (part (light_pointed row) reals (w 22) (w 23))
    (part (flag (w 6)) reals (w 24) (w 25)) (part (flag (w 9)) reals (w 26) (w 27)))
    None

-- 3 the rule, 4 and 5 the crosswalks, 6 and 7 the lines
unfoldable pub links_within : List ℕ → List ℕ → Bool
links_within row lists = within lists (get_or row 1 0) (get_or row 2 0) && within lists (get_or row 4 0) (get_or row 5 0) && within lists (get_or row 6 0) (get_or row 7 0)

unfoldable pub links_row : List ℕ → List ℕ → Option Edit
links_row row lists =
    let w : ℕ → ℕ = λ i. get_or row i 0 in
    cond (links_within row lists) (Some (links_by (w 3) (cut lists (w 1) (w 2)) (cut lists (w 4) (w 5)) (cut lists (w 6) (w 7)))) None

-- 1 a stop line, 2 a light, 3 links; anything else is no call
unfoldable pub call_at : List ℕ → List ℕ → List Float → Option Edit
call_at row lists reals =
    cond (eqb (get_or row 0 0) 1) (line_row row lists reals)
    (cond (eqb (get_or row 0 0) 2) (signal_row row lists reals) (cond (eqb (get_or row 0 0) 3) (links_row row lists) None))

-- row i
abbrev pub row_at : List ℕ → List ℕ → List Float → ℕ → Option Edit
row_at calls lists reals i = call_at (cut calls (i * row_words) row_words) lists reals

-- the rows in order; an incomplete row at the end is passed over
unfoldable pub rows_in : List ℕ → List ℕ → List Float → List (Option Edit)
rows_in calls lists reals = list_to (row_at calls lists reals) (length calls / row_words)

abbrev pub if_call : Option Edit → List Edit
if_call None = []
if_call (Some e) = e ∷ []

-- those that are calls
unfoldable pub edits_of : List (Option Edit) → List Edit
edits_of = joined if_call
