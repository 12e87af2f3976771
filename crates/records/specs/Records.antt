-- The records of all kinds: 0 lane, 1 boundary, 2 stop line, 3 signal, 4 crosswalk, 5 rule.
use Rattle.std.specs.Prelude.{ℕ, zero, suc, ◌+◌, ◌≡◌, List, Float, length, get_or, Option}
use Rattle.codec.specs.Format.{Bytes, Format, ◌⊗◌, nothing}
use Rattle.codec.specs.Number.{number}
use Rattle.codec.specs.Items.{from, option}
use Rattle.geometry.specs.Polyline.{Polyline}
use Rattle.map.specs.Record.{BoundaryRef, Lane, LineString, Signal, Crosswalk, Rule}
use Rattle.map.specs.MapFile.{polyline, boundary_ref, lane, line_string, signal, crosswalk, body, rule}
use Rattle.map.specs.Tables.{flag_at, option_at, list_at, line_at, lane_in, line_string_in, signal_in, crosswalk_in, body_of, rule_in}
use Rattle.fields.specs.Fields.{Place, read_at, got_at, Changed}

abbrev pub Rec : ℕ → Type 0
Rec zero = Lane
Rec (suc zero) = LineString
Rec (suc (suc zero)) = LineString
Rec (suc (suc (suc zero))) = Signal
Rec (suc (suc (suc (suc zero)))) = Crosswalk
Rec (suc (suc (suc (suc (suc zero))))) = Rule
Rec (suc (suc (suc (suc (suc (suc k)))))) = Unit {0}

abbrev pub record_form : (k : ℕ) → Format (Rec k)
record_form zero = lane
record_form (suc zero) = line_string
record_form (suc (suc zero)) = line_string
record_form (suc (suc (suc zero))) = signal
record_form (suc (suc (suc (suc zero)))) = crosswalk
record_form (suc (suc (suc (suc (suc zero))))) = rule
record_form (suc (suc (suc (suc (suc (suc k)))))) = nothing

-- the record of a row
abbrev pub record_in : (k : ℕ) → List ℕ → List Float → Rec k
record_in zero r c = lane_in r c
record_in (suc zero) r c = line_string_in r c
record_in (suc (suc zero)) r c = line_string_in r c
record_in (suc (suc (suc zero))) r c = signal_in r c
record_in (suc (suc (suc (suc zero)))) r c = crosswalk_in r c
record_in (suc (suc (suc (suc (suc zero))))) r c = rule_in r c
record_in (suc (suc (suc (suc (suc (suc k)))))) r c = tt

-- a side of a lane: two words
abbrev pub side_at : List ℕ → ℕ → BoundaryRef
side_at ws o = record { boundary = get_or ws o 0; reversed = flag_at ws (o + 1) }

pub record SideRead (s : Bytes) (p : Place) (ws : List ℕ) (o : ℕ) (r : Place) (ws' : List ℕ) : Type 0 where
  pub words : Changed ws o (o + 2) ws'
  pub is : got_at s r (side_at ws' o) ≡ read_at boundary_ref s p

-- what is read by f from p on stands in the row
pub record RowRead {A : Type 0} (f : Format A) (get : List ℕ → List Float → A) (s : Bytes) (p : Place) (ws : List ℕ) (cs : List Float) (r : Place) (ws' : List ℕ) (cs' : List Float) : Type 0 where
  pub words : length ws' ≡ length ws
  pub coords : length cs' ≡ length cs
  pub is : got_at s r (get ws' cs') ≡ read_at f s p

-- a rule's kind and fields stand in the row, and its number, lanes and controlled crosswalks are as they were
pub record BodyRead (s : Bytes) (p : Place) (ws : List ℕ) (cs : List Float) (r : Place) (ws' : List ℕ) (cs' : List Float) : Type 0 where
  pub words : length ws' ≡ length ws
  pub number : get_or ws' 0 0 ≡ get_or ws 0 0
  pub coords : length cs' ≡ length cs
  pub is : got_at s r (body_of (get_or ws' 1 0) ws' cs') ≡ read_at body s p

-- ---- a rule's fields, by its kind, where its row has them

abbrev pub light_in : List ℕ → List ℕ × Option ℕ
light_in r = (list_at r 41, option_at r 3 (get_or r 4 0))

abbrev pub sign_in : List ℕ → List Float → ℕ × (Option Polyline × Option ℕ)
sign_in r c = (get_or r 2 0, (option_at r 5 (line_at c 0 (get_or r 6 0)), option_at r 3 (get_or r 4 0)))

abbrev pub right_of_way_in : List ℕ → List ℕ × (List ℕ × List ℕ)
right_of_way_in r = (list_at r 41, (list_at r 58, list_at r 75))

abbrev pub crossing_in : List ℕ → ℕ × List ℕ
crossing_in r = (get_or r 2 0, list_at r 75)

-- what is read by f from p on stands in the words, past a rule's number and kind
pub record PartRead {A : Type 0} (f : Format A) (get : List ℕ → A) (s : Bytes) (p : Place) (ws : List ℕ) (r : Place) (ws' : List ℕ) : Type 0 where
  pub words : Changed ws 2 92 ws'
  pub is : got_at s r (get ws') ≡ read_at f s p

pub record SignRead (s : Bytes) (p : Place) (ws : List ℕ) (cs : List Float) (r : Place) (ws' : List ℕ) (cs' : List Float) : Type 0 where
  pub words : Changed ws 2 92 ws'
  pub coords : length cs' ≡ length cs
  pub is : got_at s r (sign_in ws' cs') ≡ read_at (from 1 ⊗ option polyline ⊗ option number) s p
