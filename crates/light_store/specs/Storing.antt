-- What storing a light asks for and leaves, step by step.
use Rattle.std.specs.Prelude.{◌-◌, ℕ, ◌+◌, ◌*◌, ◌^◌, ◌≤◌, ◌<◌, max, ◌≡◌, Bool, true, false, not, cond, List, [], ◌∷◌, Float, length, get_or, take, Option, None}
use Rattle.rows.specs.Table.{rising}
use Rattle.geometry.specs.Polyline.{Polyline}
use Rattle.centerline.specs.declared.Line.{Line}
use Rattle.centerline.specs.Line.{points_of}
use Rattle.store.specs.Layout.{SizedWords, Sized, count_of, next_of, row_of, all_coords}
use Rattle.map.specs.declared.Entries.{Entries}
use Rattle.std.specs.Prelude.{Some, None}
use Rattle.map.specs.Record.{light, Signal, Rule, Map}
use Rattle.map.specs.Rows.{with_line, with_signal, with_rule}
use Rattle.map.specs.Lookup.{rule_of}
use Rattle.map.specs.Tables.{map_of}
use Rattle.map.specs.Access.{lookup}
use Rattle.map.specs.Updates.{signal_of_parts}
use Rattle.place.specs.Readable.{Readable}
use Rattle.place.specs.Values.{Roomy}
use Rattle.edit.specs.Light.{joined_lanes}
use Rattle.lifting.specs.Lifting.{entries_of}
use Rattle.signal_row.specs.declared.SignalRow.{SignalRow}
use Rattle.grouping.specs.Group.{GroupPut}
use Rattle.light_draft.specs.declared.Light.{Light}
use Rattle.light_draft.specs.Drafting.{one_if, line_in, lifted_first, with_light, Joinable}

-- ---- the steps

pub record LiftStored (ws : List ℕ) (cs : List Float) (l : Light) (lanes ws' : List ℕ) (cs' : List Float) : Type 0 where
  pub map : map_of ws' cs' ≡ lifted_first (map_of ws cs) (line_in l) lanes
  pub readable : Readable ws' cs'

abbrev pub line_maybe : Light → Option ℕ
line_maybe l = cond l.has_line (Some l.line) None

-- the row of rule g is that of a light with room for a signal, and its lanes fit
pub record RowReady (ws : List ℕ) (g : ℕ) (joined : Entries) : Type 0 where
  pub there : lookup ws 5 g ≡ None → ⊥
  pub kind : (i : ℕ) → lookup ws 5 g ≡ Some i → get_or (row_of ws 5 i) 1 0 ≡ 1
  pub signals : (i : ℕ) → lookup ws 5 g ≡ Some i → get_or (row_of ws 5 i) 41 0 < 16
  pub room : length joined.entries ≡ 16
  pub few : joined.count ≤ 16

pub record GroupStored (ws : List ℕ) (l : Light) (joined : Entries) (ws' : List ℕ) : Type 0 where
  pub kept : l.joins ≡ false → ws' ≡ ws
  pub put : l.joins ≡ true → (i : ℕ) → lookup ws 5 l.rule ≡ Some i → GroupPut ws i l.signal (line_maybe l) (entries_of joined) ws'

pub record LineAsks (ws : List ℕ) (cs : List Float) (drawn : Bool) (line : Line) : Type 0 where
  pub sized : Sized ws cs
  pub room : Roomy line
  pub free : drawn ≡ true → count_of ws 2 < 64
  pub next : drawn ≡ true → next_of ws < 2 ^ 64 - 1

pub record LineStored (ws : List ℕ) (cs : List Float) (drawn : Bool) (line : Line) (ws' : List ℕ) (cs' : List Float) : Type 0 where
  pub map : map_of ws' cs' ≡ cond drawn (with_line (map_of ws cs) (points_of line)) (map_of ws cs)
  pub sized : Sized ws' cs'

-- the coordinates of a line's points
abbrev pub coords_in : Line → List Float
coords_in l = take (l.count * 3) l.coords

pub record SignalAsks (ws : List ℕ) (cs : List Float) (row : SignalRow) (housing : Line) : Type 0 where
  pub sized : Sized ws cs
  pub room : Roomy housing
  pub free : count_of ws 3 < 64
  pub next : next_of ws < 2 ^ 64 - 1
  pub number : get_or row.words 0 0 ≡ max 1 (next_of ws)
  pub points : get_or row.words 2 0 ≡ housing.count
  pub lamps : get_or row.words 4 0 ≤ 4

pub record SignalStored (ws : List ℕ) (cs : List Float) (row : SignalRow) (housing : Line) (ws' : List ℕ) (cs' : List Float) : Type 0 where
  pub map : map_of ws' cs' ≡ with_signal (map_of ws cs) (signal_of_parts row.words (coords_in housing) row.more)
  pub sized : Sized ws' cs'

pub record RuleAsks (ws : List ℕ) (l : Light) (lanes : List ℕ) : Type 0 where
  pub sized : SizedWords ws
  pub free : l.joins ≡ false → count_of ws 5 < 128
  pub next : l.joins ≡ false → next_of ws < 2 ^ 64 - 1
  pub few : l.joins ≡ false → length lanes ≤ 16

pub record RuleStored (ws : List ℕ) (l : Light) (lanes ws' : List ℕ) : Type 0 where
  pub map : (cs : List Float) → length cs ≡ all_coords → map_of ws' cs ≡ cond l.joins (map_of ws cs) (with_rule (map_of ws cs) (light (l.signal ∷ []) (line_in l)) lanes)

-- ---- all of them

pub record GroupAsks (m : Map) (g : ℕ) (lanes : List ℕ) (joined : Entries) : Type 0 where
  pub joins : Joinable m g
  pub free : length joins.signals < 16
  pub room : length joined.entries ≡ 16
  pub few : joined.count ≤ 16
  pub all : entries_of joined ≡ joined_lanes joins.rule.lanes lanes

pub record StoreAsks (ws : List ℕ) (cs : List Float) (lanes : List ℕ) (l : Light) (line housing : Line) (row : SignalRow) (joined : Entries) : Type 0 where
  pub readable : Readable ws cs
  pub rises : rising (λ (x : Rule). x.num) 0 (map_of ws cs).next (map_of ws cs).rules ≡ true
  pub line_room : Roomy line
  pub housing_room : Roomy housing
  pub lines : l.drawn ≡ true → count_of ws 2 < 64
  pub signals : count_of ws 3 < 64
  pub rules : l.joins ≡ false → length (lifted_first (map_of ws cs) (line_in l) lanes).rules < 128
  pub few : l.joins ≡ false → length lanes ≤ 16
  pub spare : max 1 (next_of ws) + one_if l.drawn + one_if (not l.joins) < 2 ^ 64 - 1
  pub number : l.signal ≡ max 1 (next_of ws) + one_if l.drawn
  pub row_number : get_or row.words 0 0 ≡ l.signal
  pub row_points_is : get_or row.words 2 0 ≡ housing.count
  pub row_lamps : get_or row.words 4 0 ≤ 4
  pub group : l.joins ≡ true → GroupAsks (map_of ws cs) l.rule lanes joined

-- the rule that is joined
abbrev pub group_in : Map → Light → Option Rule
group_in m l = cond l.joins (rule_of m l.rule) None

unfoldable pub light_map : Map → Light → List ℕ → Polyline → Signal → Option Rule → Map
light_map m l lanes xs s o =
    let one = lifted_first m (line_in l) lanes in
    let two = cond l.drawn (with_line one xs) one in
    with_light (with_signal two s) lanes l.signal (line_in l) o

pub record LightStored (ws : List ℕ) (cs : List Float) (lanes : List ℕ) (l : Light) (line housing : Line) (row : SignalRow) (ws' : List ℕ) (cs' : List Float) : Type 0 where
  pub map : map_of ws' cs' ≡ light_map (map_of ws cs) l lanes (points_of line) (signal_of_parts row.words (coords_in housing) row.more) (group_in (map_of ws cs) l)
