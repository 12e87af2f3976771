-- What settling a planned light answers; what storing it asks for and leaves.
use Rattle.std.specs.Prelude.{◌-◌, ℕ, ◌+◌, ◌^◌, ◌≤◌, ◌<◌, max, ◌≡◌, Bool, true, false, not, List, Float, length, Result}
use Rattle.rows.specs.Table.{rising}
use Rattle.centerline.specs.Line.{points_of}
use Rattle.store.specs.Layout.{count_of, next_of}
use Rattle.map.specs.Record.{Rule}
use Rattle.map.specs.Tables.{map_of}
use Rattle.place.specs.Readable.{Readable}
use Rattle.place.specs.Values.{Roomy}
use Rattle.edit.specs.declared.SignalRequest.{SignalRequest}
use Rattle.edit.specs.Light.{new_signal}
use Rattle.edit.specs.Request.{new_traffic_signal}
use Rattle.signal_row.specs.Row.{BulbsRead}
use Rattle.finishing.specs.Finish.{Settles}
use Rattle.light_draft.specs.declared.Light.{Light}
use Rattle.light_draft.specs.Drafting.{one_if, line_in, light_set, lifted_first}
use Rattle.light_store.specs.Storing.{GroupAsks, group_in, light_map}
use Rattle.light_room.specs.declared.SignalPlan.{SignalPlan}
use Rattle.refusal.specs.declared.Refusal.{Refusal}

-- r answers as settling the light's set with the fold f does
pub record LightSettles (ws f lanes : List ℕ) (l : Light) (clamped made : Bool) (r : Result (Unit {0}) Refusal) : Type 0 where
  pub settles : (cs : List Float) → Settles f (light_set l clamped made lanes (map_of ws cs).rules) l.late r

pub record AsksToStore (ws : List ℕ) (cs : List Float) (lanes : List ℕ) (q : SignalRequest) (p : SignalPlan) : Type 0 where
  pub readable : Readable ws cs
  pub rises : rising (λ (x : Rule). x.num) 0 (map_of ws cs).next (map_of ws cs).rules ≡ true
  pub line_room : Roomy p.line
  pub housing_room : Roomy p.housing
  pub lines : p.light.drawn ≡ true → count_of ws 2 < 64
  pub signals : count_of ws 3 < 64
  pub rules : p.light.joins ≡ false → length (lifted_first (map_of ws cs) (line_in p.light) lanes).rules < 128
  pub few : p.light.joins ≡ false → length lanes ≤ 16
  pub spare : max 1 (next_of ws) + one_if p.light.drawn + one_if (not p.light.joins) < 2 ^ 64 - 1
  pub number : p.light.signal ≡ max 1 (next_of ws) + one_if p.light.drawn
  pub lamps : p.bulbs.count ≤ 4
  pub group : p.light.joins ≡ true → GroupAsks (map_of ws cs) p.light.rule lanes p.joined

pub record StoredAs (ws : List ℕ) (cs : List Float) (lanes : List ℕ) (q : SignalRequest) (p : SignalPlan) (ws' : List ℕ) (cs' : List Float) : Type 0 where
  pub map : (points housing lamps : List Float) → BulbsRead q (points_of p.housing) lamps p.bulbs → map_of ws' cs'
      ≡ light_map (map_of ws cs) p.light lanes (points_of p.line) (new_signal (new_traffic_signal lanes q points housing lamps) p.light.signal (points_of p.housing)) (group_in (map_of ws cs) p.light)
