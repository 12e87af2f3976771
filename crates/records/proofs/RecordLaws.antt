-- Each record from its fields.
use Prim.Native.Nat.{ℕ}
use mathlib.Core.Path.{◌∙◌}
use mathlib.Core.List.{List}
use native.Mathlib.Omega.{arith}
use lib.Ieee.{Float}
use Rattle.codec.specs.Format.{Bytes, ◌⊗◌}
use Rattle.codec.specs.Number.{number}
use Rattle.codec.specs.Items.{below, list, option}
use Rattle.map.specs.MapFile.{polyline, boundary_ref, height, bulb, lane, line_string, signal, crosswalk}
use Rattle.map.specs.Tables.{lane_in, line_string_in, signal_in, crosswalk_in}
use Rattle.fields.specs.Fields.{Place, largest, Word, Line, OptionLine, OptionHeight, Bulbs}
use Rattle.fields.proofs.Places.{place_then, place_via}
use Rattle.records.specs.Records.{SideRead, RowRead}
use Rattle.records.proofs.Steps.{kept_one, kept_more, number_at, below_at, side_got, side_at_lem, line_at_lem, height_at}

pub ruleset reading_side = (side_got)

module _ (s : Bytes) (p p1 p2 p3 p4 p5 : Place) (w w1 w2 w3 w4 w5 : List ℕ) (cs cs5 : List Float) where
  pub lane_got : Word 0 largest s p w 0 p1 w1 → Word 0 7 s p1 w1 1 p2 w2 → SideRead s p2 w2 2 p3 w3 → SideRead s p3 w3 4 p4 w4 → OptionLine s p4 w4 6 cs 0 p5 w5 cs5
      → RowRead lane lane_in s p w cs p5 w5 cs5
  unfolding lane lane_in
  lane_got a b l r o =
      let k4 = kept_one w4 w5 6 8 o.words in
      let k3 = kept_more w3 w4 w5 4 6 6 r.words k4 (omega arith) in
      let k2 = kept_more w2 w3 w5 2 4 4 l.words k3 (omega arith) in
      let k1 = kept_more w1 w2 w5 1 2 2 b.words k2 (omega arith) in
      record {
        words = o.words.long ∙ r.words.long ∙ l.words.long ∙ b.words.long ∙ a.words.long;
        coords = o.coords.long;
        is = place_via (number ⊗ below 8 ⊗ boundary_ref ⊗ boundary_ref ⊗ option polyline) _ _ _ _ s p p5 _
            (place_then number (below 8 ⊗ boundary_ref ⊗ boundary_ref ⊗ option polyline) s p p1 p5 _ _ (number_at s p p1 w w1 w5 0 1 a k1 (omega arith))
            (place_then (below 8) (boundary_ref ⊗ boundary_ref ⊗ option polyline) s p1 p2 p5 _ _ (below_at s p1 p2 w1 w2 w5 1 2 7 b k2 (omega arith))
            (place_then boundary_ref (boundary_ref ⊗ option polyline) s p2 p3 p5 _ _ (side_at_lem s p2 p3 w2 w3 w5 2 4 l k3 (omega arith))
            (place_then boundary_ref (option polyline) s p3 p4 p5 _ _ (side_at_lem s p3 p4 w3 w4 w5 4 6 r k4 (omega arith)) o.is))));
      }

pub ruleset reading_lane = (lane_got)

module _ (s : Bytes) (p p1 p2 : Place) (w w1 w2 : List ℕ) (cs cs2 : List Float) where
  pub line_string_got : Word 0 largest s p w 0 p1 w1 → Line s p1 w1 1 cs 0 p2 w2 cs2 → RowRead line_string line_string_in s p w cs p2 w2 cs2
  unfolding line_string line_string_in
  line_string_got a l =
      record {
        words = l.words.long ∙ a.words.long;
        coords = l.coords.long;
        is = place_via (number ⊗ polyline) _ _ _ _ s p p2 _ (place_then number polyline s p p1 p2 _ _ (number_at s p p1 w w1 w2 0 1 a (kept_one w1 w2 1 2 l.words) (omega arith)) l.is);
      }

pub ruleset reading_line_string = (line_string_got)

module _ (s : Bytes) (p p1 p2 p3 p4 p5 : Place) (w w1 w2 w3 w4 w5 : List ℕ) (cs cs3 cs4 cs5 : List Float) where
  pub signal_got : Word 0 largest s p w 0 p1 w1 → Word 0 1 s p1 w1 1 p2 w2 → Line s p2 w2 2 cs 0 p3 w3 cs3 → OptionHeight s p3 w3 3 cs3 192 p4 w4 cs4 → Bulbs s p4 w4 cs4 p5 w5 cs5
      → RowRead signal signal_in s p w cs p5 w5 cs5
  unfolding signal signal_in
  signal_got a b l h o =
      let k4 = kept_one w4 w5 4 13 o.words in
      let k3 = kept_more w3 w4 w5 3 4 4 h.words k4 (omega arith) in
      let k2 = kept_more w2 w3 w5 2 3 3 l.words k3 (omega arith) in
      let k1 = kept_more w1 w2 w5 1 2 2 b.words k2 (omega arith) in
      let c4 = kept_one cs4 cs5 193 205 o.coords in
      let c3 = kept_more cs3 cs4 cs5 192 193 193 h.coords c4 (omega arith) in
      record {
        words = o.words.long ∙ h.words.long ∙ l.words.long ∙ b.words.long ∙ a.words.long;
        coords = o.coords.long ∙ h.coords.long ∙ l.coords.long;
        is = place_via (number ⊗ below 2 ⊗ polyline ⊗ option height ⊗ list 4 bulb) _ _ _ _ s p p5 _
            (place_then number (below 2 ⊗ polyline ⊗ option height ⊗ list 4 bulb) s p p1 p5 _ _ (number_at s p p1 w w1 w5 0 1 a k1 (omega arith))
            (place_then (below 2) (polyline ⊗ option height ⊗ list 4 bulb) s p1 p2 p5 _ _ (below_at s p1 p2 w1 w2 w5 1 2 1 b k2 (omega arith))
            (place_then polyline (option height ⊗ list 4 bulb) s p2 p3 p5 _ _ (line_at_lem s p2 p3 w2 w3 w5 2 3 cs cs3 cs5 0 192 l k3 (omega arith) c3 (omega arith))
            (place_then (option height) (list 4 bulb) s p3 p4 p5 _ _ (height_at s p3 p4 w3 w4 w5 3 4 cs3 cs4 cs5 192 193 h k4 (omega arith) c4 (omega arith)) o.is))));
      }

pub ruleset reading_signal = (signal_got)

module _ (s : Bytes) (p p1 p2 p3 p4 : Place) (w w1 w2 w3 w4 : List ℕ) (cs cs2 cs3 cs4 : List Float) where
  pub crosswalk_got : Word 0 largest s p w 0 p1 w1 → Line s p1 w1 1 cs 0 p2 w2 cs2 → Line s p2 w2 2 cs2 192 p3 w3 cs3 → OptionLine s p3 w3 3 cs3 384 p4 w4 cs4
      → RowRead crosswalk crosswalk_in s p w cs p4 w4 cs4
  unfolding crosswalk crosswalk_in
  crosswalk_got a l r o =
      let k3 = kept_one w3 w4 3 5 o.words in
      let k2 = kept_more w2 w3 w4 2 3 3 r.words k3 (omega arith) in
      let k1 = kept_more w1 w2 w4 1 2 2 l.words k2 (omega arith) in
      let c3 = kept_one cs3 cs4 384 576 o.coords in
      let c2 = kept_more cs2 cs3 cs4 192 384 384 r.coords c3 (omega arith) in
      record {
        words = o.words.long ∙ r.words.long ∙ l.words.long ∙ a.words.long;
        coords = o.coords.long ∙ r.coords.long ∙ l.coords.long;
        is = place_via (number ⊗ polyline ⊗ polyline ⊗ option polyline) _ _ _ _ s p p4 _
            (place_then number (polyline ⊗ polyline ⊗ option polyline) s p p1 p4 _ _ (number_at s p p1 w w1 w4 0 1 a k1 (omega arith))
            (place_then polyline (polyline ⊗ option polyline) s p1 p2 p4 _ _ (line_at_lem s p1 p2 w1 w2 w4 1 2 cs cs2 cs4 0 192 l k2 (omega arith) c2 (omega arith))
            (place_then polyline (option polyline) s p2 p3 p4 _ _ (line_at_lem s p2 p3 w2 w3 w4 2 3 cs2 cs3 cs4 192 384 r k3 (omega arith) c3 (omega arith)) o.is)));
      }

pub ruleset reading_crosswalk = (crosswalk_got)
