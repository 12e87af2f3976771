-- Where a reader stands, and what it has put into a row. A row is a list of words and a list of coordinates.
use Rattle.std.specs.Prelude.{ℕ, ◌+◌, ◌≤◌, ◌<◌, ◌≡◌, ◌⊎◌, true, ◌&&◌, List, leb, Float, length, get_or, drop, Option, Some, None}
use Rattle.std.specs.Float.{nan}
use Rattle.codec.specs.Format.{Bytes, Read, fault, got, Format, only}
use Rattle.codec.specs.Number.{number}
use Rattle.rows.specs.Lists.{list_to}
use Rattle.codec.specs.Items.{list, option}
use Rattle.map.specs.Record.{Bulb}
use Rattle.map.specs.MapFile.{height, polyline, numbers, bulb}
use Rattle.map.specs.Tables.{flag_at, option_at, list_at, point_from, line_at, bulb_at}

-- where a reader stands: a place in the bytes, or none after a fault
abbrev pub Place : Type 0
Place = Option ℕ

-- what a format reads from a place on: after a fault there is nothing to read
abbrev pub read_at : {A : Type 0} → Format A → Bytes → Place → Read A
read_at f s (Some i) = f.read (drop i s)
read_at f s None = fault

-- a value, and the place after it
abbrev pub got_at : {A : Type 0} → Bytes → Place → A → Read A
got_at s (Some i) a = got a (drop i s)
got_at s None a = fault

-- nothing has changed but the entries from a up to b
pub record Changed {A : Type 0} (l : List A) (a b : ℕ) (l' : List A) : Type 0 where
  pub long : length l' ≡ length l
  pub kept : (d : A) (j : ℕ) → (j < a) ⊎ (b ≤ j) → get_or l' j d ≡ get_or l j d

-- a number from least to most
unfoldable pub range : ℕ → ℕ → Format ℕ
range least most = only (λ k. leb least k && leb k most) number

abbrev pub largest : ℕ
largest = 18446744073709551615

-- What a call has read from p on stands in the row, and nothing else there has changed. Counts are within their room whatever was read.

-- a word
pub record Word (least most : ℕ) (s : Bytes) (p : Place) (ws : List ℕ) (o : ℕ) (r : Place) (ws' : List ℕ) : Type 0 where
  pub words : Changed ws o (o + 1) ws'
  pub few : get_or ws' o 0 ≤ most
  pub is : got_at s r (get_or ws' o 0) ≡ read_at (range least most) s p

-- a rule's list: its count and its entries
pub record Numbers (s : Bytes) (p : Place) (ws : List ℕ) (o : ℕ) (r : Place) (ws' : List ℕ) : Type 0 where
  pub words : Changed ws o (o + 17) ws'
  pub few : get_or ws' o 0 ≤ 16
  pub is : got_at s r (list_at ws' o) ≡ read_at numbers s p

-- coordinates, n of them
pub record Cells {A : Type 0} (f : Format A) (n : ℕ) (get : List Float → ℕ → A) (s : Bytes) (p : Place) (cs : List Float) (c : ℕ) (r : Place) (cs' : List Float) : Type 0 where
  pub coords : Changed cs c (c + n) cs'
  pub is : got_at s r (get cs' c) ≡ read_at f s p

abbrev pub cell_at : List Float → ℕ → Float
cell_at cs c = get_or cs c nan

-- a polyline: its count in a word, its points in the coordinates
pub record Line (s : Bytes) (p : Place) (ws : List ℕ) (o : ℕ) (cs : List Float) (c : ℕ) (r : Place) (ws' : List ℕ) (cs' : List Float) : Type 0 where
  pub words : Changed ws o (o + 1) ws'
  pub coords : Changed cs c (c + 192) cs'
  pub few : get_or ws' o 0 ≤ 64
  pub is : got_at s r (line_at cs' c (get_or ws' o 0)) ≡ read_at polyline s p

-- ---- options: a flag in a word, and the value where it says yes

pub record OptionLine (s : Bytes) (p : Place) (ws : List ℕ) (o : ℕ) (cs : List Float) (c : ℕ) (r : Place) (ws' : List ℕ) (cs' : List Float) : Type 0 where
  pub words : Changed ws o (o + 2) ws'
  pub coords : Changed cs c (c + 192) cs'
  pub few : flag_at ws' o ≡ true → get_or ws' (o + 1) 0 ≤ 64
  pub is : got_at s r (option_at ws' o (line_at cs' c (get_or ws' (o + 1) 0))) ≡ read_at (option polyline) s p

pub record OptionNumber (s : Bytes) (p : Place) (ws : List ℕ) (o : ℕ) (r : Place) (ws' : List ℕ) : Type 0 where
  pub words : Changed ws o (o + 2) ws'
  pub is : got_at s r (option_at ws' o (get_or ws' (o + 1) 0)) ≡ read_at (option number) s p

pub record OptionHeight (s : Bytes) (p : Place) (ws : List ℕ) (o : ℕ) (cs : List Float) (c : ℕ) (r : Place) (ws' : List ℕ) (cs' : List Float) : Type 0 where
  pub words : Changed ws o (o + 1) ws'
  pub coords : Changed cs c (c + 1) cs'
  pub is : got_at s r (option_at ws' o (get_or cs' c nan)) ≡ read_at (option height) s p

-- ---- bulbs

abbrev pub bulb_from : List ℕ → ℕ → List Float → ℕ → Bulb
bulb_from ws o cs c = record { position = point_from cs c; color = get_or ws o 0; arrow = get_or ws (o + 1) 0 }

pub record BulbAt (s : Bytes) (p : Place) (ws : List ℕ) (o : ℕ) (cs : List Float) (c : ℕ) (r : Place) (ws' : List ℕ) (cs' : List Float) : Type 0 where
  pub words : Changed ws o (o + 2) ws'
  pub coords : Changed cs c (c + 3) cs'
  pub is : got_at s r (bulb_from ws' o cs' c) ≡ read_at bulb s p

-- a signal's bulbs, where its row has them
pub record Bulbs (s : Bytes) (p : Place) (ws : List ℕ) (cs : List Float) (r : Place) (ws' : List ℕ) (cs' : List Float) : Type 0 where
  pub words : Changed ws 4 13 ws'
  pub coords : Changed cs 193 205 cs'
  pub is : got_at s r (list_to (bulb_at ws' cs') (get_or ws' 4 0)) ≡ read_at (list 4 bulb) s p
