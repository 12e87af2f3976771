-- What is stored of a new signal: its row, and whether its lamps are on the map.
use Prim.Native.Nat.{ℕ, zero, suc, ◌+◌, ◌-◌, ◌*◌, ◌≤◌, ◌<◌}
use mathlib.Core.Path.{◌≡◌, refl, sym, ap, ◌∙◌}
use mathlib.Core.Bool.{Bool, true, false, not, ◌&&◌}
use mathlib.Core.List.{List, [], ◌∷◌, map}
use native.Mathlib.Omega.{arith}
use lib.Ieee.{Float}
use lib.ListN.{length, get_or, length-map}
use borrow.Author.Tests.{not-true, not-false}
use Rattle.rows.specs.Lists.{or_default, list_to, every}
use Rattle.rows.proofs.Indexed.{tab, list_to_tab, length-list_to, list_to_same, tab_step, tab_none}
use Rattle.geometry.specs.Point.{point_on_map}
use Rattle.map.specs.Record.{Bulb, signal_kind_number}
use Rattle.map.specs.Tables.{flag_at, point_from}
use Rattle.map.specs.Updates.{signal_of_parts}
use Rattle.signal_row.specs.declared.Bulbs.{Bulbs}
use Rattle.edit.specs.declared.SignalBulb.{SignalBulb}
use Rattle.edit.specs.declared.SignalRequest.{SignalRequest}
use Rattle.edit.specs.Light.{default_height, stored_bulb, positions, height_of, new_signal}
use Rattle.edit.specs.Request.{height_given, new_traffic_signal}
use Rattle.signal_row.specs.declared.BulbNumbers.{BulbNumbers}
use Rattle.signal_row.specs.Row.{no_bulb, stored_bulbs, BulbWords, RowMade, bulbs_on_map}

-- ---- lists by index

pub get_d_any : {A : Type 0} (l : List A) (i : ℕ) (d e : A) → i < length l → get_or l i d ≡ get_or l i e
get_d_any [] i d e h = absurd (let z : ⊥ = omega arith in z)
get_d_any (x ∷ l) zero d e h = refl
get_d_any (x ∷ l) (suc i) d e h = get_d_any l i d e (omega arith)

map_tab : {A B : Type 0} (f : A → B) (g : ℕ → A) (i n : ℕ) → map f (tab g i n) ≡ tab (λ j. f (g j)) i n
unfolding tab
map_tab f g i zero = refl
map_tab f g i (suc n) = ap (λ (l : List _). f (g i) ∷ l) (map_tab f g (suc i) n)

pub map-list_to : {A B : Type 0} (f : A → B) (g : ℕ → A) (n : ℕ) → map f (list_to g n) ≡ list_to (λ j. f (g j)) n
map-list_to f g n = ap (map f) (list_to_tab g n) ∙ map_tab f g 0 n ∙ sym (list_to_tab (λ j. f (g j)) n)

pub unmapped : {X Y : Type 0} (f : X → Y) (l : List X) (n : ℕ) → length (map f l) ≡ n → length l ≡ n
unmapped f l n e = sym (length-map l f) ∙ e

pub ruleset longs = (unmapped)

-- ---- the row

module _ (bs : List SignalBulb) (long : length bs ≡ 4) (z : SignalBulb) (w0 w1 w2 w3 : BulbNumbers)
    (e0 : BulbWords (get_or bs 0 z) w0) (e1 : BulbWords (get_or bs 1 z) w1) (e2 : BulbWords (get_or bs 2 z) w2) (e3 : BulbWords (get_or bs 3 z) w3) where
  stored_here : (i : ℕ) → i < 4 → stored_bulb (get_or bs i z) ≡ stored_bulb (get_or bs i no_bulb)
  stored_here i h = ap stored_bulb (get_d_any bs i z no_bulb (omega arith))

  module _ (n k points count : ℕ) (height : Float) where
    abbrev row : List ℕ
    row = n ∷ k ∷ points ∷ 1 ∷ count ∷ w0.color ∷ w0.arrow ∷ w1.color ∷ w1.arrow ∷ w2.color ∷ w2.arrow ∷ w3.color ∷ w3.arrow ∷ []

    abbrev more : List Float
    more =
        height
        ∷ (get_or bs 0 z).position.x
        ∷ (get_or bs 0 z).position.y
        ∷ (get_or bs 0 z).position.z
        ∷ (get_or bs 1 z).position.x
        ∷ (get_or bs 1 z).position.y
        ∷ (get_or bs 1 z).position.z
        ∷ (get_or bs 2 z).position.x
        ∷ (get_or bs 2 z).position.y
        ∷ (get_or bs 2 z).position.z
        ∷ (get_or bs 3 z).position.x
        ∷ (get_or bs 3 z).position.y
        ∷ (get_or bs 3 z).position.z
        ∷ []

    abbrev lamp : ℕ → Bulb
    lamp i = record { position = point_from more (1 + i * 3); color = get_or row (5 + i * 2) 0; arrow = get_or row (6 + i * 2) 0 }

    lamp_is : (i : ℕ) → i < 4 → lamp i ≡ stored_bulb (get_or bs i no_bulb)
    unfolding stored_bulb point_from
    lamp_is zero h = rw (e0.color, e0.arrow) (stored_here 0 h)
    lamp_is (suc zero) h = rw (e1.color, e1.arrow) (stored_here 1 h)
    lamp_is (suc (suc zero)) h = rw (e2.color, e2.arrow) (stored_here 2 h)
    lamp_is (suc (suc (suc zero))) h = rw (e3.color, e3.arrow) (stored_here 3 h)
    lamp_is (suc (suc (suc (suc i)))) h = absurd (let y : ⊥ = omega arith in y)

    lamps_are : count ≤ 4 → list_to lamp count ≡ map stored_bulb (list_to (λ i. get_or bs i no_bulb) count)
    lamps_are h = list_to_same (λ i. stored_bulb (get_or bs i no_bulb)) lamp count (λ i l. lamp_is i (omega arith)) ∙ sym (map-list_to stored_bulb (λ i. get_or bs i no_bulb) count)

    pub row_made : (q : SignalRequest) (b : Bulbs) → b.bulbs ≡ bs → b.count ≡ count → count ≤ 4 → k ≡ signal_kind_number q.kind → height ≡ or_default (height_given q.height) default_height
        → RowMade n q points b (record { words = row; more = more })
    unfolding signal_of_parts new_signal height_of new_traffic_signal flag_at stored_bulbs
    row_made q b eb ec h ek eh =
        record {
          number = refl;
          housing = refl;
          lamps = sym ec;
          signal = λ lanes given cs lamps pts read. rw (lamps_are h, ek, eh, ← eb, ← ec, read.answer lanes given cs (omega arith));
        }

pub stored_count : (b : Bulbs) → length (stored_bulbs b) ≡ b.count
unfolding stored_bulbs
stored_count b = length-map (list_to (λ i. get_or b.bulbs i no_bulb) b.count) stored_bulb ∙ length-list_to _ b.count

-- ---- on the map

abbrev stands_on : SignalBulb → Bool
stands_on b = point_on_map b.position

every_stands : (l : List SignalBulb) → every point_on_map (positions (map stored_bulb l)) ≡ every stands_on l
unfolding every stored_bulb
every_stands [] = refl
every_stands (b ∷ l) = ap (λ (t : Bool). stands_on b && t) (every_stands l)

-- the lamps before i are on the map
pub record Stand (all : List SignalBulb) (n i : ℕ) : Type 0 where
  pub within : i ≤ 4
  pub goes : every point_on_map (positions (map stored_bulb (list_to (λ j. get_or all j no_bulb) n))) ≡ every stands_on (tab (λ j. get_or all j no_bulb) i (n - i))

pub stand_start : (all : List SignalBulb) (n : ℕ) → Stand all n 0
stand_start all n =
    let e : n - 0 ≡ n = omega arith in
    record { within = omega arith; goes = every_stands (list_to (λ j. get_or all j no_bulb) n) ∙ rw e (ap (every stands_on) (list_to_tab (λ j. get_or all j no_bulb) n)) }

module _ (b : Bulbs) (i : ℕ) (inv : Stand b.bulbs b.count i) where
  pub stand_end : b.count ≤ i → true ≡ bulbs_on_map b
  unfolding bulbs_on_map stored_bulbs every
  stand_end h = sym (inv.goes ∙ rw (tab_none (λ j. get_or b.bulbs j no_bulb) b.count i h))

  module _ (l : length b.bulbs ≡ 4) (h : i < b.count) (f : i < 4) (z : SignalBulb) (t : Bool) (e : t ≡ point_on_map (get_or b.bulbs i z).position) where
    here : stands_on (get_or b.bulbs i no_bulb) ≡ t
    here = ap stands_on (get_d_any b.bulbs i no_bulb z (omega arith)) ∙ sym e

    pub stand_stop : not t ≡ true → false ≡ bulbs_on_map b
    unfolding bulbs_on_map stored_bulbs every
    stand_stop n = sym (inv.goes ∙ rw (tab_step (λ j. get_or b.bulbs j no_bulb) b.count i h, here, not-true t n))

    pub stand_next : not t ≡ false → Stand b.bulbs b.count (i + 1)
    unfolding every
    stand_next n = record { within = omega arith; goes = inv.goes ∙ rw (tab_step (λ j. get_or b.bulbs j no_bulb) b.count i h, here, not-false t n) }
