-- A new signal's lamps: where the standard ones stand, and what is stored.
use Rattle.std.specs.Prelude.{None, Option, Some}
use Prim.Native.Nat.{ℕ, zero, suc, ◌+◌, ◌*◌, ◌/◌, ◌%◌, ◌≤◌, ◌<◌}
use native.Mathlib.Omega.{arith}
use mathlib.Core.Path.{◌≡◌, sym, ap, ◌∙◌}
use mathlib.Core.Bool.{true, false}
use mathlib.Core.List.{List, [], ◌∷◌, map}
use lib.Ieee.{Float, nan, binary64, div, of_bits}
use lib.ListN.{length, get_or, get_or-eq_default, length-map}
use Rattle.rows.specs.Lists.{or_default, list_to}
use Rattle.rows.proofs.Bools.{clash}
use Rattle.rows.proofs.Indexed.{length-list_to, list_to_same}
use Rattle.geometry.specs.declared.Point3.{Point3}
use Rattle.geometry.specs.Double.{◌⊕◌, ◌⊘◌, whole, half}
use Rattle.geometry.specs.Point.{at3, origin}
use Rattle.geometry.specs.Polyline.{Polyline, point_in, point_at_fraction}
use Rattle.map.specs.declared.SignalKind.{SignalKind}
use Rattle.map.specs.declared.SignalKind.TheVariants.{Vehicle, Pedestrian}
use Rattle.map.specs.declared.BulbColor.{BulbColor}
use Rattle.map.specs.declared.BulbColor.TheVariants.{Red, Yellow, Green}
use Rattle.signal_row.specs.declared.Bulbs.{Bulbs}
use Rattle.edit.specs.declared.Height.{Height}
use Rattle.edit.specs.declared.Height.TheVariants as h
use Rattle.edit.specs.declared.SignalBulb.{SignalBulb}
use Rattle.edit.specs.declared.SignalRequest.{SignalRequest}
use Rattle.edit.specs.Light.{f2, default_height, stored_bulb, colors, default_bulb, default_bulbs, bulbs_or, height_of, bulbs_of}
use Rattle.edit.specs.declared.Look.{Look}
use Rattle.edit.specs.Request.{height_given, lamp_count, plain_look, lamp_at, lamps_given, new_traffic_signal}
use Rattle.signal_row.specs.Row.{no_bulb, bulb_place, BulbMade, BulbGiven, LampsRead, StandardMade, stored_bulbs, BulbsRead}
use Rattle.signal_row.proofs.StoredLaws.{get_d_any, stored_count}

module _ (a : Height) where
  pub height_standard : a ≡ h.Standard → default_height ≡ or_default (height_given a) default_height
  unfolding or_default
  height_standard q = rw q

  pub height_given_lem : (x : Float) → a ≡ h.Metres x → x ≡ or_default (height_given a) default_height
  unfolding or_default
  height_given_lem x q = rw q

module _ (xs : Polyline) (height : Float) (i n : ℕ) (m : Option Point3) (e : m ≡ point_at_fraction xs ((whole i ⊕ half) ⊘ whole n)) where
  pub place_none : m ≡ None → at3 origin.x origin.y (origin.z ⊕ height ⊘ f2) ≡ bulb_place xs height i n
  unfolding bulb_place or_default
  place_none q = rw (← e, q)

  pub place_at_lem : (p : Point3) → m ≡ Some p → at3 p.x p.y (p.z ⊕ height ⊘ f2) ≡ bulb_place xs height i n
  unfolding bulb_place or_default
  place_at_lem p q = rw (← e, q)

-- ---- the standard lamps

made_is : (xs : Polyline) (height : Float) (cs : List BulbColor) (i : ℕ) (b : SignalBulb) → BulbMade xs height i (length cs) (get_or cs i Red) b → stored_bulb b ≡ default_bulb xs height cs i
unfolding stored_bulb default_bulb bulb_place
made_is xs height cs i b e = rw (e.place, e.tint, e.bare)

module _ (kind : SignalKind) (xs : Polyline) (height : Float) (a b z : SignalBulb) where
  pub vehicle_bulbs : (c : SignalBulb) → kind ≡ Vehicle → BulbMade xs height 0 3 Green a → BulbMade xs height 1 3 Yellow b → BulbMade xs height 2 3 Red c
      → StandardMade kind xs height (record { count = 3; bulbs = a ∷ b ∷ c ∷ z ∷ [] })
  unfolding stored_bulbs default_bulbs colors list_to
  vehicle_bulbs c q ea eb ec =
      record {
        lamps =
            rw (
              q,
              made_is xs height (Green ∷ Yellow ∷ Red ∷ []) 0 a ea,
              made_is xs height (Green ∷ Yellow ∷ Red ∷ []) 1 b eb,
              made_is xs height (Green ∷ Yellow ∷ Red ∷ []) 2 c ec,
            );
        few = omega arith;
      }

  pub pedestrian_bulbs : kind ≡ Pedestrian → BulbMade xs height 0 2 Green a → BulbMade xs height 1 2 Red b
      → StandardMade kind xs height (record { count = 2; bulbs = a ∷ b ∷ z ∷ z ∷ [] })
  unfolding stored_bulbs default_bulbs colors list_to
  pedestrian_bulbs q ea eb = record { lamps = rw (q, made_is xs height (Green ∷ Red ∷ []) 0 a ea, made_is xs height (Green ∷ Red ∷ []) 1 b eb); few = omega arith }

-- ---- the lamps that are given

pub count_whole : (cs : List Float) (n : ℕ) → n ≡ length cs → n % 3 ≡ 0 → n / 3 ≡ lamp_count cs
unfolding lamp_count
count_whole cs n e h = rw (← e) (omega arith)

pub count_more : (cs : List Float) (n : ℕ) → n ≡ length cs → (n % 3 ≡ 0 → ⊥) → n / 3 + 1 ≡ lamp_count cs
unfolding lamp_count
count_more cs n e h = rw (← e) (omega arith)

-- a coordinate that is not there
pub missing : (cs : List Float) (i : ℕ) → length cs ≤ i → div binary64 (of_bits binary64 0) (of_bits binary64 0) ≡ get_or cs i nan
unfolding div of_bits
missing cs i h = sym (get_or-eq_default cs nan {n = i} h)

pub bulb_given : (cs : List Float) (i : ℕ) (look : Look) (x y z : Float) → x ≡ get_or cs (i * 3) nan → y ≡ get_or cs (i * 3 + 1) nan → z ≡ get_or cs (i * 3 + 2) nan
    → BulbGiven cs i look (record { position = at3 x y z; color = look.color; arrow = look.arrow })
unfolding point_in
bulb_given cs i look x y z ex ey ez = record { is = rw (ex, ey, ez) }

module _ (cs : List Float) (looks : List Look) (long : length looks ≡ 4) (z : Look) where
  lamp_is : (i : ℕ) → i < 4 → (b : SignalBulb) → BulbGiven cs i (get_or looks i z) b → b ≡ lamp_at looks cs i
  unfolding lamp_at
  lamp_is i h b e = e.is ∙ rw (get_d_any looks i z plain_look (omega arith))

  pub lamps_read : (n : ℕ) (a b c d : SignalBulb) → n ≡ lamp_count cs → BulbGiven cs 0 (get_or looks 0 z) a → BulbGiven cs 1 (get_or looks 1 z) b → BulbGiven cs 2 (get_or looks 2 z) c
      → BulbGiven cs 3 (get_or looks 3 z) d → LampsRead cs looks (record { count = n; bulbs = a ∷ b ∷ c ∷ d ∷ [] })
  lamps_read n a b c d en ea eb ec ed = record { count = en; each = go }
    where
      go : (i : ℕ) → i < 4 → get_or (a ∷ b ∷ c ∷ d ∷ []) i no_bulb ≡ lamp_at looks cs i
      go zero h = lamp_is 0 h a ea
      go (suc zero) h = lamp_is 1 h b eb
      go (suc (suc zero)) h = lamp_is 2 h c ec
      go (suc (suc (suc zero))) h = lamp_is 3 h d ed
      go (suc (suc (suc (suc i)))) h = absurd (let y : ⊥ = omega arith in y)

-- ---- as given, or the standard ones

module _ (q : SignalRequest) (xs : Polyline) (lamps : List Float) (b : Bulbs) where
  pub bulbs_given : q.lamps.given ≡ true → LampsRead lamps q.lamps.looks b → BulbsRead q xs lamps b
  unfolding bulbs_of bulbs_or new_traffic_signal lamps_given stored_bulbs
  bulbs_given t r =
      record {
        count = λ lanes points housing. rw t (length-map (list_to (lamp_at q.lamps.looks lamps) (lamp_count lamps)) stored_bulb ∙ length-list_to (lamp_at q.lamps.looks lamps) (lamp_count lamps) ∙ sym r.count);
        answer = λ lanes points housing h. rw (t, ← r.count) (ap (map stored_bulb) (list_to_same (lamp_at q.lamps.looks lamps) (λ i. get_or b.bulbs i no_bulb) b.count (λ i l. r.each i (omega arith))));
        standard = λ f. clash t f;
      }

  pub bulbs_standard : (height : Float) → q.lamps.given ≡ false → height ≡ or_default (height_given q.height) default_height → StandardMade q.kind xs height b → BulbsRead q xs lamps b
  unfolding bulbs_of bulbs_or new_traffic_signal lamps_given height_of
  bulbs_standard height t e k =
      record {
        count = λ lanes points housing. rw (t, ← e) (ap length (sym k.lamps) ∙ stored_count b);
        answer = λ lanes points housing h. rw (t, ← e) k.lamps;
        standard = λ _. k.few;
      }
