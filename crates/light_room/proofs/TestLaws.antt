-- The tests of the code, one by one. Assumes nothing.
use Prim.Native.Nat.{ℕ, zero, suc, ◌+◌, ◌*◌, ◌/◌, ◌%◌, ◌≤◌, ◌<◌}
use mathlib.Core.Path.{◌≡◌, refl, sym, ap, ◌∙◌}
use mathlib.Core.Bool.{Bool, true, false, not, ◌&&◌, cond}
use mathlib.Core.List.{List, [], ◌∷◌, map}
use native.Mathlib.Omega.{arith}
use borrow.Author.Tests.{leb-true}
use lib.Dec.{leb, ltb}
use lib.Ieee.{Float, nan}
use lib.ListN.{length, get_or, take, get_or-eq_default}
use Rattle.refusal.specs.declared.Refusal.TheVariants.{OffTheMap, Full}
use Rattle.rows.specs.Lists.{every, list_to}
use Rattle.geometry.specs.Double as D
use Rattle.geometry.specs.Double.{open_double}
use Rattle.geometry.specs.Point.{point_on_map}
use Rattle.geometry.specs.Polyline.{Polyline, point_in, polyline_of}
use Rattle.centerline.specs.declared.Line.{Line}
use Rattle.centerline.specs.Line.{points_of}
use Rattle.store.specs.Layout.{SizedWords, count_of, row_of, limit_of, width_of}
use Rattle.row_tests.specs.Flat.{all_points}
use Rattle.validity.proofs.Whole.{points_are}
use Rattle.map.specs.declared.Entries.{Entries}
use Rattle.map.specs.Access.{Found}
use Rattle.std.specs.Prelude.{Some, None, Option, Err, Ok}
use Rattle.map.specs.Ceilings.{points}
use Rattle.map.specs.Tables.{list_at, rule_in, map_of, is_map_tables}
use Rattle.map.proofs.Parts.{map-parts}
use Rattle.map.proofs.SoundLaws.{sound}
use Rattle.map.specs.Access.{lookup}
use Rattle.map.specs.Record.{Bulb, Rule}
use Rattle.map.proofs.ReadLaws.{rule_number_lem, found_index}
use Rattle.map.proofs.UpdateLaws.{rule_wide, rule_limit}
use Rattle.place.specs.Readable.{ReadableWords}
use Rattle.place.specs.Values.{Roomy}
use Rattle.place.proofs.LineLaws.{line_part_lem, part_long}
use Rattle.edit.specs.declared.SignalBulb.{SignalBulb}
use Rattle.edit.specs.declared.SignalRequest.{SignalRequest}
use Rattle.edit.specs.Light.{stored_bulb, positions, bulbs_or, bulbs_of}
use Rattle.edit.specs.Request.{lamp_count, lamp_at, lamps_given, new_traffic_signal}
use Rattle.signal_row.specs.declared.Bulbs.{Bulbs}
use Rattle.lifting.specs.declared.Freed.{Freed}
use Rattle.lifting.specs.Lifting.{GoneRead}
use Rattle.signal_row.specs.Row.{stored_bulbs, BulbsRead, bulbs_on_map}
use Rattle.signal_row.proofs.StoredLaws.{map-list_to}
use Rattle.finishing.proofs.CeilingLaws.{every_join}
use Rattle.grouping.specs.Group.{JoinedRead}
use Rattle.light_draft.specs.declared.Light.{Light}
use Rattle.light_draft.specs.Drafting.{one_if, line_in, lifted_first}
use Rattle.light_store.proofs.StoreLaws.{rules_are}
use Rattle.light_room.specs.Room.{lamps_on, on_map, FreedRead, JoinedFor, ListsFit, counts_fit, room_for, Fitted}

no : {A : Type 0} {b : Bool} → b ≡ true → b ≡ false → A
no p q = absurd (let z : ◌≡◌ {A = Bool} true false = sym p ∙ q in let y : ◌≡◌ {A = ℕ} 0 1 = cc in omega arith)

-- ---- on the map

module _ (l : Line) (room : Roomy l) where
  pub part_inside : l.count * 3 ≤ length l.coords
  part_inside = let a = room.few in let b = room.long in omega arith

  pub part_thirds : length (take (l.count * 3) l.coords) % 3 ≡ 0
  part_thirds = let a = part_long l.coords l.count part_inside in omega arith

  pub line_left : (asked : Bool) → asked ≡ false → true ≡ cond asked (every point_on_map (points_of l)) true
  line_left asked e = rw e

  pub line_tested : (asked r : Bool) → asked ≡ true → r ≡ every point_on_map (polyline_of (take (l.count * 3) l.coords)) → r ≡ cond asked (every point_on_map (points_of l)) true
  line_tested asked r e h = rw e (h ∙ ap (every point_on_map) (line_part_lem l room))

pub all_on_map : (drawn : Bool) (line housing : Polyline) (lamps a b r s : Bool) → a ≡ cond drawn (every point_on_map line) true → b ≡ every point_on_map housing → s ≡ (b && lamps) → r ≡ (a && s) → r ≡ on_map drawn line housing lamps
unfolding on_map
all_on_map drawn line housing lamps a b r s ea eb es er = er ∙ rw (es, ea, eb)

-- ---- the lamps

missing_off : (a b : Bool) → (a && b && D.on_map nan) ≡ false
unfolding open_double
missing_off true true = refl
missing_off true false = refl
missing_off false b = refl

module _ (given : Bool) (cs : List Float) (standard : Bulbs) where
  pub lamps_standard : (r : Bool) → given ≡ false → r ≡ bulbs_on_map standard → r ≡ lamps_on given cs standard
  unfolding lamps_on
  lamps_standard r e h = h ∙ rw e

  -- the last point lacks a coordinate
  pub lamps_short : given ≡ true → (length cs % 3 ≡ 0 → ⊥) → false ≡ lamps_on given cs standard
  unfolding lamps_on lamp_count list_to every point_on_map point_in
  lamps_short e h =
      let n = length cs / 3 in
      let k : (length cs + 2) / 3 ≡ suc n = omega arith in
      let m : get_or cs (n * 3 + 2) nan ≡ nan = get_or-eq_default cs nan {n = n * 3 + 2} (omega arith) in
      rw (e, k, every_join point_on_map (list_to (point_in cs) n) (point_in cs n ∷ []), m, missing_off (D.on_map (get_or cs (n * 3) nan)) (D.on_map (get_or cs (n * 3 + 1) nan))) (sym (never (every point_on_map (list_to (point_in cs) n))))
    where
      never : (b : Bool) → (b && false) ≡ false
      never true = refl
      never false = refl

  pub lamps_whole : (r : Bool) → given ≡ true → length cs % 3 ≡ 0 → r ≡ every point_on_map (polyline_of cs) → r ≡ lamps_on given cs standard
  unfolding lamps_on lamp_count polyline_of
  lamps_whole r e h k =
      let n : (length cs + 2) / 3 ≡ length cs / 3 = omega arith in
      k ∙ rw (e, n)

-- what the test answers is asked of all lamps of the request

stored_stand : (l : List SignalBulb) → every point_on_map (positions (map stored_bulb l)) ≡ every point_on_map (map (λ (x : SignalBulb). x.position) l)
unfolding every stored_bulb
stored_stand [] = refl
stored_stand (x ∷ l) = ap (λ (t : Bool). point_on_map x.position && t) (stored_stand l)

module _ (q : SignalRequest) (xs : Polyline) (cs : List Float) (b : Bulbs) (read : BulbsRead q xs cs b) (lanes : List ℕ) (points housing : List Float) where
  given_all : q.lamps.given ≡ true → every point_on_map (list_to (point_in cs) (lamp_count cs)) ≡ every point_on_map (positions (bulbs_of (new_traffic_signal lanes q points housing cs) xs))
  unfolding bulbs_of bulbs_or new_traffic_signal lamps_given lamp_at
  given_all t =
      rw t
      (ap (every point_on_map) (sym (map-list_to (λ (x : SignalBulb). x.position) (lamp_at q.lamps.looks cs) (lamp_count cs))) ∙ sym (stored_stand (list_to (lamp_at q.lamps.looks cs) (lamp_count cs))))

  pub lamps_all : lamps_on q.lamps.given cs b ≡ every point_on_map (positions (bulbs_of (new_traffic_signal lanes q points housing cs) xs))
  unfolding lamps_on bulbs_on_map
  lamps_all = go q.lamps.given refl
    where
      go : (g : Bool) → q.lamps.given ≡ g → cond g (every point_on_map (list_to (point_in cs) (lamp_count cs))) (every point_on_map (positions (stored_bulbs b)))
          ≡ every point_on_map (positions (bulbs_of (new_traffic_signal lanes q points housing cs) xs))
      go true t = given_all t
      go false t = ap (λ (l : List Bulb). every point_on_map (positions l)) (read.answer lanes points housing (read.standard t))

-- ---- what goes

pub freed_none : (ws : List ℕ) (b : Bool) (s : ℕ) (lanes : List ℕ) → b ≡ false → FreedRead ws (cond b (Some s) None) lanes (record { rules = 0; points = 0 })
unfolding lifted_first
freed_none ws b s lanes e = rw e (record { rules = λ cs. omega arith; points = λ cs. omega arith })

pub freed_some : (ws : List ℕ) (b : Bool) (s : ℕ) (lanes : List ℕ) (f : Freed) → b ≡ true → GoneRead ws s lanes f → FreedRead ws (cond b (Some s) None) lanes f
unfolding lifted_first
freed_some ws b s lanes f e g = rw e (record { rules = g.rules; points = g.points })

pub points_few : (ws : List ℕ) (cs : List Float) → is_map_tables ws cs ≡ true → all_points ws ≤ 1024
points_few ws cs ok = omega (arith, points_are ws cs, leb-true (points (map_of ws cs)) 1024 (map-parts (map_of ws cs) (sound ws cs ok).map).few)

-- at most what there is
pub freed_few : (ws : List ℕ) (o : Option ℕ) (lanes : List ℕ) (f : Freed) → FreedRead ws o lanes f → SizedWords ws → all_points ws ≤ 1024 → (f.rules ≤ 128) × (f.points ≤ 1024)
unfolding points
freed_few ws o lanes f h ok few = (
  omega (arith, h.rules [], rules_are ws [], ok.counts 5 (omega arith), rule_limit),
  let t : points (map_of ws []) ≡ all_points ws = points_are ws [] in omega (arith, h.points []),
)

-- ---- the lists

pub joined_none : (ws : List ℕ) (joins : Bool) (g : ℕ) (lanes : List ℕ) (r : Entries) → length r.entries ≡ 16 → r.count ≡ 0 → joins ≡ false → JoinedFor ws joins g lanes r
joined_none ws joins g lanes r l z e = record { room = l; lists = λ q. no q e; alone = λ _. z; lost = λ _. z }

pub joined_lost : (ws : List ℕ) (joins : Bool) (g : ℕ) (lanes : List ℕ) (r : Entries) (f : Found) → length r.entries ≡ 16 → r.count ≡ 0 → f ≡ lookup ws 5 g → f ≡ None → JoinedFor ws joins g lanes r
joined_lost ws joins g lanes r f l z e q = record { room = l; lists = λ _ i k. absurd (let y : ◌≡◌ {A = ℕ} 0 1 = cc in omega arith); alone = λ _. z; lost = λ _. z }

pub joined_some : (ws : List ℕ) (joins : Bool) (g : ℕ) (lanes : List ℕ) (r : Entries) (f : Found) (i : ℕ) → joins ≡ true → f ≡ lookup ws 5 g → f ≡ Some i → JoinedRead (list_at (row_of ws 5 i) 7) lanes r → JoinedFor ws joins g lanes r
joined_some ws joins g lanes r f i j e q h =
    record {
      room = h.room;
      lists = λ _ k ek. let s : i ≡ k = cc in rw (← s) h;
      alone = λ t. no j t;
      lost = λ t. absurd (let y : ◌≡◌ {A = ℕ} 0 1 = cc in omega arith);
    }

pub found_here : (ws : List ℕ) (g : ℕ) (f : Found) (i : ℕ) → f ≡ lookup ws 5 g → f ≡ Some i → i < count_of ws 5
found_here ws g f i e q = (found_index (λ (x : Rule). x.num) rule_in rule_number_lem ws [] 5 (omega arith) g i (sym e ∙ q)).1

pub signals_asks : (ws : List ℕ) → ReadableWords ws → (g : ℕ) (f : Found) (i : ℕ) → f ≡ lookup ws 5 g → f ≡ Some i → SizedWords ws × (i < limit_of 5) × (41 < width_of 5)
signals_asks ws ok g f i e q = (ok.sized, omega (arith, ok.sized.counts 5 (omega arith), found_here ws g f i e q), omega (arith, rule_wide))

pub lists_new : (ws : List ℕ) (joins : Bool) (g lanes : ℕ) (joined : Entries) → joins ≡ false → ListsFit ws joins g lanes joined (leb lanes 16)
lists_new ws joins g lanes joined e = record { new = λ _. refl; group = λ q. no q e; lost = λ q. no q e }

pub lists_lost : (ws : List ℕ) (joins : Bool) (g lanes : ℕ) (joined : Entries) (f : Found) → joins ≡ true → f ≡ lookup ws 5 g → f ≡ None → ListsFit ws joins g lanes joined false
lists_lost ws joins g lanes joined f j e q = record { new = λ k. no j k; group = λ _ i k. absurd (let z : ◌≡◌ {A = ℕ} 0 1 = cc in omega arith); lost = λ _ _. refl }

pub lists_group : (ws : List ℕ) (joins : Bool) (g lanes : ℕ) (joined : Entries) (f : Found) (i w : ℕ) (r : Bool) → joins ≡ true → f ≡ lookup ws 5 g → f ≡ Some i → w ≡ get_or (row_of ws 5 i) 41 0 → r ≡ (ltb w 16 && leb joined.count 16)
    → ListsFit ws joins g lanes joined r
lists_group ws joins g lanes joined f i w r j e q ew er =
    record {
      new = λ k. no j k;
      group = λ _ k ek. let s : i ≡ k = cc in rw (← s, ← ew) er;
      lost = λ _ t. absurd (let y : ◌≡◌ {A = ℕ} 0 1 = cc in omega arith);
    }

-- ---- room

pub counts_are : (lines signals rules : ℕ) (drawn joins : Bool) (freed a b c x y : ℕ) (r s : Bool) → a ≡ lines → b ≡ signals → c ≡ rules → x ≡ one_if drawn → y ≡ one_if (not joins) → s ≡ (leb (b + 1) 64 && leb (c + y) (128 + freed)) → r ≡ (leb (a + x) 64 && s)
    → r ≡ counts_fit lines signals rules drawn joins freed
unfolding counts_fit
counts_are lines signals rules drawn joins freed a b c x y r s ea eb ec ex ey es er = er ∙ rw (es, ea, eb, ec, ex, ey)

pub one_few : (b : Bool) (n : ℕ) → n ≡ one_if b → n ≤ 1
one_few true n e = omega arith
one_few false n e = omega arith

pub count_few : (ws : List ℕ) (k : ℕ) → SizedWords ws → k < 6 → count_of ws k ≤ 128
unfolding limit_of
count_few ws k ok h = omega (arith, ok.counts k h, limit_few k h)
  where
    limit_few : (k : ℕ) → k < 6 → limit_of k ≤ 128
    limit_few zero h = omega arith
    limit_few (suc zero) h = omega arith
    limit_few (suc (suc zero)) h = omega arith
    limit_few (suc (suc (suc zero))) h = omega arith
    limit_few (suc (suc (suc (suc zero)))) h = omega arith
    limit_few (suc (suc (suc (suc (suc zero))))) h = omega arith
    limit_few (suc (suc (suc (suc (suc (suc k)))))) h = omega arith

pub points_are_few : (used more freed u v w : ℕ) → u ≡ used → v ≡ u → w ≡ freed → leb (v + more) (1024 + w) ≡ leb (used + more) (1024 + freed)
points_are_few used more freed u v w eu ev ew = rw (ev, eu, ew)

pub points_drawn : (drawn : Bool) (line housing : ℕ) → drawn ≡ true → line + housing ≡ cond drawn line 0 + housing
points_drawn drawn line housing e = rw e

pub points_plain : (drawn : Bool) (line housing : ℕ) → drawn ≡ false → housing ≡ cond drawn line 0 + housing
points_plain drawn line housing e = rw e (omega arith)

pub more_few : (drawn : Bool) (line housing more : ℕ) → line ≤ 64 → housing ≤ 64 → more ≡ cond drawn line 0 + housing → more ≤ 128
more_few true line housing more a b e = omega arith
more_few false line housing more a b e = omega arith

pub room_is : (lines signals rules used : ℕ) (drawn joins : Bool) (fr fp more bulbs : ℕ) (lists counts pts r s t : Bool) → counts ≡ counts_fit lines signals rules drawn joins fr → pts ≡ leb (used + more) (1024 + fp)
    → t ≡ (lists && pts) → s ≡ (leb bulbs 4 && t) → r ≡ (counts && s) → r ≡ room_for lines signals rules used drawn joins fr fp more bulbs lists
unfolding room_for
room_is lines signals rules used drawn joins fr fp more bulbs lists counts pts r s t ec ep et es er = er ∙ rw (es, et, ec, ep)

-- ---- 9, then 10

module _ (ws lanes : List ℕ) (l : Light) (line housing : Line) (lamps : Bool) (count : ℕ) (joined : Entries) (b : Bool) (eb : b ≡ on_map l.drawn (points_of line) (points_of housing) lamps) where
  pub fitted_off : b ≡ false → Fitted ws lanes l line housing lamps count joined (Err OffTheMap)
  fitted_off e = record { off = λ _. refl; on = λ q. no q (sym eb ∙ e) }

  module _ (e : b ≡ true) (freed : Freed) (goes : FreedRead ws (line_in l) lanes freed) (lists : Bool) (fit : ListsFit ws l.joins l.rule (length lanes) joined lists)
      (more : ℕ) (em : more ≡ cond l.drawn line.count 0 + housing.count) (r : Bool)
      (er : r ≡ room_for (count_of ws 2) (count_of ws 3) (count_of ws 5) (all_points ws) l.drawn l.joins freed.rules freed.points more count lists) where
    pub fitted_full : r ≡ false → Fitted ws lanes l line housing lamps count joined (Err Full)
    fitted_full q = record { off = λ k. no (sym eb ∙ e) k; on = λ _. record { freed = freed; lists = lists; goes = goes; fit = fit; answer = rw (← em, ← er, q) } }

    pub fitted_fine : r ≡ true → Fitted ws lanes l line housing lamps count joined (Ok tt)
    fitted_fine q = record { off = λ k. no (sym eb ∙ e) k; on = λ _. record { freed = freed; lists = lists; goes = goes; fit = fit; answer = rw (← em, ← er, q) } }
