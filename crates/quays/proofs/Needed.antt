-- The closed cases: two opened maps for each item, which agree on all else and answer a stop sign at the end of lane 3 differently.
use Prim.Native.Nat.{ℕ, ◌+◌}
use mathlib.Core.Path.{◌≡◌, refl, sym, ◌∙◌, subst}
use mathlib.Core.Bool.{Bool, true, false, not, ◌&&◌}
use Rattle.std.specs.Prelude.{Option, None, Some}
use mathlib.Core.List.{List, [], ◌∷◌, ◌++◌}
use lib.Dec.{eqb}
use lib.Ieee.{Float, neg}
use borrow.Author.Tests.{eqb-true, not-true}
use Rattle.refusal.specs.Answer.{Answer, refused, done}
use Rattle.rows.specs.Lists.{list_to, member, same_list}
use Rattle.rows.specs.Table.{find}
use Rattle.rows.proofs.Bools.{and_l, and_r, parts, clash, or_no}
use Rattle.rows.proofs.SameLists.{same_list_lem, list_same}
use Rattle.geometry.specs.Double.{whole, f0}
use Rattle.geometry.specs.Point.{at3, origin}
use Rattle.geometry.specs.Polyline.{Polyline}
use Rattle.codec.specs.Format
use Rattle.codec.specs.Format.{Bytes}
use Rattle.map.specs.Record.{Lane, LineString, other, Rule, Map}
use Rattle.map.specs.Lookup.{lane_of, boundary_of, line_of}
use Rattle.map.specs.Ceilings.{open_ceilings}
use Rattle.map.specs.Entity.{entity}
use Rattle.map.specs.MapFile.{line_string, is_map}
use Rattle.changes.specs.ChangeFile.{change_file}
use Rattle.changes.specs.Running.{State, opening}
use Rattle.place.specs.EndNames.{ends_words}
use Rattle.place.proofs.Worked.{fresh_map}
use Rattle.edit.specs.Edit.{Outcome}
use Rattle.edit.specs.StopLine.{add_stop_line, open_stop_line}
use Rattle.run.specs.Law.{passes}
use Rattle.quays.specs.Quays.{SameQuay, SameAnswer}
use Rattle.quays.specs.Needed.{Item, lanes, boundaries, next, lines, rules, used, AllBut, sign_before_end, sign_at_end, Needed, SpecificationNeeded, FoldNeeded}

-- ---- what a caller sees of an answer, as numbers

abbrev form_of_line : Option LineString → Bytes
form_of_line None = []
form_of_line (Some l) = line_string.write l

abbrev shown : Answer Outcome → List ℕ
shown (refused n ds) = n ∷ ds
shown (done o) = 0 ∷ o.id ∷ o.state.map.next ∷ (change_file.write o.changes ++ (ends_words o.ends ++ form_of_line (line_of o.state.map o.id)))

same_shown : (x y : Answer Outcome) → SameAnswer x y → shown x ≡ shown y
same_shown (refused n ds) (refused k es) q = rw (q.0, q.1)
same_shown (refused n ds) (done p) q = absurd q
same_shown (done o) (refused k es) q = absurd q
same_shown (done o) (done p) q = rw (q.line, q.number, q.changes, q.ends, q.next)

-- line n with its rule, its ends and its points
abbrev drawn : ℕ → List ℕ → Polyline → List ℕ
drawn n ends xs =
    0 ∷ n ∷ (n + 2) ∷ (change_file.write (record { created = entity 5 n ∷ entity 8 (n + 1) ∷ []; modified = []; deleted = []; warnings = [] }) ++ (ends ++ line_string.write (record { num = n; geometry = xs })))

-- both answers are as they should be, and these differ
abbrev answers_are : List ℕ → List ℕ → Answer Outcome → Answer Outcome → Bool
answers_are e f x y = same_list (shown x) e && same_list (shown y) f && not (same_list e f)

told_apart : (e f : List ℕ) (x y : Answer Outcome) → answers_are e f x y ≡ true → SameAnswer x y → ⊥
told_apart e f x y h q =
    let a : shown x ≡ e = same_list_lem _ _ (search parts) in
    let b : shown y ≡ f = same_list_lem _ _ (search parts) in
    let z : e ≡ f = sym a ∙ same_shown x y q ∙ b in
    clash (subst (λ (g : List ℕ). same_list e g ≡ true) z (list_same e)) (not-true (same_list e f) (search parts))

-- two opened maps with those answers to a stop sign at the end of lane 3
abbrev opened : List ℕ → List ℕ → Map → Map → Bool
opened e f m n = is_map m && is_map n && answers_are e f (add_stop_line sign_at_end (opening m)) (add_stop_line sign_at_end (opening n))

is_needed : (i : Item) (m n : Map) (e f : List ℕ) → opened e f m n ≡ true → AllBut i (3 ∷ []) m n → Needed i
is_needed i m n e f h agreed =
    let answers = and_r (is_map m && is_map n) _ h in
    record { first = m; second = n; opened = (search parts, search parts); agreed = agreed; apart = told_apart e f (add_stop_line sign_at_end (opening m)) (add_stop_line sign_at_end (opening n)) answers }

-- ---- maps with lane 3 between the boundaries 1 and 2, from x = 0 to x = 10

abbrev lane3 : ℕ → ℕ → Option Polyline → Lane
lane3 l r c = record { num = 3; kind = 0; left = record { boundary = l; reversed = false }; right = record { boundary = r; reversed = false }; centerline = c }

abbrev border : ℕ → Float → LineString
border n y = record { num = n; geometry = at3 f0 y f0 ∷ at3 (whole 10) y f0 ∷ [] }

abbrev yard : ℕ → List Lane → List LineString → List LineString → List Rule → Map
yard k ls bs ss rs = record { next = k; lanes = ls; boundaries = bs; stop_lines = ss; signals = []; crosswalks = []; rules = rs }

abbrev plain : Lane
plain = lane3 1 2 None

-- the map of the worked crossings, and what bounds its lane
abbrev worked : Map
worked = fresh_map (whole 2)

abbrev sides : List LineString
sides = worked.boundaries

-- the line across the lane at x
abbrev across : Float → Float → Polyline
across x y = at3 x y f0 ∷ at3 x (neg (whole 2)) f0 ∷ []

abbrev left_to_right : List ℕ
left_to_right = 1 ∷ 3 ∷ 0 ∷ 3 ∷ 1 ∷ []

-- ---- what is agreed on: only lane 3 is asked for

only_three : (l : ℕ) → member l (3 ∷ []) ≡ true → l ≡ 3
unfolding member
only_three l h = sym (eqb-true 3 l (sym (or_no (eqb 3 l)) ∙ h))

module _ (m n : Map) where
  -- the boundaries of the first map's lane 3
  bounds : (k : Lane) → lane_of m 3 ≡ Some k → boundary_of m k.left.boundary ≡ boundary_of n k.left.boundary → boundary_of m k.right.boundary ≡ boundary_of n k.right.boundary
      → (l : ℕ) (r : Lane) → member l (3 ∷ []) ≡ true → lane_of m l ≡ Some r
      → (boundary_of m r.left.boundary ≡ boundary_of n r.left.boundary) × (boundary_of m r.right.boundary ≡ boundary_of n r.right.boundary)
  bounds k there a b l r h e =
      let same : k ≡ r = some_is (sym there ∙ subst (λ (j : ℕ). lane_of m j ≡ Some r) (only_three l h) e) in
      subst (λ (x : Lane). (boundary_of m x.left.boundary ≡ boundary_of n x.left.boundary) × (boundary_of m x.right.boundary ≡ boundary_of n x.right.boundary)) same (a, b)
    where
      some_is : {x y : Lane} → Some x ≡ Some y → x ≡ y
      some_is q = cc

  of_three : lane_of m 3 ≡ lane_of n 3 → (l : ℕ) → member l (3 ∷ []) ≡ true → lane_of m l ≡ lane_of n l
  of_three e l h = subst (λ (j : ℕ). lane_of m j ≡ lane_of n j) (sym (only_three l h)) e

  quay : (k : Lane) → lane_of m 3 ≡ Some k → lane_of n 3 ≡ Some k → boundary_of m k.left.boundary ≡ boundary_of n k.left.boundary → boundary_of m k.right.boundary ≡ boundary_of n k.right.boundary → SameQuay (3 ∷ []) m n
  quay k a b c d = record { lanes = of_three (a ∙ sym b); boundaries = bounds k a c d }

-- the answer on the map of the worked crossings
abbrev line4 : List ℕ
line4 = drawn 4 left_to_right (across (whole 10) (whole 2))

-- ---- lanes: absent; with a stored centreline to x = 5; with its boundaries exchanged

abbrev laneless : Map
laneless = yard 4 [] sides [] []

no_lane : opened line4 (2 ∷ 1 ∷ 3 ∷ []) worked laneless ≡ true
unfolding open_stop_line neg
no_lane = refl

-- lane 3 is a record of the first map alone
laneless_agreed : AllBut lanes (3 ∷ []) worked laneless
unfolding lane_of boundary_of find open_ceilings
laneless_agreed = (bounds worked laneless plain refl refl refl, record { next = refl; lines = refl; rules = refl; used = refl })

lane_needed : Needed lanes
lane_needed = is_needed lanes worked laneless line4 (2 ∷ 1 ∷ 3 ∷ []) no_lane laneless_agreed

-- both maps have a line 4 already: of two points, or of none beside the two of the centreline
abbrev lined : Map
lined = yard 5 (plain ∷ []) sides (record { num = 4; geometry = origin ∷ origin ∷ [] } ∷ []) []

abbrev shortened : Map
shortened = yard 5 (lane3 1 2 (Some (origin ∷ at3 (whole 5) f0 f0 ∷ [])) ∷ []) sides (record { num = 4; geometry = [] } ∷ []) []

abbrev line5 : List ℕ
line5 = drawn 5 left_to_right (across (whole 10) (whole 2))

abbrev line5_halfway : List ℕ
line5_halfway = drawn 5 left_to_right (across (whole 5) (whole 2))

shorter_lane : opened line5 line5_halfway lined shortened ≡ true
unfolding open_stop_line neg
shorter_lane = refl

shortened_agreed : AllBut lanes (3 ∷ []) lined shortened
unfolding lane_of boundary_of find open_ceilings
shortened_agreed = (bounds lined shortened plain refl refl refl, record { next = refl; lines = refl; rules = refl; used = refl })

pub centerline_needed : Needed lanes
centerline_needed = is_needed lanes lined shortened line5 line5_halfway shorter_lane shortened_agreed

-- the points are the same, and their names are not
abbrev exchanged : Map
exchanged = yard 4 (lane3 2 1 None ∷ []) sides [] []

abbrev line4_exchanged : List ℕ
line4_exchanged = drawn 4 (1 ∷ 3 ∷ 1 ∷ 3 ∷ 0 ∷ []) (across (whole 10) (whole 2))

sides_exchanged : opened line4 line4_exchanged worked exchanged ≡ true
unfolding open_stop_line neg
sides_exchanged = refl

exchanged_agreed : AllBut lanes (3 ∷ []) worked exchanged
unfolding lane_of boundary_of find open_ceilings
exchanged_agreed = (bounds worked exchanged plain refl refl refl, record { next = refl; lines = refl; rules = refl; used = refl })

pub sides_needed : Needed lanes
sides_needed = is_needed lanes worked exchanged line4 line4_exchanged sides_exchanged exchanged_agreed

-- ---- boundaries: the left one at y = 3

abbrev wider : Map
wider = yard 4 (plain ∷ []) (border 1 (whole 3) ∷ border 2 (neg (whole 2)) ∷ []) [] []

abbrev line4_wider : List ℕ
line4_wider = drawn 4 left_to_right (across (whole 10) (whole 3))

wider_lane : opened line4 line4_wider worked wider ≡ true
unfolding open_stop_line neg
wider_lane = refl

wider_agreed : AllBut boundaries (3 ∷ []) worked wider
unfolding lane_of find open_ceilings
wider_agreed = (of_three worked wider refl, record { next = refl; lines = refl; rules = refl; used = refl })

boundary_needed : Needed boundaries
boundary_needed = is_needed boundaries worked wider line4 line4_wider wider_lane wider_agreed

-- ---- the next number: 4 or 5

abbrev later : Map
later = yard 5 (plain ∷ []) sides [] []

next_number : opened line4 line5 worked later ≡ true
unfolding open_stop_line neg
next_number = refl

later_agreed : AllBut next (3 ∷ []) worked later
unfolding lane_of boundary_of find open_ceilings
later_agreed = (quay worked later plain refl refl refl refl, refl, refl, refl)

next_needed : Needed next
next_needed = is_needed next worked later line4 line5 next_number later_agreed

-- ---- 63 or 64 lines without points

abbrev with_lines : ℕ → Map
with_lines n = yard 200 (plain ∷ []) sides (list_to (λ i. record { num = i + 10; geometry = [] }) n) []

abbrev line200 : List ℕ
line200 = drawn 200 left_to_right (across (whole 10) (whole 2))

last_line : opened line200 (10 ∷ []) (with_lines 63) (with_lines 64) ≡ true
unfolding open_stop_line neg
last_line = refl

lines_agreed : AllBut lines (3 ∷ []) (with_lines 63) (with_lines 64)
unfolding lane_of boundary_of find open_ceilings
lines_agreed = (quay (with_lines 63) (with_lines 64) plain refl refl refl refl, refl, refl, refl)

lines_needed : Needed lines
lines_needed = is_needed lines (with_lines 63) (with_lines 64) line200 (10 ∷ []) last_line lines_agreed

-- ---- 127 or 128 rules

abbrev with_others : ℕ → Map
with_others n = yard 200 (plain ∷ []) sides [] (list_to (λ i. record { num = i + 10; body = other 2; lanes = []; controlled = [] }) n)

last_rule : opened line200 (10 ∷ []) (with_others 127) (with_others 128) ≡ true
unfolding open_stop_line neg
last_rule = refl

rules_agreed : AllBut rules (3 ∷ []) (with_others 127) (with_others 128)
unfolding lane_of boundary_of find open_ceilings
rules_agreed = (quay (with_others 127) (with_others 128) plain refl refl refl refl, refl, refl, refl)

rules_needed : Needed rules
rules_needed = is_needed rules (with_others 127) (with_others 128) line200 (10 ∷ []) last_rule rules_agreed

-- ---- 1,022 or 1,023 points: four of lane 3's boundaries, the others of boundaries beside it

abbrev with_points : ℕ → Map
with_points n = yard 200 (plain ∷ []) (sides ++ (list_to (λ i. record { num = i + 10; geometry = list_to (λ j. origin) 64 }) 15 ++ (record { num = 30; geometry = list_to (λ j. origin) n } ∷ []))) [] []

last_points : opened line200 (10 ∷ []) (with_points 58) (with_points 59) ≡ true
unfolding open_stop_line neg
last_points = refl

points_agreed : AllBut used (3 ∷ []) (with_points 58) (with_points 59)
unfolding lane_of boundary_of find open_ceilings
points_agreed = (quay (with_points 58) (with_points 59) plain refl refl refl refl, refl, refl, refl)

points_needed : Needed used
points_needed = is_needed used (with_points 58) (with_points 59) line200 (10 ∷ []) last_points points_agreed

-- ---- each item

pub needed : (i : Item) → Needed i
needed lanes = lane_needed
needed boundaries = boundary_needed
needed next = next_needed
needed lines = lines_needed
needed rules = rules_needed
needed used = points_needed

-- ---- the specification: at the end of lane 3, or a metre before it

abbrev line4_before : List ℕ
line4_before = drawn 4 left_to_right (across (whole 9) (whole 2))

metre_before : (is_map worked && answers_are line4 line4_before (add_stop_line sign_at_end (opening worked)) (add_stop_line (sign_before_end (whole 1)) (opening worked))) ≡ true
unfolding open_stop_line neg
metre_before = refl

pub specification_needed : SpecificationNeeded
specification_needed = record {
  map = worked;
  opened = and_l _ _ metre_before;
  first = sign_at_end;
  second = sign_before_end (whole 1);
  same = refl;
  apart = told_apart line4 line4_before (add_stop_line sign_at_end (opening worked)) (add_stop_line (sign_before_end (whole 1)) (opening worked)) (and_r (is_map worked) _ metre_before);
}

-- ---- the fold: one that has line 3 as created, which is not on the map

abbrev foreign : State
foreign = record { map = worked; fold = record { created = entity 5 3 ∷ []; modified = []; deleted = []; warnings = [] }; tally = record { created = 1; modified = 0; deleted = 0 } }

foreign_fold : (passes (opening worked) && not (passes foreign) && answers_are line4 (13 ∷ []) (add_stop_line sign_at_end (opening worked)) (add_stop_line sign_at_end foreign)) ≡ true
unfolding open_stop_line passes neg
foreign_fold = refl

pub fold_needed : FoldNeeded
fold_needed = record {
  first = opening worked;
  second = foreign;
  same = refl;
  passing = and_l _ _ (and_l _ _ foreign_fold);
  failing = not-true (passes foreign) (and_r (passes (opening worked)) _ (and_l _ _ foreign_fold));
  apart = told_apart line4 (13 ∷ []) (add_stop_line sign_at_end (opening worked)) (add_stop_line sign_at_end foreign) (and_r (passes (opening worked) && not (passes foreign)) _ foreign_fold);
}
