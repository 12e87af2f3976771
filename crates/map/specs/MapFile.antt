-- The map file, a line for each record, and what it is to be a map.
use Rattle.std.specs.Prelude.{ℕ, zero, suc, ◌≡◌, refl, Bool, List, leb, Float, Option}
use Rattle.geometry.specs.declared.Point3.{Point3}
use Rattle.geometry.specs.Double.{on_map, is_finite}
use Rattle.geometry.specs.Point.{at3, open_point}
use Rattle.geometry.specs.Polyline.{Polyline}
use Rattle.rows.specs.Table.{rising, open_table}
use Rattle.codec.specs.Format.{Format, ◌⊗◌, via, only, tagged, never}
use Rattle.codec.specs.Number.{number}
use Rattle.codec.specs.Double.{double}
use Rattle.codec.specs.Items.{below, from, list, flag, option, open_items}
use Rattle.map.specs.Record.{BoundaryRef, Lane, LineString, Bulb, Signal, Crosswalk, RuleBody, light, sign, marking, right_of_way, crossing, other, Rule, Map}
use Rattle.map.specs.Ceilings.{max_lanes, max_boundaries, max_stop_lines, max_signals, max_crosswalks, max_rules, max_line_points, max_points, max_bulbs, max_rule_entries, points, open_ceilings}

-- ---- points

-- finite, and at most 2 ^ 26 in size
unfoldable pub coordinate : Format Float
coordinate = only on_map double

-- any finite number
unfoldable pub height : Format Float
height = only is_finite double

unfoldable pub point : Format Point3
point = via (coordinate ⊗ coordinate ⊗ coordinate) (λ (x, (y, z)). at3 x y z) (λ p. (p.x, (p.y, p.z))) (λ _ _. refl) (λ _ _. refl)

-- ---- records

unfoldable pub polyline : Format Polyline
polyline = list max_line_points point

unfoldable pub boundary_ref : Format BoundaryRef
boundary_ref = via (number ⊗ flag) (λ (b, r). record { boundary = b; reversed = r }) (λ s. (s.boundary, s.reversed)) (λ _ _. refl) (λ _ _. refl)

unfoldable pub lane : Format Lane
lane =
    via (number ⊗ below 8 ⊗ boundary_ref ⊗ boundary_ref ⊗ option polyline)
    (λ (n, (k, (l, (r, c)))). record { num = n; kind = k; left = l; right = r; centerline = c })
    (λ l. (l.num, (l.kind, (l.left, (l.right, l.centerline)))))
    (λ _ _. refl)
    (λ _ _. refl)

unfoldable pub line_string : Format LineString
line_string = via (number ⊗ polyline) (λ (n, l). record { num = n; geometry = l }) (λ d. (d.num, d.geometry)) (λ _ _. refl) (λ _ _. refl)

unfoldable pub bulb : Format Bulb
bulb =
    via (point ⊗ below 4 ⊗ below 9)
    (λ (p, (c, a)). record { position = p; color = c; arrow = a })
    (λ b. (b.position, (b.color, b.arrow)))
    (λ _ _. refl)
    (λ _ _. refl)

unfoldable pub signal : Format Signal
signal =
    via (number ⊗ below 2 ⊗ polyline ⊗ option height ⊗ list max_bulbs bulb)
    (λ (n, (k, (l, (h, bs)))). record { num = n; kind = k; geometry = l; height = h; bulbs = bs })
    (λ s. (s.num, (s.kind, (s.geometry, (s.height, s.bulbs)))))
    (λ _ _. refl)
    (λ _ _. refl)

unfoldable pub crosswalk : Format Crosswalk
crosswalk =
    via (number ⊗ polyline ⊗ polyline ⊗ option polyline)
    (λ (n, (l, (r, o))). record { num = n; left = l; right = r; outline = o })
    (λ c. (c.num, (c.left, (c.right, c.outline))))
    (λ _ _. refl)
    (λ _ _. refl)

-- ---- rules, by kind

unfoldable pub numbers : Format (List ℕ)
numbers = list max_rule_entries number

abbrev pub Fields : ℕ → Type 0
Fields zero = ⊥
Fields (suc zero) = List ℕ × Option ℕ
Fields (suc (suc zero)) = ℕ × (Option Polyline × Option ℕ)
Fields (suc (suc (suc zero))) = ℕ
Fields (suc (suc (suc (suc zero)))) = List ℕ × (List ℕ × List ℕ)
Fields (suc (suc (suc (suc (suc zero))))) = ℕ × List ℕ
Fields (suc (suc (suc (suc (suc (suc zero)))))) = ℕ
Fields (suc (suc (suc (suc (suc (suc (suc k))))))) = ⊥

abbrev pub fields : (k : ℕ) → Format (Fields k)
fields zero = never
fields (suc zero) = numbers ⊗ option number
fields (suc (suc zero)) = from 1 ⊗ option polyline ⊗ option number
fields (suc (suc (suc zero))) = number
fields (suc (suc (suc (suc zero)))) = numbers ⊗ numbers ⊗ numbers
fields (suc (suc (suc (suc (suc zero))))) = number ⊗ numbers
fields (suc (suc (suc (suc (suc (suc zero)))))) = from 1
fields (suc (suc (suc (suc (suc (suc (suc k))))))) = never

abbrev pub to_body : (k : ℕ) → Fields k → RuleBody
to_body zero x = absurd x
to_body (suc zero) x = light x.0 x.1
to_body (suc (suc zero)) x = sign x.0 x.1.0 x.1.1
to_body (suc (suc (suc zero))) x = marking x
to_body (suc (suc (suc (suc zero)))) x = right_of_way x.0 x.1.0 x.1.1
to_body (suc (suc (suc (suc (suc zero))))) x = crossing x.0 x.1
to_body (suc (suc (suc (suc (suc (suc zero)))))) x = other x
to_body (suc (suc (suc (suc (suc (suc (suc k))))))) x = absurd x

abbrev pub of_body : RuleBody → (k : ℕ) × Fields k
of_body (light signals line) = (1, (signals, line))
of_body (sign type shape line) = (2, (type, (shape, line)))
of_body (marking line) = (3, line)
of_body (right_of_way priority yielding stop_lines) = (4, (priority, (yielding, stop_lines)))
of_body (crossing c stop_lines) = (5, (c, stop_lines))
of_body (other k) = (6, k)

pub body_there : (k : ℕ) (x : Fields k) → of_body (to_body k x) ≡ (k, x)
body_there zero x = absurd x
body_there (suc zero) x = refl
body_there (suc (suc zero)) x = refl
body_there (suc (suc (suc zero))) x = refl
body_there (suc (suc (suc (suc zero)))) x = refl
body_there (suc (suc (suc (suc (suc zero))))) x = refl
body_there (suc (suc (suc (suc (suc (suc zero)))))) x = refl
body_there (suc (suc (suc (suc (suc (suc (suc k))))))) x = absurd x

pub body_back : (w : RuleBody) → to_body (of_body w).0 (of_body w).1 ≡ w
body_back (light signals line) = refl
body_back (sign type shape line) = refl
body_back (marking line) = refl
body_back (right_of_way priority yielding stop_lines) = refl
body_back (crossing c stop_lines) = refl
body_back (other k) = refl

unfoldable pub body : Format RuleBody
body = via (tagged number fields) (λ p. to_body p.0 p.1) of_body (λ p _. body_there p.0 p.1) (λ w _. body_back w)

unfoldable pub rule : Format Rule
rule =
    via (number ⊗ body ⊗ numbers ⊗ numbers)
    (λ (n, (w, (ls, cs))). record { num = n; body = w; lanes = ls; controlled = cs })
    (λ r. (r.num, (r.body, (r.lanes, r.controlled))))
    (λ _ _. refl)
    (λ _ _. refl)

-- ---- the map file

-- a table: at most n records, their numbers rising, below the next number
unfoldable pub table : {A : Type 0} → (A → ℕ) → ℕ → Format A → ℕ → Format (List A)
table num n f next = only (rising num 0 next) (list n f)

unfoldable pub tables : ℕ → Format (List Lane × (List LineString × (List LineString × (List Signal × (List Crosswalk × List Rule)))))
tables next =
    table (λ r. r.num) max_lanes lane next ⊗ table (λ r. r.num) max_boundaries line_string next ⊗ table (λ r. r.num) max_stop_lines line_string next
    ⊗ table (λ r. r.num) max_signals signal next ⊗ table (λ r. r.num) max_crosswalks crosswalk next ⊗ table (λ r. r.num) max_rules rule next

unfoldable pub map_file : Format Map
map_file =
    only (λ m. leb (points m) max_points)
    (via (tagged number tables)
    (λ (n, (ls, (bs, (ss, (gs, (cs, rs)))))). record { next = n; lanes = ls; boundaries = bs; stop_lines = ss; signals = gs; crosswalks = cs; rules = rs })
    (λ m. (m.next, (m.lanes, (m.boundaries, (m.stop_lines, (m.signals, (m.crosswalks, m.rules)))))))
    (λ _ _. refl)
    (λ _ _. refl))

-- its written form is a map file
unfoldable pub is_map : Map → Bool
is_map m = map_file.fits m

unfoldable pub open_map_file : Unit {0}
unfolding open_items open_point open_table open_ceilings coordinate height point polyline boundary_ref lane line_string bulb signal crosswalk numbers body rule table tables map_file is_map
open_map_file = tt
