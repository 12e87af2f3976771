-- The warnings of a placement.
use mathlib.Core.Path.{◌≡◌, refl, subst}
use mathlib.Core.Bool.{Bool, true, false, not, ◌||◌, cond}
use Rattle.std.specs.Prelude.{Some}
use mathlib.Core.List.{List, [], ◌∷◌}
use Prim.Native.Nat.{ℕ, ◌^◌, ◌<◌}
use lib.Dec.{ltb}
use lib.ListN.{get_or}
use lib.Ieee.{Float, lt}
use native.Mathlib.Omega.{arith}
use borrow.Author.Tests.{ltb-true}
use Rattle.refusal.specs.Answer.{done, present}
use Rattle.rows.specs.Lists.{every}
use Rattle.rows.proofs.Bools.{parts}
use Rattle.geometry.specs.Double.{f0, epsilon, is_finite, clamp, absolute, ◌⊖◌}
use Rattle.geometry.specs.Polyline.{polyline_length}
use Rattle.map.specs.Entity.{entity}
use Rattle.map.specs.MapFile.{is_map}
use Rattle.map.specs.Record.{Map}
use Rattle.map.proofs.Presence.{next_fits}
use Rattle.changes.specs.ChangeSet.{warning}
use Rattle.changes.proofs.Entries.{Warned, none_warned, one_warned}
use Rattle.place.specs.Place.{Placed, lane_centerline, check_polyline, cross_section, clamp_warning, place_at, place_as, place_stop_line}
use Rattle.place.specs.declared.Placement.{Placement}
use Rattle.place.specs.declared.Placement.TheVariants.{AtLaneEnd, AtStation, Given}
use Rattle.place.proofs.Answers.{done_is, went, next, past}

pub first_fits : (m : Map) → is_map m ≡ true → (ls : List ℕ) → every (λ n. ltb n m.next) ls ≡ true → get_or ls 0 0 < 2 ^ 64
unfolding every
first_fits m ok [] e = omega arith
first_fits m ok (x ∷ ls) e = let u = ltb-true x m.next (search parts) in let v = next_fits m ok in omega arith

-- ---- the placement

clamp_warned : (n : ℕ) (x y : Float) → n < 2 ^ 64 → Warned 1 (clamp_warning n x y)
unfolding clamp_warning
clamp_warned n x y h = go (lt epsilon (absolute (y ⊖ x)))
  where
    go : (b : Bool) → Warned 1 (cond b (warning 1 (Some (entity 1 n)) ∷ []) [])
    go true = one_warned 1 1 n refl refl h
    go false = none_warned

at_warned : (m : Map) (ls : List ℕ) (n : ℕ) (len x : Float) (p : Placed) → n < 2 ^ 64 → place_at m ls n len x ≡ done p → Warned 1 p.warnings
unfolding place_at
at_warned m ls n len x p h e =
    let p₁ = past (not (is_finite x)) 4 (3 ∷ []) _ p e in
    let p₂ = went (cross_section m n (clamp x f0 len) ls) _ p p₁.rest in
    subst (λ (q : Placed). Warned 1 q.warnings) (done_is p₂.rest) (clamp_warned n x (clamp x f0 len) h)

as_warned : (how : Placement) (cs : List Float) (m : Map) (ls : List ℕ) (n : ℕ) (len : Float) (p : Placed) → n < 2 ^ 64 → place_as how cs m ls n len ≡ done p → Warned 1 p.warnings
unfolding place_as
as_warned Given cs m ls n len p h e = let p₁ = next (check_polyline cs) _ p e in subst (λ (q : Placed). Warned 1 q.warnings) (done_is p₁.rest) none_warned
as_warned (AtLaneEnd o) cs m ls n len p h e = let p₁ = past (not (is_finite o) || lt o f0) 4 (2 ∷ []) _ p e in at_warned m ls n len (len ⊖ o) p h p₁.rest
as_warned (AtStation s) cs m ls n len p h e = at_warned m ls n len s p h e

pub place_warned : (m : Map) (ls : List ℕ) (how : Placement) (cs : List Float) (p : Placed) → get_or ls 0 0 < 2 ^ 64 → place_stop_line m ls how cs ≡ done p → Warned 1 p.warnings
unfolding place_stop_line
place_warned m ls how cs p h e =
    let p₁ = went (present (lane_centerline m (get_or ls 0 0)) 6 (1 ∷ [])) _ p e in
    as_warned how cs m ls (get_or ls 0 0) (polyline_length p₁.value) p h p₁.rest
