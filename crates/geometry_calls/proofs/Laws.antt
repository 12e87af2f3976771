-- Answers: a refusal stands, and what comes after a test that passed. Every coordinate on the map, one after the other.
use Prim.Native.Nat.{ℕ, ◌+◌, ◌/◌, ◌%◌, ◌≤◌, ◌<◌, max}
use mathlib.Core.Path.{◌≡◌, refl, sym, ap, ◌∙◌}
use mathlib.Core.Bool.{Bool, true, false}
use mathlib.Core.List.{List, []}
use native.Mathlib.Omega.{arith}
use native.Mathlib.Numerals.{add-one}
use lib.Dec.{ltb}
use lib.ListN.{length, get_or, drop, drop_of_length-le}
use lib.Seq.{drop-cons}
use lib.Ieee.{Float, nan}
use borrow.Author.Tests.{eq-eqb, ne_eqb, ltb-false}
use Rattle.std.specs.Prelude.{Result, Ok, Err}
use Rattle.geometry.proofs.Doubles.{split}
use Rattle.refusal.specs.Answer.{Answer, refused, done, refused_as, answered, ◌>>◌}
use Rattle.refusal.specs.declared.Refusal.{Refusal}
use Rattle.rows.specs.Lists.{every}
use Rattle.geometry.specs.Double.{on_map}
use Rattle.geometry.specs.Polyline.{polyline_of}
use Rattle.geometry.specs.Calls.{coords_on_map, refuse_off_map, refuse_many, refuse_measure, check_line}
use Rattle.polyline.proofs.Lines.{length-points}
use Rattle.geometry_calls.specs.Tests.{check_count, check_line_at}

-- ---- coordinates

module _ (cs : List Float) where
  pub lacks : (length cs % 3 ≡ 0 → ⊥) → false ≡ coords_on_map cs
  unfolding coords_on_map
  lacks h = rw (ne_eqb (length cs % 3) 0 h)

  -- those before i are on the map
  pub record OnMapTo (i : ℕ) : Type 0 where
    pub within : i ≤ length cs
    pub goes : coords_on_map cs ≡ every on_map (drop i cs)

  pub on_map_start : length cs % 3 ≡ 0 → OnMapTo 0
  unfolding coords_on_map
  on_map_start h = record { within = omega arith; goes = rw (eq-eqb (length cs % 3) 0 h) }

  module _ (i : ℕ) (r : OnMapTo i) where
    pub on_map_out : i < length cs → false ≡ on_map (get_or cs i nan) → false ≡ coords_on_map cs
    unfolding every
    on_map_out h e = rw (r.goes, drop-cons cs i nan h, ← e)

    pub on_map_next : i < length cs → true ≡ on_map (get_or cs i nan) → OnMapTo (i + 1)
    unfolding every
    on_map_next h e = record { within = omega arith; goes = rw (r.goes, drop-cons cs i nan h, ← e, add-one i) }

    pub on_map_end : length cs ≤ i → true ≡ coords_on_map cs
    unfolding every
    on_map_end h = rw (r.goes, drop_of_length-le cs h)

-- ---- answers

module _ {A : Type 0} where
  pub joined : (a b : Answer (Unit {0})) (x : Answer A) → ((a >> b) >> x) ≡ (a >> (b >> x))
  joined (refused n ds) b x = refl
  joined (done u) b x = refl

  -- what follows a test of the code
  module _ (t : Result (Unit {0}) Refusal) (a : Answer (Unit {0})) (x : Answer A) where
    pub stands : (r : Refusal) → answered t ≡ a → t ≡ Err r → refused_as r ≡ (a >> x)
    stands r h e = rw (← h, e)

    pub passes : (y : Answer A) → answered t ≡ a → t ≡ Ok tt → y ≡ x → y ≡ (a >> x)
    passes y h e f = rw (← h, e) f

  module _ (t : Result (Unit {0}) Refusal) (x : Answer A) where
    -- after two tests, of which the code makes one
    module _ (cs : List Float) (s : Float) (h : answered t ≡ check_line_at cs s) where
      pub line_at_stands : (r : Refusal) → t ≡ Err r → refused_as r ≡ (check_line cs >> (refuse_measure s >> x))
      unfolding check_line_at
      line_at_stands r e = stands t (check_line cs >> refuse_measure s) x r h e ∙ joined (check_line cs) (refuse_measure s) x

      pub line_at_passes : (y : Answer A) → t ≡ Ok tt → y ≡ x → y ≡ (check_line cs >> (refuse_measure s >> x))
      unfolding check_line_at
      line_at_passes y e f = passes t (check_line cs >> refuse_measure s) x y h e f ∙ joined (check_line cs) (refuse_measure s) x

    module _ (ok : Bool) (n : ℕ) (h : answered t ≡ check_count ok n) where
      pub count_stands : (r : Refusal) → t ≡ Err r → refused_as r ≡ (refuse_off_map ok >> (refuse_many n >> x))
      unfolding check_count
      count_stands r e = stands t (refuse_off_map ok >> refuse_many n) x r h e ∙ joined (refuse_off_map ok) (refuse_many n) x

      pub count_passes : (y : Answer A) → t ≡ Ok tt → y ≡ x → y ≡ (refuse_off_map ok >> (refuse_many n >> x))
      unfolding check_count
      count_passes y e f = passes t (refuse_off_map ok >> refuse_many n) x y h e f ∙ joined (refuse_off_map ok) (refuse_many n) x

-- ---- counts

never : (n : ℕ) (ds : List ℕ) → ◌≡◌ {A = Answer (Unit {0})} (done tt) (refused n ds) → ⊥
never n ds e = let z : ◌≡◌ {A = ℕ} 0 1 = cc in omega arith

many_few : (n : ℕ) → done tt ≡ refuse_many n → n ≤ 64
many_few n e = split (ltb 64 n) (λ t. absurd (never 10 [] (rw t at e))) (λ t. ltb-false 64 n t)

-- the second of two tests has passed too
second : (a b : Answer (Unit {0})) → done tt ≡ (a >> b) → done tt ≡ b
second (refused n ds) b e = absurd (never n ds e)
second (done tt) b e = e

pub line_is : (cs : List Float) → check_count (coords_on_map cs) (length cs / 3) ≡ check_line cs
unfolding check_count check_line
line_is cs = rw (length-points cs)

module _ (t : Result (Unit {0}) Refusal) (e : t ≡ Ok tt) where
  pub count_few : (ok : Bool) (n : ℕ) → answered t ≡ check_count ok n → n ≤ 64
  unfolding check_count
  count_few ok n h = many_few n (second (refuse_off_map ok) (refuse_many n) (sym (ap answered e) ∙ h))

  pub line_few : (cs : List Float) → answered t ≡ check_line cs → length cs / 3 ≤ 64
  line_few cs h = count_few (coords_on_map cs) (length cs / 3) (h ∙ sym (line_is cs))

  pub asked_few : (ok : Bool) (cs : List Float) (n : ℕ) → answered t ≡ check_count ok (max n (length (polyline_of cs))) → (length cs / 3 ≤ 64) × (n ≤ 64)
  asked_few ok cs n h = let m = count_few ok (max n (length (polyline_of cs))) h in let l = length-points cs in (omega arith, omega arith)

  pub lines_few : (ok : Bool) (a b : List Float) → answered t ≡ check_count ok (max (length (polyline_of a)) (length (polyline_of b))) → (length a / 3 ≤ 64) × (length b / 3 ≤ 64)
  lines_few ok a b h =
      let m = count_few ok (max (length (polyline_of a)) (length (polyline_of b))) h in
      let k = length-points a in
      let l = length-points b in
      (omega arith, omega arith)
