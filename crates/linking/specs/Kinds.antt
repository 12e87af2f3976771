-- Which kinds of signals a light has, whatever the coordinates.
use Rattle.std.specs.Prelude.{ℕ, ◌≡◌, not, ◌||◌, List, [], ◌∷◌, Float, Bool, Err, Ok, Result}
use Rattle.refusal.specs.Answer.{Answer, refused, done, ◌>>=◌, present}
use Rattle.map.specs.Lookup.{signal_of}
use Rattle.map.specs.Tables.{map_of}
use Rattle.edit.specs.Links as links
use Rattle.edit.specs.Links.{is_vehicle, kinds_of}

abbrev pub kinds_answer : Result (Bool × Bool) ℕ → Answer links.SignalKinds
kinds_answer (Err n) = refused 2 (6 ∷ n ∷ [])
kinds_answer (Ok (v, p)) = done (record { vehicle = v; pedestrian = p })

pub record KindAdded (ws : List ℕ) (n : ℕ) (rest r : Result (Bool × Bool) ℕ) : Type 0 where
  pub answer : (cs : List Float) → kinds_answer r
      ≡ (present (signal_of (map_of ws cs) n) 2 (6 ∷ n ∷ []) >>= λ s.
      kinds_answer rest >>= λ k.
      done (record { vehicle = is_vehicle s.kind || k.vehicle; pedestrian = not (is_vehicle s.kind) || k.pedestrian }))

pub record KindsRead (ws ns : List ℕ) (r : Result (Bool × Bool) ℕ) : Type 0 where
  pub answer : (cs : List Float) → kinds_answer r ≡ kinds_of (map_of ws cs) ns
