-- The kinds of a light's signals, from the last to the first.
use Rattle.std.specs.Prelude.{Err, Ok, Result}
use Prim.Native.Nat.{ℕ, suc, ◌-◌, ◌≤◌, ◌<◌}
use mathlib.Core.Path.{◌≡◌, refl, sym, ◌∙◌}
use mathlib.Core.Bool.{Bool, true, false}
use mathlib.Core.List.{List, [], ◌∷◌}
use native.Mathlib.Omega.{arith}
use lib.Ieee.{Float}
use lib.ListN.{length, get_or, drop, drop_of_length-le}
use lib.Seq.{drop-cons}
use borrow.Author.Tests.{eq-eqb, ne_eqb}
use Rattle.store.specs.Layout.{SizedWords, limit_of, width_of, row_of, coords_of}
use Rattle.map.specs.Access.{Found}
use Rattle.std.specs.declared.option.Option.TheVariants as f
use Rattle.map.specs.Record.{Signal}
use Rattle.map.specs.Tables.{signal_in, map_of}
use Rattle.map.specs.Access.{lookup}
use Rattle.map.proofs.ReadLaws.{signal_found, no_signal, found_index, signal_number}
use Rattle.map.proofs.UpdateLaws.{signal_wide}
use Rattle.edit.specs.Links.{is_vehicle, kinds_of}
use Rattle.linking.specs.Kinds.{kinds_answer, KindAdded, KindsRead}

kind_here : (r : List ℕ) (c : List Float) → (signal_in r c).kind ≡ get_or r 1 0
unfolding signal_in
kind_here r c = refl

module _ (ws : List ℕ) (n : ℕ) (rest : Result (Bool × Bool) ℕ) (o : Found) (e : o ≡ lookup ws 3 n) where
  pub added_missing : o ≡ f.None → KindAdded ws n rest (Err n)
  added_missing q = record { answer = λ cs. rw (no_signal ws cs n (sym e ∙ q)) }

  module _ (i : ℕ) (q : o ≡ f.Some i) where
    pub word_asks : SizedWords ws → SizedWords ws × (i < limit_of 3) × (1 < width_of 3)
    word_asks ok = (ok, omega (arith, (found_index (λ (s : Signal). s.num) signal_in signal_number ws [] 3 (omega arith) n i (sym e ∙ q)).1, ok.counts 3 (omega arith)), omega (arith, signal_wide))

    pub added_later : (x : ℕ) → rest ≡ Err x → KindAdded ws n rest (Err x)
    added_later x t = record { answer = λ cs. rw (signal_found ws cs n i (sym e ∙ q), t) }

    module _ (v p : Bool) (t : rest ≡ Ok (v, p)) (k : ℕ) (ek : k ≡ get_or (row_of ws 3 i) 1 0) where
      pub added_vehicle : k ≡ 0 → KindAdded ws n rest (Ok (true, p))
      unfolding is_vehicle
      added_vehicle z = record { answer = λ cs. rw (signal_found ws cs n i (sym e ∙ q), t, kind_here (row_of ws 3 i) (coords_of cs 3 i), ← ek, eq-eqb k 0 z) }

      pub added_pedestrian : (k ≡ 0 → ⊥) → KindAdded ws n rest (Ok (v, true))
      unfolding is_vehicle
      added_pedestrian z = record { answer = λ cs. rw (signal_found ws cs n i (sym e ∙ q), t, kind_here (row_of ws 3 i) (coords_of cs 3 i), ← ek, ne_eqb k 0 z) }

-- ---- the walk from the end

pub record Reading (ws ns : List ℕ) (r : Result (Bool × Bool) ℕ) (i : ℕ) : Type 0 where
  pub within : i ≤ length ns
  pub goes : (cs : List Float) → kinds_answer r ≡ kinds_of (map_of ws cs) (drop i ns)

module _ (ws ns : List ℕ) where
  pub reading_start : Reading ws ns (Ok (false, false)) (length ns)
  unfolding kinds_of
  reading_start = let h : length ns ≤ length ns = omega arith in record { within = h; goes = λ cs. rw (drop_of_length-le ns h) }

  module _ (r : Result (Bool × Bool) ℕ) (i : ℕ) (inv : Reading ws ns r i) where
    pub reading_end : i ≤ 0 → KindsRead ws ns r
    reading_end h = let e : i ≡ 0 = omega arith in record { answer = λ cs. rw e at (inv.goes cs) }

    pub reading_next : 0 < i → (r' : Result (Bool × Bool) ℕ) → KindAdded ws (get_or ns (i - 1) 0) r r' → Reading ws ns r' (i - 1)
    unfolding kinds_of
    reading_next h r' a =
        let w = inv.within in
        let q : suc (i - 1) ≡ i = omega arith in
        let d : drop (i - 1) ns ≡ get_or ns (i - 1) 0 ∷ drop i ns = drop-cons ns (i - 1) 0 (omega arith) ∙ rw q in
        record { within = omega arith; goes = λ cs. a.answer cs ∙ rw (inv.goes cs, d) }
