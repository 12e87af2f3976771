-- The checks of the lists: each refusal, and what has passed.
use Prim.Native.Nat.{ℕ, suc, ◌-◌, ◌≤◌, ◌<◌}
use mathlib.Core.Path.{◌≡◌, refl, sym, ◌∙◌}
use mathlib.Core.Bool.{cond}
use Rattle.std.specs.Prelude.{Option, None, Some, Err, Ok, Result}
use mathlib.Core.List.{List, [], ◌∷◌}
use native.Mathlib.Omega.{arith}
use lib.Ieee.{Float}
use lib.ListN.{length, get_or, drop, drop_of_length-le}
use lib.Seq.{drop-cons}
use Rattle.refusal.specs.declared.Refusal.{Refusal}
use Rattle.refusal.specs.declared.Refusal.TheVariants.{Unknown}
use Rattle.refusal.specs.declared.RecordKind.TheVariants as record_kind
use Rattle.rows.specs.Lists.{first_of, sorted}
use Rattle.store.specs.Layout.{records_of}
use Rattle.map.specs.Record.{Lane, LineString, Crosswalk}
use Rattle.map.specs.Lookup.{unknown_in}
use Rattle.map.specs.Tables.{lane_in, line_string_in, crosswalk_in, map_of}
use Rattle.map.proofs.ReadLaws.{holds_here, lane_number, line_number, crosswalk_number}
use Rattle.placing.specs.Answers.{checked}
use Rattle.linking.specs.Linking.{known_in, less_if, unknown_least, twice_checks, list_checks, ListsChecked}
use Rattle.linking.proofs.SortLaws.{sorted_up, least_insert}

-- ---- the walk from the end

pub record Least (ws : List ℕ) (k : ℕ) (ns : List ℕ) (best : Option ℕ) (i : ℕ) : Type 0 where
  pub within : i ≤ length ns
  pub goes : best ≡ unknown_least ws k (drop i ns)

module _ (ws : List ℕ) (k : ℕ) (ns : List ℕ) where
  pub least_start : Least ws k ns None (length ns)
  unfolding unknown_least sorted first_of
  least_start = record { within = omega arith; goes = let h : length ns ≤ length ns = omega arith in rw (drop_of_length-le ns h) }

  module _ (best : Option ℕ) (i : ℕ) (inv : Least ws k ns best i) where
    pub least_end : i ≤ 0 → best ≡ unknown_least ws k ns
    least_end h = let e : i ≡ 0 = omega arith in rw e at inv.goes

    pub least_next : 0 < i → (r : Option ℕ) → r ≡ less_if ws k (get_or ns (i - 1) 0) best → Least ws k ns r (i - 1)
    unfolding unknown_least sorted less_if
    least_next h r e =
        let w = inv.within in
        let q : suc (i - 1) ≡ i = omega arith in
        let d : drop (i - 1) ns ≡ get_or ns (i - 1) 0 ∷ drop i ns = drop-cons ns (i - 1) 0 (omega arith) ∙ rw q in
        record {
          within = omega arith;
          goes = e ∙ rw (inv.goes, d) (sym (least_insert (known_in ws k) (get_or ns (i - 1) 0) (sorted (drop i ns)) (sorted_up (drop i ns))));
        }

-- ---- unknown

module _ (ws : List ℕ) (cs : List Float) (ns : List ℕ) where
  unknown_first : {A : Type 0} (num : A → ℕ) (f : List ℕ → List Float → A) → ((r : List ℕ) (c : List Float) → num (f r c) ≡ get_or r 0 0) → (k : ℕ) → k < 6
      → (ys : List ℕ) → first_of (λ n. cond (known_in ws k n) None (Some n)) ys ≡ unknown_in num (records_of f ws cs k) ys
  unfolding unknown_in first_of
  unknown_first num f e k hk [] = refl
  unknown_first num f e k hk (y ∷ ys) = rw (holds_here num f e ws cs k hk y, unknown_first num f e k hk ys)

  unknown_lanes : unknown_least ws 0 ns ≡ unknown_in (λ (l : Lane). l.num) (map_of ws cs).lanes (sorted ns)
  unfolding unknown_least map_of
  unknown_lanes = unknown_first (λ (l : Lane). l.num) lane_in lane_number 0 (omega arith) (sorted ns)

  unknown_crosswalks : unknown_least ws 4 ns ≡ unknown_in (λ (l : Crosswalk). l.num) (map_of ws cs).crosswalks (sorted ns)
  unfolding unknown_least map_of
  unknown_crosswalks = unknown_first (λ (l : Crosswalk). l.num) crosswalk_in crosswalk_number 4 (omega arith) (sorted ns)

  unknown_lines : unknown_least ws 2 ns ≡ unknown_in (λ (l : LineString). l.num) (map_of ws cs).stop_lines (sorted ns)
  unfolding unknown_least map_of
  unknown_lines = unknown_first (λ (l : LineString). l.num) line_string_in line_number 2 (omega arith) (sorted ns)

module _ (ws lanes crosswalks lines : List ℕ) (t : Result (Unit {0}) Refusal) (et : checked t ≡ twice_checks lanes crosswalks lines) where
  pub lists_twice : (r : Refusal) → t ≡ Err r → ListsChecked ws lanes crosswalks lines (Err r)
  unfolding list_checks
  lists_twice r q = record { answer = λ cs. rw (← et, q) }

  module _ (q : t ≡ (Ok tt)) (l : Option ℕ) (el : l ≡ unknown_least ws 0 lanes) where
    pub lists_lane : (n : ℕ) → l ≡ Some n → ListsChecked ws lanes crosswalks lines (Err (Unknown record_kind.Lane n))
    unfolding list_checks
    lists_lane n p = record { answer = λ cs. rw (← et, q, ← unknown_lanes ws cs lanes, ← el, p) }

    module _ (p : l ≡ None) (c : Option ℕ) (ec : c ≡ unknown_least ws 4 crosswalks) where
      pub lists_crosswalk : (n : ℕ) → c ≡ Some n → ListsChecked ws lanes crosswalks lines (Err (Unknown record_kind.Crosswalk n))
      unfolding list_checks
      lists_crosswalk n o = record { answer = λ cs. rw (← et, q, ← unknown_lanes ws cs lanes, ← el, p, ← unknown_crosswalks ws cs crosswalks, ← ec, o) }

      module _ (o : c ≡ None) (s : Option ℕ) (es : s ≡ unknown_least ws 2 lines) where
        pub lists_line : (n : ℕ) → s ≡ Some n → ListsChecked ws lanes crosswalks lines (Err (Unknown record_kind.StopLine n))
        unfolding list_checks
        lists_line n u = record { answer = λ cs. rw (← et, q, ← unknown_lanes ws cs lanes, ← el, p, ← unknown_crosswalks ws cs crosswalks, ← ec, o, ← unknown_lines ws cs lines, ← es, u) }

        pub lists_fine : s ≡ None → ListsChecked ws lanes crosswalks lines (Ok tt)
        unfolding list_checks
        lists_fine u = record { answer = λ cs. rw (← et, q, ← unknown_lanes ws cs lanes, ← el, p, ← unknown_crosswalks ws cs crosswalks, ← ec, o, ← unknown_lines ws cs lines, ← es, u) }
