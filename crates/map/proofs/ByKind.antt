-- Which table a kind names, and that a map's tables rise.
use mathlib.Core.Path.{◌≡◌, refl, sym, subst}
use mathlib.Core.Bool.{Bool, true, false}
use Prim.Native.Nat.{ℕ}
use lib.Dec.{eqb}
use borrow.Author.Tests.{eqb-true}
use Rattle.rows.specs.Table.{rising}
use Rattle.map.specs.Ceilings.{max_lanes, max_boundaries, max_stop_lines, max_signals, max_crosswalks, max_rules}
use Rattle.map.specs.MapFile.{is_map, lane, line_string, signal, crosswalk, rule}
use Rattle.map.specs.Record.{Lane, LineString, Signal, Crosswalk, Rule, Map}
use Rattle.map.proofs.Parts.{map-parts, table_rises}

pub data Kind : ℕ → Type 0 where
  lanes : Kind 1
  boundaries : Kind 2
  stop_lines : Kind 5
  signals : Kind 6
  crosswalks : Kind 7
  rules : Kind 8
  others : {k : ℕ} → eqb k 1 ≡ false → eqb k 2 ≡ false → eqb k 5 ≡ false → eqb k 6 ≡ false → eqb k 7 ≡ false → eqb k 8 ≡ false → Kind k

pub kind_of : (k : ℕ) → Kind k
kind_of k = at₁ (eqb k 1) refl
  where
    is : (b : Bool) (j : ℕ) → eqb k j ≡ b → b ≡ true → Kind j → Kind k
    is b j e t v = subst Kind (sym (eqb-true k j (cc))) v

    at₈ : (b : Bool) → eqb k 8 ≡ b → eqb k 1 ≡ false → eqb k 2 ≡ false → eqb k 5 ≡ false → eqb k 6 ≡ false → eqb k 7 ≡ false → Kind k
    at₈ true e f₁ f₂ f₅ f₆ f₇ = is true 8 e refl rules
    at₈ false e f₁ f₂ f₅ f₆ f₇ = others f₁ f₂ f₅ f₆ f₇ e

    at₇ : (b : Bool) → eqb k 7 ≡ b → eqb k 1 ≡ false → eqb k 2 ≡ false → eqb k 5 ≡ false → eqb k 6 ≡ false → Kind k
    at₇ true e f₁ f₂ f₅ f₆ = is true 7 e refl crosswalks
    at₇ false e f₁ f₂ f₅ f₆ = at₈ (eqb k 8) refl f₁ f₂ f₅ f₆ e

    at₆ : (b : Bool) → eqb k 6 ≡ b → eqb k 1 ≡ false → eqb k 2 ≡ false → eqb k 5 ≡ false → Kind k
    at₆ true e f₁ f₂ f₅ = is true 6 e refl signals
    at₆ false e f₁ f₂ f₅ = at₇ (eqb k 7) refl f₁ f₂ f₅ e

    at₅ : (b : Bool) → eqb k 5 ≡ b → eqb k 1 ≡ false → eqb k 2 ≡ false → Kind k
    at₅ true e f₁ f₂ = is true 5 e refl stop_lines
    at₅ false e f₁ f₂ = at₆ (eqb k 6) refl f₁ f₂ e

    at₂ : (b : Bool) → eqb k 2 ≡ b → eqb k 1 ≡ false → Kind k
    at₂ true e f₁ = is true 2 e refl boundaries
    at₂ false e f₁ = at₅ (eqb k 5) refl f₁ e

    at₁ : (b : Bool) → eqb k 1 ≡ b → Kind k
    at₁ true e = is true 1 e refl lanes
    at₁ false e = at₂ (eqb k 2) refl e

module _ (m : Map) (ok : is_map m ≡ true) where
  pub up₁ : rising (λ (x : Lane). x.num) 0 m.next m.lanes ≡ true
  up₁ = table_rises (λ (x : Lane). x.num) max_lanes lane m.next m.lanes (map-parts m ok).lanes

  pub up₂ : rising (λ (x : LineString). x.num) 0 m.next m.boundaries ≡ true
  up₂ = table_rises (λ (x : LineString). x.num) max_boundaries line_string m.next m.boundaries (map-parts m ok).boundaries

  pub up₅ : rising (λ (x : LineString). x.num) 0 m.next m.stop_lines ≡ true
  up₅ = table_rises (λ (x : LineString). x.num) max_stop_lines line_string m.next m.stop_lines (map-parts m ok).stop_lines

  pub up₆ : rising (λ (x : Signal). x.num) 0 m.next m.signals ≡ true
  up₆ = table_rises (λ (x : Signal). x.num) max_signals signal m.next m.signals (map-parts m ok).signals

  pub up₇ : rising (λ (x : Crosswalk). x.num) 0 m.next m.crosswalks ≡ true
  up₇ = table_rises (λ (x : Crosswalk). x.num) max_crosswalks crosswalk m.next m.crosswalks (map-parts m ok).crosswalks

  pub up₈ : rising (λ (x : Rule). x.num) 0 m.next m.rules ≡ true
  up₈ = table_rises (λ (x : Rule). x.num) max_rules rule m.next m.rules (map-parts m ok).rules
