-- Walks over a list that test each entry: what is left decides.
use Rattle.std.specs.Prelude.{None, Some}
use Prim.Native.Nat.{ℕ, suc, ◌+◌, ◌≤◌, ◌<◌}
use mathlib.Core.Path.{◌≡◌, refl, sym, ◌∙◌}
use mathlib.Core.Bool.{Bool, true, false, not, ◌||◌}
use mathlib.Core.List.{List}
use native.Mathlib.Numerals.{add-one}
use native.Mathlib.Omega.{arith}
use lib.Dec.{ltb}
use lib.Ieee.{Float}
use lib.ListN.{length, get_or, drop, drop_of_length-le}
use lib.Seq.{drop-cons}
use borrow.Author.Tests.{not-true, not-false, eq-eqb, ne_eqb}
use Rattle.rows.specs.Lists.{every, first_of, member, twice}
use Rattle.rows.specs.Table.{holds}
use Rattle.store.specs.Layout.{count_of}
use Rattle.map.specs.Record.{Lane}
use Rattle.map.specs.Lookup.{unknown_in}
use Rattle.map.specs.Tables.{lane_in, map_of}
use Rattle.map.specs.Access.{index_in}
use Rattle.map.proofs.ReadLaws.{holds_here, lane_number}
use Rattle.placing.specs.Answers.{UnknownRead}

-- ---- every entry passes

module _ {A : Type 0} (p : A → Bool) (z : A) (xs : List A) where
  pub record Every (i : ℕ) : Type 0 where
    pub within : i ≤ length xs
    pub goes : every p xs ≡ every p (drop i xs)

  module _ (i : ℕ) (inv : Every i) where
    pub every_end : length xs ≤ i → true ≡ every p xs
    unfolding every
    every_end h = sym (inv.goes ∙ rw (drop_of_length-le xs h))

    module _ (h : i < length xs) (b : Bool) (e : b ≡ p (get_or xs i z)) where
      pub every_out : not b ≡ true → false ≡ every p xs
      unfolding every
      every_out t = sym (inv.goes ∙ rw (drop-cons xs i z h, ← e, not-true b t))

      pub every_next : not b ≡ false → Every (i + 1)
      unfolding every
      every_next t = record { within = omega arith; goes = inv.goes ∙ rw (drop-cons xs i z h, ← e, not-false b t, add-one i) }

-- ---- a number in a list

module _ (ns : List ℕ) (from n : ℕ) where
  pub record Sought (i : ℕ) : Type 0 where
    pub within : i ≤ length ns
    pub goes : member n (drop from ns) ≡ member n (drop i ns)

  pub sought_start : from ≤ length ns → Sought from
  sought_start h = record { within = h; goes = refl }

  module _ (i : ℕ) (inv : Sought i) where
    pub sought_end : length ns ≤ i → false ≡ member n (drop from ns)
    unfolding member
    sought_end h = sym (inv.goes ∙ rw (drop_of_length-le ns h))

    pub sought_here : i < length ns → get_or ns i 0 ≡ n → true ≡ member n (drop from ns)
    unfolding member
    sought_here h e = sym (inv.goes ∙ rw (drop-cons ns i 0 h, eq-eqb (get_or ns i 0) n e))

    pub sought_next : i < length ns → (get_or ns i 0 ≡ n → ⊥) → Sought (i + 1)
    unfolding member
    sought_next h e = record { within = omega arith; goes = inv.goes ∙ rw (drop-cons ns i 0 h, ne_eqb (get_or ns i 0) n e, add-one i) }

-- ---- a number that stands twice

module _ (ns : List ℕ) where
  pub record Single (i : ℕ) : Type 0 where
    pub within : i ≤ length ns
    pub goes : twice ns ≡ twice (drop i ns)

  module _ (i : ℕ) (inv : Single i) where
    pub single_end : length ns ≤ i → false ≡ twice ns
    unfolding twice
    single_end h = sym (inv.goes ∙ rw (drop_of_length-le ns h))

    module _ (h : i < length ns) (b : Bool) (e : b ≡ member (get_or ns i 0) (drop (i + 1) ns)) where
      step : twice ns ≡ (b || twice (drop (i + 1) ns))
      unfolding twice
      step =
          let f : b ≡ member (get_or ns i 0) (drop (suc i) ns) = rw (add-one i) at e in
          inv.goes ∙ rw (drop-cons ns i 0 h, ← f, add-one i)

      pub single_not : b ≡ true → true ≡ twice ns
      single_not t = sym (step ∙ rw t)

      pub single_next : b ≡ false → Single (i + 1)
      single_next t = record { within = omega arith; goes = step ∙ rw t }

-- ---- a lane that the map lacks

module _ (ws lanes : List ℕ) where
  pub record Known (i : ℕ) : Type 0 where
    pub within : i ≤ length lanes
    pub goes : (cs : List Float) → unknown_in (λ (l : Lane). l.num) (map_of ws cs).lanes lanes ≡ unknown_in (λ (l : Lane). l.num) (map_of ws cs).lanes (drop i lanes)

  module _ (i : ℕ) (inv : Known i) where
    pub known_end : length lanes ≤ i → UnknownRead ws lanes None
    unfolding unknown_in first_of
    known_end h = record { answer = λ cs. sym (inv.goes cs ∙ rw (drop_of_length-le lanes h)) }

    module _ (h : i < length lanes) (b : Bool) (e : b ≡ ltb (index_in ws 0 (get_or lanes i 0)) (count_of ws 0)) where
      here : (cs : List Float) → holds (λ (l : Lane). l.num) (get_or lanes i 0) (map_of ws cs).lanes ≡ b
      unfolding map_of
      here cs = holds_here (λ (l : Lane). l.num) lane_in lane_number ws cs 0 (omega arith) (get_or lanes i 0) ∙ sym e

      pub known_not : not b ≡ true → UnknownRead ws lanes (Some (get_or lanes i 0))
      unfolding unknown_in first_of
      known_not t = record { answer = λ cs. sym (inv.goes cs ∙ rw (drop-cons lanes i 0 h, here cs, not-true b t)) }

      pub known_next : not b ≡ false → Known (i + 1)
      unfolding unknown_in first_of
      known_next t = record { within = omega arith; goes = λ cs. inv.goes cs ∙ rw (drop-cons lanes i 0 h, here cs, not-false b t, add-one i) }
