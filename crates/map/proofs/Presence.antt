-- Records that a map has: present where they have a written form, and numbered below the next number.
use mathlib.Core.Path.{◌≡◌, refl}
use mathlib.Core.Bool.{true}
use Rattle.std.specs.Prelude.{Option, None, Some}
use mathlib.Core.List.{List}
use Prim.Native.Nat.{ℕ, ◌^◌, ◌<◌}
use lib.Dec.{ltb}
use native.Mathlib.Omega.{arith}
use borrow.Author.Tests.{ltb-true}
use Rattle.rows.specs.Table.{find, holds, rising}
use Rattle.rows.proofs.Bools.{clash}
use Rattle.rows.proofs.Tables.{is_some, holds_found, found_is, rising_below}
use Rattle.codec.specs.Format.{Bytes}
use Rattle.codec.proofs.Fits.{number_below}
use Rattle.map.specs.Entity.{EntityRef, entity, has, form_in, form_of}
use Rattle.map.specs.MapFile.{lane, line_string, signal, crosswalk, rule, is_map}
use Rattle.map.specs.Record.{Lane, LineString, Signal, Crosswalk, Rule, Map}
use Rattle.map.proofs.ByKind.{Kind, lanes, boundaries, stop_lines, signals, crosswalks, rules, others, kind_of, up₁, up₂, up₅, up₆, up₇, up₈}
use Rattle.map.proofs.Parts.{map-parts}

-- ---- a record is present where it has a written form

pub some_form : {A : Type 0} (w : A → Bytes) (o : Option A) → is_some o ≡ is_some (form_in w o)
unfolding form_in
some_form w None = refl
some_form w (Some x) = refl

pub has_form : (m : Map) (a : EntityRef) → has m a ≡ is_some (form_of m a)
unfolding has form_of
has_form m a = go a.kind a.num (kind_of a.kind)
  where
    here : {A : Type 0} (num : A → ℕ) (w : A → Bytes) (n : ℕ) (t : List A) → holds num n t ≡ is_some (form_in w (find num n t))
    here num w n t = rw (holds_found num n t) (some_form w (find num n t))

    go : (k n : ℕ) → Kind k → has m (entity k n) ≡ is_some (form_of m (entity k n))
    go k n lanes = here (λ (x : Lane). x.num) lane.write n m.lanes
    go k n boundaries = here (λ (x : LineString). x.num) line_string.write n m.boundaries
    go k n stop_lines = here (λ (x : LineString). x.num) line_string.write n m.stop_lines
    go k n signals = here (λ (x : Signal). x.num) signal.write n m.signals
    go k n crosswalks = here (λ (x : Crosswalk). x.num) crosswalk.write n m.crosswalks
    go k n rules = here (λ (x : Rule). x.num) rule.write n m.rules
    go k n (others e₁ e₂ e₅ e₆ e₇ e₈) = rw (e₁, e₂, e₅, e₆, e₇, e₈)

-- ---- what a map's record is called

module _ (m : Map) (ok : is_map m ≡ true) where
  pub held_below : {A : Type 0} (num : A → ℕ) (t : List A) (n : ℕ) → rising num 0 m.next t ≡ true → holds num n t ≡ true → n < m.next
  held_below num t n r h = go (find num n t) refl (rw (holds_found num n t) at h)
    where
      go : (o : Option _) → find num n t ≡ o → is_some o ≡ true → n < m.next
      go None e k = clash k refl
      go (Some x) e k = let w = found_is num n t (λ y. ltb (num y) m.next) x (rising_below num 0 m.next t r) e in
          let u = ltb-true (num x) m.next w.0 in let v = w.1 in omega arith

  pub has_below : (a : EntityRef) → has m a ≡ true → a.num < m.next
  unfolding has
  has_below a h = go a.kind a.num (kind_of a.kind) h
    where
      go : (k n : ℕ) → Kind k → has m (entity k n) ≡ true → n < m.next
      go k n lanes h = held_below (λ (x : Lane). x.num) m.lanes n (up₁ m ok) h
      go k n boundaries h = held_below (λ (x : LineString). x.num) m.boundaries n (up₂ m ok) h
      go k n stop_lines h = held_below (λ (x : LineString). x.num) m.stop_lines n (up₅ m ok) h
      go k n signals h = held_below (λ (x : Signal). x.num) m.signals n (up₆ m ok) h
      go k n crosswalks h = held_below (λ (x : Crosswalk). x.num) m.crosswalks n (up₇ m ok) h
      go k n rules h = held_below (λ (x : Rule). x.num) m.rules n (up₈ m ok) h
      go k n (others e₁ e₂ e₅ e₆ e₇ e₈) h = clash (rw (e₁, e₂, e₅, e₆, e₇, e₈) at h) refl

  pub next_fits : m.next < 2 ^ 64
  next_fits = number_below m.next (map-parts m ok).next
