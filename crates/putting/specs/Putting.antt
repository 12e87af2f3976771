-- What a writer leaves: the written form from its place on, where there is room for it. A place is lost where the form is longer than any slice.
use Rattle.std.specs.Prelude.{ℕ, ◌+◌, ◌^◌, ◌≤◌, ◌≡◌, cond, ltb, length}
use Rattle.std.proofs.lemmas.List.Edits.{sets}
use Rattle.codec.specs.Format.{Bytes}
use Rattle.fields.specs.Fields.{Place}
use Rattle.std.specs.Prelude.{Some, None}

-- the place n bytes further on
unfoldable pub ahead : Place → ℕ → Place
ahead None n = None
ahead (Some i) n = cond (ltb (i + n) (2 ^ 64)) (Some (i + n)) None

-- The place after the form, whether there is room for it or not: so a slice without room tells the size. Where there is room, the form stands there and
-- nothing else has changed.
pub record PutAt (form old : Bytes) (p r : Place) (new : Bytes) : Type 0 where
  pub next : r ≡ ahead p (length form)
  pub long : length new ≡ length old
  pub made : (i j : ℕ) → p ≡ Some i → r ≡ Some j → j ≤ length old → new ≡ sets old i form
