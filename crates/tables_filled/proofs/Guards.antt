-- What the test of the tables gives the calls after it.
use Rattle.std.proofs.Common.{◌≡◌, ℕ, Bool, true, List, sym, ◌∙◌}
use lib.Ieee.{Float}
use Rattle.store.specs.Layout.{Sized, SizedWords}
use Rattle.map.specs.Tables.{is_map_tables}
use Rattle.map.proofs.SoundLaws.{sound}

module _ (ws : List ℕ) (cs : List Float) (r : Bool) (h : r ≡ is_map_tables ws cs) (n : r ≡ true) where
  pub sized_tables : Sized ws cs
  sized_tables = (sound ws cs (sym h ∙ n)).sized

  pub sized_words : SizedWords ws
  sized_words = sized_tables.words

pub ruleset guards = (sized_tables, sized_words)
