-- What the loop over the rows needs of what is lent, and the tally of an opening.
use Rattle.std.specs.Prelude.{ℕ, ◌*◌, ◌≤◌, List, length}
use Rattle.changes.specs.declared.Tally.{Tally}
use Rattle.edit.specs.Lent.{Lent}
use Rattle.call_list.specs.Reply.{reply_length}
use Rattle.call_list.specs.Step.{Fitting}
use Rattle.call_list.specs.Rows.{row_words}

-- tables of their lengths, n rows, and room for the answers a of n rows
pub record Room (l : Lent) (calls a : List ℕ) (n : ℕ) : Type 0 where
  pub tables : Fitting l
  pub rows : n * row_words ≤ length calls
  pub answers : n * reply_length ≤ length a

abbrev pub no_tally : Tally
no_tally = record { created = 0; modified = 0; deleted = 0 }
