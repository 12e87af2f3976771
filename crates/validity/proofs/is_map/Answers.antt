-- `validity::is_map` meets its contract. Assumes nothing.
use Rattle.validity.proofs.Whole.{other_words, other_coords, counts_sized, tables_few, bad_counts, bad_tables, then_points}
use mathlib.Core.Path.{sym, ◌∙◌}
use native.Mathlib.Omega.{arith}
use Rattle.validity.proofs.is_map.Goals as goal

pub returns-then-words-ne-WORDS : goal.returns-then-words-ne-WORDS
returns-then-words-ne-WORDS c = other_words _ _ c.if-words-ne-WORDS.true

pub returns-then-coords-ne-COORDS : goal.returns-then-coords-ne-COORDS
returns-then-coords-ne-COORDS c = other_coords _ _ c.if-words-ne-WORDS.false c.if-coords-ne-COORDS.true

pub counts_ok-requires : goal.counts_ok-requires
counts_ok-requires c = c.if-words-ne-WORDS.false

pub returns-then-not-counts_ok : goal.returns-then-not-counts_ok
returns-then-not-counts_ok c = bad_counts c.args.words.now (λ j. omega (arith, c.shared_slice_known-1.given j)) c.if-words-ne-WORDS.false c.args.coords.now (λ j. c.shared_slice_known-2-1.given j) c.if-coords-ne-COORDS.false (sym c.counts_ok.ensures ∙ c.if-not-counts_ok.true)

pub tables_ok-requires : goal.tables_ok-requires
tables_ok-requires c = record { words = counts_sized _ c.if-words-ne-WORDS.false (sym c.counts_ok.ensures ∙ c.if-not-counts_ok.false); coords = c.if-coords-ne-COORDS.false }

pub returns-then-not-tables_ok : goal.returns-then-not-tables_ok
returns-then-not-tables_ok c = bad_tables c.args.words.now (λ j. omega (arith, c.shared_slice_known-1.given j)) c.if-words-ne-WORDS.false c.args.coords.now (λ j. c.shared_slice_known-2-1.given j) c.if-coords-ne-COORDS.false (sym c.counts_ok.ensures ∙ c.if-not-counts_ok.false) (sym c.tables_ok.ensures ∙ c.if-not-tables_ok.true)

pub points_used-requires : goal.points_used-requires
points_used-requires c = (counts_sized _ c.if-words-ne-WORDS.false (sym c.counts_ok.ensures ∙ c.if-not-counts_ok.false), tables_few _ _ (sym c.tables_ok.ensures ∙ c.if-not-tables_ok.false))

pub returns : goal.returns
returns c = then_points c.args.words.now (λ j. omega (arith, c.shared_slice_known-1.given j)) c.if-words-ne-WORDS.false c.args.coords.now (λ j. c.shared_slice_known-2-1.given j) c.if-coords-ne-COORDS.false (sym c.counts_ok.ensures ∙ c.if-not-counts_ok.false) (sym c.tables_ok.ensures ∙ c.if-not-tables_ok.false) _ c.points_used.ensures
