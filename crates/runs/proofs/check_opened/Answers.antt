-- `runs::check_opened` meets its contract. Assumes nothing.
use Rattle.runs.proofs.OpenedLaws.{tested_words, tested_coords, tested_done, tested_sets, tested_file}
use borrow.Author.Rules.{rules}
use Rattle.runs.proofs.check_opened.Goals as goal
use Rattle.runs.proofs.check_opened.Goals.{then-words-ne-WORDS-via-then-words-ne-WORDS, then-words-ne-WORDS-via-else-words-ne-WORDS+then-coords-ne-COORDS}

pub returns-then-words-ne-WORDS : goal.returns-then-words-ne-WORDS
returns-then-words-ne-WORDS c =
    elim c.then-words-ne-WORDS.branch [ then-words-ne-WORDS-via-then-words-ne-WORDS w ↦ search (rules, tested_words) | then-words-ne-WORDS-via-else-words-ne-WORDS+then-coords-ne-COORDS w ↦ search (rules, tested_coords) ]

pub returns-in-Ok : goal.returns-in-Ok
returns-in-Ok c = search (rules, tested_done)

pub returns-then-is_map_file : goal.returns-then-is_map_file
returns-then-is_map_file c = search (rules, tested_sets)

pub returns-else-is_map_file : goal.returns-else-is_map_file
returns-else-is_map_file c = search (rules, tested_file)
