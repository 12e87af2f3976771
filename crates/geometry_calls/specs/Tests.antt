-- The tests of the calls, by themselves.
use Rattle.std.specs.Prelude.{ℕ, Bool, List, Float}
use Rattle.refusal.specs.Answer.{Answer, ◌>>◌}
use Rattle.geometry.specs.Calls.{refuse_off_map, refuse_many, refuse_measure, check_line}

-- 9 where the first test fails, then 10 for more than 64 points
unfoldable pub check_count : Bool → ℕ → Answer (Unit {0})
check_count ok n = refuse_off_map ok >> refuse_many n

-- what an earlier test refuses, then 4 for a measure
abbrev pub then_measure : Answer (Unit {0}) → Float → Answer (Unit {0})
then_measure a s = a >> refuse_measure s

unfoldable pub check_line_at : List Float → Float → Answer (Unit {0})
check_line_at cs s = then_measure (check_line cs) s
