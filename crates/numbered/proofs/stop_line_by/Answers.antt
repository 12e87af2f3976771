-- `numbered::stop_line_by` meets its contract. Assumes nothing.
use Rattle.call_list.proofs.Numbers.{no_placement, no_rule, line_called}
use borrow.Author.Rules.{rules}
use Rattle.numbered.proofs.stop_line_by.Goals as goal
use Rattle.numbered.proofs.stop_line_by.Goals.{then-placement-gt2-via-then-placement-gt2, then-placement-gt2-via-else-placement-gt2+then-rule-gt2}

pub returns-then-placement-gt2 : goal.returns-then-placement-gt2
returns-then-placement-gt2 c =
    elim c.then-placement-gt2.branch [ then-placement-gt2-via-then-placement-gt2 w ↦ search (rules, no_placement) | then-placement-gt2-via-else-placement-gt2+then-rule-gt2 w ↦ search (rules, no_rule) ]

pub returns : goal.returns
returns c = search (rules, line_called)
