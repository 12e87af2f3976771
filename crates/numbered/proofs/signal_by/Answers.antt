-- `numbered::signal_by` meets its contract. Assumes nothing.
use Rattle.call_list.proofs.Numbers.{no_signal, signal_called}
use borrow.Author.Rules.{rules}
use Rattle.numbered.proofs.signal_by.Goals as goal

pub returns-then-not-signal_cases : goal.returns-then-not-signal_cases
returns-then-not-signal_cases c = search (rules, no_signal)

pub returns : goal.returns
returns c = search (rules, signal_called)
