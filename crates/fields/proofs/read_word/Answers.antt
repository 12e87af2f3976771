use borrow.Author.Rules.{rules}
use Rattle.fields.proofs.Words as L
use Rattle.fields.proofs.read_word.Goals as goal

pub returns-in_err-n : goal.returns-in_err-n
returns-in_err-n c =
    rw c.from_residual-in_err-n.ensures
    (L.word_cut _ _ _ _ _ _ c.requires _ c.in_ok-p.was c.read_number.result c.read_number.ensures c.in_err-n.was)

pub returns-then-n-least : goal.returns-then-n-least
returns-then-n-least c =
    L.word_off _ _ _ _ _ _ c.requires _ c.in_ok-p.was c.read_number.result c.read_number.ensures _ _ c.in_ok-n.was c.then-n-least.either

pub returns : goal.returns
returns c = search (rules, L.reading_word)
