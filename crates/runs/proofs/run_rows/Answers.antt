-- `runs::run_rows` meets its contract: what is left to do at each row is what was left at the beginning. Assumes nothing.
use native.Mathlib.Omega.{arith}
use borrow.Author.Rules.{rules}
use Rattle.runs.proofs.RowLaws.{first_row, next_row, last_row, row_words_lem}
use Rattle.runs.proofs.run_rows.Goals as goal

pub loop-i-init : goal.loop-i-init
loop-i-init c = first_row _ _ _ _ _ _ c.requires

pub carry_out-step-requires : goal.carry_out-step-requires
carry_out-step-requires c = search (rules, row_words_lem)

pub loop-i-preserved : goal.loop-i-preserved
loop-i-preserved c = next_row _ _ _ _ _ _ _ _ _ _ _ _ _ c.loop-i.invariant (omega arith)
    (record { words = omega (arith, c.words-1.given, c.loop-i.invariant.going.fits.words); coords = omega (arith, c.coords-1.given, c.loop-i.invariant.going.fits.coords); fold = omega (arith, c.fold-1.given, c.loop-i.invariant.going.fits.fold); set = omega (arith, c.set-1.given, c.loop-i.invariant.going.fits.set) })
    c.carry_out-step.ensures c.row_at-row.ensures c.put_reply.ensures

pub returns : goal.returns
returns c = search (rules, last_row)
