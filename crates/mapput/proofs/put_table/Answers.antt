use borrow.Author.Rules.{rules}
use Rattle.mapput.proofs.TableLaws as L
use Rattle.mapput.proofs.put_table.Goals as goal

pub loop-i-init : goal.loop-i-init
loop-i-init c = search (rules, L.putting_table)

pub put_row-q-requires : goal.put_row-q-requires
put_row-q-requires c = search (rules, L.putting_table)

pub loop-i-preserved : goal.loop-i-preserved
loop-i-preserved c = search (rules, L.putting_table)

pub returns : goal.returns
returns c = search (rules, L.putting_table)
