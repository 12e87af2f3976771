-- `validity::table_ok` meets its contract. Assumes nothing.
use native.Mathlib.Omega.{arith}
use Rattle.store.specs.Kinds.{kind_number}
use Rattle.store.proofs.KindLaws.{kind_below}
use Rattle.store.proofs.StoreLaws.{wide, placed}
use Rattle.row_tests.specs.Flat.{good_table, good_order}
use Rattle.validity.proofs.table_ok.Goals as goal

pub rising-requires : goal.rising-requires
rising-requires c = rw (c.width.ensures, c.base.ensures, c.count-n.ensures)
    (wide (kind_number c.args.k) (kind_below c.args.k), omega (arith, c.requires.words.room, placed (kind_number c.args.k) _ (kind_below c.args.k) (c.requires.words.counts (kind_number c.args.k) (kind_below c.args.k))))

pub returns-then-rising : goal.returns-then-rising
unfolding good_table good_order
returns-then-rising c = rw (← c.count-n.ensures, ← c.next-next.ensures, ← c.base.ensures, ← c.width.ensures, ← c.rising.ensures, c.if-rising.true) c.rows_ok.ensures

pub returns-else-rising : goal.returns-else-rising
unfolding good_table good_order
returns-else-rising c = rw (← c.count-n.ensures, ← c.next-next.ensures, ← c.base.ensures, ← c.width.ensures, ← c.rising.ensures, c.if-rising.false)
