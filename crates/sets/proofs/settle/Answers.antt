-- `sets::settle` meets its contract. Assumes nothing.
use native.Mathlib.Omega.{arith}
use Rattle.sets.proofs.SettleLaws as L
use borrow.Author.Rules.{rules}
use Rattle.sets.proofs.settle.Goals as goal

pub sift-c-requires : goal.sift-c-requires
sift-c-requires c = search (rules, L.settling)

pub sift-m-requires : goal.sift-m-requires
sift-m-requires c = L.settle_asks_2 _ _ _ _ c.requires _ _ c.sift-c.ensures

pub sift-d-requires : goal.sift-d-requires
sift-d-requires c = L.settle_asks_3 _ _ _ _ c.requires _ _ c.sift-c.ensures _ _ c.sift-m.ensures

pub overflow_mul-touched-2 : goal.overflow_mul-touched-2
overflow_mul-touched-2 c = omega (arith, L.few_1 _ _ _ _ c.requires _ _ c.sift-c.ensures _ _ c.sift-m.ensures)

pub overflow_add-touched : goal.overflow_add-touched
overflow_add-touched c = omega (arith, L.few_1 _ _ _ _ c.requires _ _ c.sift-c.ensures _ _ c.sift-m.ensures)

pub overflow_mul-gone-2 : goal.overflow_mul-gone-2
overflow_mul-gone-2 c = omega (arith, L.few_2 _ _ _ _ c.requires _ _ c.sift-c.ensures _ _ c.sift-m.ensures _ _ c.sift-d.ensures)

pub overflow_add-gone : goal.overflow_add-gone
overflow_add-gone c = omega (arith, L.few_2 _ _ _ _ c.requires _ _ c.sift-c.ensures _ _ c.sift-m.ensures _ _ c.sift-d.ensures)

pub sift-requires : goal.sift-requires
sift-requires c = L.settle_asks_4 _ _ _ _ c.requires _ _ c.sift-c.ensures _ _ c.sift-m.ensures _ _ c.sift-d.ensures

pub returns : goal.returns
returns c = L.settled _ _ _ _ c.requires _ _ c.sift-c.ensures _ _ c.sift-m.ensures _ _ c.sift-d.ensures _ _ c.sift.ensures
