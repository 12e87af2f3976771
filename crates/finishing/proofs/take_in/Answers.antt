-- `finishing::take_in` meets its contract. Assumes nothing.
use native.Mathlib.Omega.{arith}
use Rattle.finishing.proofs.SettleLaws as L
use Rattle.finishing.proofs.take_in.Goals as goal

pub crowd-requires : goal.crowd-requires
crowd-requires c = L.few_asks _ _ c.requires.0 _ c.lists_ok.ensures c.if-lists_ok.true

pub fold_few-requires : goal.fold_few-requires
fold_few-requires c = ((L.few_asks _ _ c.requires.0 _ c.lists_ok.ensures c.if-lists_ok.true).0, (L.few_asks _ _ c.requires.0 _ c.lists_ok.ensures c.if-lists_ok.true).1, omega (arith, c.crowd.ensures))

pub returns-then-crowd-le64 : goal.returns-then-crowd-le64
returns-then-crowd-le64 c = L.taken_in _ _ _ (L.already _ _ c.lists_ok.ensures c.if-lists_ok.true) c.requires.2 _ _ c.fold_few.ensures

pub returns : goal.returns
returns c = L.taken_in _ _ _ c.take_any.ensures.set c.requires.2 _ _ c.take_any.ensures.fold
