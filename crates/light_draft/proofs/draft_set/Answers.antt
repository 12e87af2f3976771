-- `light_draft::draft_set` meets its contract. Assumes nothing.
use mathlib.Core.Path.{refl}
use native.Mathlib.Omega.{arith}
use Rattle.light_draft.proofs.StepLaws.{few_none, few_more, push_asks, warn_asks, all_fit, set_drafted}
use Rattle.light_draft.proofs.draft_set.Goals as goal

pub push_if-requires : goal.push_if-requires
push_if-requires c = push_asks 0 _ _ (few_none _ c.clear.ensures) c.clear.ensures.room (omega arith) (omega arith)

pub push_if-requires-2 : goal.push_if-requires-2
push_if-requires-2 c = push_asks 1 _ _ (few_more 0 _ _ (few_none _ c.clear.ensures) c.push_if.ensures.counts) c.push_if.ensures.room (omega arith) (omega arith)

pub push_if-requires-3 : goal.push_if-requires-3
push_if-requires-3 c = push_asks 2 _ _ (few_more 1 _ _ (few_more 0 _ _ (few_none _ c.clear.ensures) c.push_if.ensures.counts) c.push_if-2.ensures.counts) c.push_if-2.ensures.room (omega arith) (omega arith)

pub push_if-requires-4 : goal.push_if-requires-4
push_if-requires-4 c = push_asks 3 _ _ (few_more 2 _ _ (few_more 1 _ _ (few_more 0 _ _ (few_none _ c.clear.ensures) c.push_if.ensures.counts) c.push_if-2.ensures.counts) c.push_if-3.ensures.counts) c.push_if-3.ensures.room (omega arith) (omega arith)

pub bounds-lanes-0 : goal.bounds-lanes-0
bounds-lanes-0 c = omega (arith, c.requires.1)

pub warn_if-requires : goal.warn_if-requires
warn_if-requires c = warn_asks 4 _ (few_more 3 _ _ (few_more 2 _ _ (few_more 1 _ _ (few_more 0 _ _ (few_none _ c.clear.ensures) c.push_if.ensures.counts) c.push_if-2.ensures.counts) c.push_if-3.ensures.counts) c.push_if-4.ensures.counts) c.push_if-4.ensures.room (omega arith)

pub warn_if-requires-2 : goal.warn_if-requires-2
warn_if-requires-2 c = warn_asks 5 _ (few_more 4 _ _ (few_more 3 _ _ (few_more 2 _ _ (few_more 1 _ _ (few_more 0 _ _ (few_none _ c.clear.ensures) c.push_if.ensures.counts) c.push_if-2.ensures.counts) c.push_if-3.ensures.counts) c.push_if-4.ensures.counts) c.warn_if.ensures.counts) c.warn_if.ensures.room (omega arith)

pub lifts_if-requires : goal.lifts_if-requires
lifts_if-requires c = (c.requires.0, all_fit 6 _ (few_more 5 _ _ (few_more 4 _ _ (few_more 3 _ _ (few_more 2 _ _ (few_more 1 _ _ (few_more 0 _ _ (few_none _ c.clear.ensures) c.push_if.ensures.counts) c.push_if-2.ensures.counts) c.push_if-3.ensures.counts) c.push_if-4.ensures.counts) c.warn_if.ensures.counts) c.warn_if-2.ensures.counts) c.warn_if-2.ensures.room (omega arith))

pub shape_of-draft : goal.shape_of-draft
shape_of-draft c = omega (arith, c.lifts_if.ensures.room.size, c.requires.2)

pub returns : goal.returns
returns c = set_drafted _ _ c.args.l c.args.clamped c.args.made _ _ c.both.ensures refl _ _ _ _ _ _ _ _ c.clear.ensures
    (rw c.entry-line.ensures at c.push_if.ensures) (rw c.entry-signal.ensures at c.push_if-2.ensures) (rw c.entry-rule.ensures at c.push_if-3.ensures) (rw c.entry-rule.ensures at c.push_if-4.ensures)
    (rw c.entry-lane.ensures at c.warn_if.ensures) (rw c.entry-nothing.ensures at c.warn_if-2.ensures) c.lifts_if.ensures
