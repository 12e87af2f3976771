use mathlib.Core.Path.{ap, ◌∙◌}
use Rattle.changes.specs.Walk.{put_ref}
use Rattle.changes.proofs.MergeLaws as L
use Rattle.changes.proofs.lists.union.Goals as goal

pub loop-left-preserved-in-Less : goal.loop-left-preserved-in-Less
loop-left-preserved-in-Less c = L.uniting_before _ _ _ _ _ _ _ _ _ _ _ _ c.loop-left.invariant c.firsts-o.ensures _ c.in-Less.is (c.put_entry.ensures ∙ ap (put_ref _ _) c.first.ensures)

pub loop-left-preserved-in-Equal : goal.loop-left-preserved-in-Equal
loop-left-preserved-in-Equal c = L.uniting_same _ _ _ _ _ _ _ _ _ _ _ _ c.loop-left.invariant c.firsts-o.ensures _ c.in-Equal.is (c.put_entry-in-Equal.ensures ∙ ap (put_ref _ _) c.first-in-Equal.ensures)

pub loop-left-preserved : goal.loop-left-preserved
loop-left-preserved c = L.uniting_after _ _ _ _ _ _ _ _ _ _ _ _ c.loop-left.invariant c.firsts-o.ensures _ c.in-Greater.is c.loop-left-test.true (c.put_entry-in-Greater.ensures ∙ ap (put_ref _ _) c.first-in-Greater.ensures)
