use mathlib.Core.Path.{ap, ◌∙◌}
use Rattle.changes.specs.Walk.{put_ref}
use Rattle.changes.proofs.MergeLaws as L
use Rattle.changes.proofs.lists.sift.Goals as goal

pub loop-left-preserved-in-Less : goal.loop-left-preserved-in-Less
loop-left-preserved-in-Less c = L.sifting_before _ _ _ _ _ _ _ _ _ _ _ _ c.loop-left.invariant c.firsts-o.ensures _ c.in-Less.is (c.put_entry.ensures ∙ ap (put_ref _ _) c.first.ensures)

pub loop-left-preserved-in-Equal : goal.loop-left-preserved-in-Equal
loop-left-preserved-in-Equal c = L.sifting_same _ _ _ _ _ _ _ _ _ _ _ _ c.loop-left.invariant c.firsts-o.ensures c.in-Equal.is

pub loop-left-preserved : goal.loop-left-preserved
loop-left-preserved c = L.sifting_after _ _ _ _ _ _ _ _ _ _ _ _ c.loop-left.invariant c.firsts-o.ensures c.in-Greater.is c.loop-left-test.true
