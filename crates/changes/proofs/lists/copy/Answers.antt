use mathlib.Core.Path.{ap, ◌∙◌}
use Rattle.changes.specs.Walk.{put_ref}
use Rattle.changes.proofs.MergeLaws as L
use Rattle.changes.proofs.lists.copy.Goals as goal

pub loop-i-preserved : goal.loop-i-preserved
loop-i-preserved c = L.copying_more _ _ _ _ _ _ _ _ _ c.loop-i.invariant c.loop-i-test.true (c.put_entry.ensures ∙ ap (put_ref _ _) c.entry_at.ensures)
