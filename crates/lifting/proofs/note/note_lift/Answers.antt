-- `lifting::note::note_lift` meets its contract: what the check does not find by the lemmas that the function names. Assumes nothing.
use Rattle.lifting.proofs.NoteLaws.{noted_none, noted_gone}
use Rattle.lifting.proofs.note.note_lift.Goals as goal

pub returns-in-Kept : goal.returns-in-Kept
returns-in-Kept c = rw c.in-Kept.is (noted_none _ _ c.requires)

pub returns-in-Gone : goal.returns-in-Gone
returns-in-Gone c = rw c.in-Gone.is (noted_gone _ _ _ _ c.warn-in-Gone.ensures c.push-in-Gone.ensures)
