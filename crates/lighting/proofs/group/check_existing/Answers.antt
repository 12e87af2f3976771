-- `lighting::group::check_existing` meets its contract: what the check does not find by the lemmas that the function names. Assumes nothing.
use Rattle.lighting.proofs.GroupLaws.{existing_free, existing_other, existing_same}
use Rattle.lighting.proofs.group.check_existing.Goals as goal

pub returns-in_default-group : goal.returns-in_default-group
returns-in_default-group c = existing_free _ _ _ _ c.find.ensures _ c.in-Some.is c.in_default-group.is

pub returns-then-g-s : goal.returns-then-g-s
returns-then-g-s c = existing_other _ _ _ _ c.find.ensures _ c.in-Some.is _ c.in-Some-group.is c.if-g-s.true

pub returns : goal.returns
returns c = existing_same _ _ _ _ c.find.ensures _ c.in-Some.is _ c.in-Some-group.is c.if-g-s.false
