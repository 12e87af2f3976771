-- `lighting::group::check_choice` meets its contract: what the check does not find by the lemmas that the function names. Assumes nothing.
use Rattle.lighting.proofs.GroupLaws.{choice_new}
use Rattle.lighting.proofs.group.check_choice.Goals as goal

pub returns-in-New : goal.returns-in-New
returns-in-New c = choice_new _ c.args.group _ _ _ c.in-New.is c.check_new.ensures
