-- `lifting::apply::lift_at` meets its contract: what the check does not find by the lemmas that the function names. Assumes nothing.
use Rattle.lifting.proofs.ApplyLaws.{lifted_kept, lifted_eased, lifted_gone}
use Rattle.lifting.proofs.apply.lift_at.Goals as goal

pub returns-in-Kept : goal.returns-in-Kept
returns-in-Kept c = lifted_kept _ _ c.requires.0 _ _ _ c.requires.1 _ c.lift_of-l.ensures c.in-Kept.is

pub returns-in-Eased : goal.returns-in-Eased
returns-in-Eased c = lifted_eased _ _ c.requires.0 _ _ _ c.requires.1 _ c.lift_of-l.ensures c.in-Eased.is _ c.put_list.ensures

pub returns-in-Gone : goal.returns-in-Gone
returns-in-Gone c = lifted_gone _ _ c.requires.0 _ _ _ c.requires.1 _ c.lift_of-l.ensures c.in-Gone.is _ _ c.drop_rule.ensures
