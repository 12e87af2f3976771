-- `lifting::gone_at` meets its contract. Assumes nothing.
use Rattle.lifting.proofs.OneLaws.{head_asks}
use Rattle.lifting.proofs.GoneLaws.{gone_here_lem, gone_kept, gone_eased}
use Rattle.lifting.proofs.gone_at.Goals as goal

pub rule_head-requires : goal.rule_head-requires
rule_head-requires c = head_asks _ c.requires.0 _ c.requires.2

pub returns-in-Gone : goal.returns-in-Gone
returns-in-Gone c = gone_here_lem _ _ _ _ _ c.lift_of-l.ensures c.in-Gone.is _ c.rule_head.ensures c.requires.1 c.requires.2 _ c.shape_points.ensures

pub returns-in-Eased : goal.returns-in-Eased
returns-in-Eased c = gone_eased _ _ _ _ _ c.lift_of-l.ensures c.in-Eased.is

pub returns-in-Kept : goal.returns-in-Kept
returns-in-Kept c = gone_kept _ _ _ _ _ c.lift_of-l.ensures c.in-Kept.is
