-- `lighting::group::group_line` meets its contract: what the check does not find by the lemmas that the function names. Assumes nothing.
use Rattle.lighting.proofs.GroupLaws.{group_controls, group_other, group_light}
use Rattle.lighting.proofs.group.group_line.Goals as goal

pub returns-then-word-ne0 : goal.returns-then-word-ne0
returns-then-word-ne0 c = group_controls _ _ _ c.in-Some.is _ c.find.ensures _ c.in-Some-find.is _ c.word.ensures _ c.if-word-ne0.true c.refused_group-then-word-ne0.ensures

pub returns-then-h-ne1 : goal.returns-then-h-ne1
returns-then-h-ne1 c = group_other _ _ _ c.in-Some.is _ c.find.ensures _ c.in-Some-find.is _ c.word.ensures c.if-word-ne0.false _ c.rule_head-h.ensures _ c.if-h-ne1.true c.refused_group-then-h-ne1.ensures

pub returns : goal.returns
returns c = group_light _ _ _ c.in-Some.is _ c.find.ensures _ c.in-Some-find.is _ c.word.ensures c.if-word-ne0.false _ c.rule_head-h.ensures _ c.if-h-ne1.false c.stops_at.ensures
