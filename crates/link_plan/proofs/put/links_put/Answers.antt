-- `link_plan::put::links_put` meets its contract. Assumes nothing.
use Rattle.link_plan.proofs.PutLaws.{lanes_ready, links_put}
use Rattle.link_plan.proofs.put.links_put.Goals as goal

pub put_list-requires-2 : goal.put_list-requires-2
put_list-requires-2 c = lanes_ready _ _ _ _ c.put_lines.ensures _ c.requires.3 _ c.put_list.ensures c.args.lanes.now c.requires.2

pub returns : goal.returns
returns c = links_put _ _ _ _ c.put_lines.ensures _ c.requires.3 _ c.put_list.ensures _ c.requires.2 _ c.put_list-2.ensures
