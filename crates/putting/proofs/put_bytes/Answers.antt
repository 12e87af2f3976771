use Rattle.putting.proofs.PutLaws.{put_short, put_pasted}
use Rattle.putting.proofs.put_bytes.Goals as goal

pub returns-then-next-out : goal.returns-then-next-out
returns-then-next-out c = put_pasted _ _ _ _ c.in_ok-i.was _ c.in_ok-next.ensures.0 c.in_ok-next.ensures.1 c.if-next-out.true _ c.put.ensures

pub returns-else-next-out : goal.returns-else-next-out
returns-else-next-out c = put_short _ _ _ _ c.in_ok-i.was _ c.in_ok-next.ensures.0 c.in_ok-next.ensures.1 c.if-next-out.false
