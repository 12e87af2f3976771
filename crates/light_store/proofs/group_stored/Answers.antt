-- `light_store::group_stored` meets its contract: what the check does not find by the lemmas that the function names. Assumes nothing.
use borrow.Author.Tests.{not-false}
use Rattle.light_store.proofs.StoreLaws.{put_asks}
use Rattle.light_store.proofs.group_stored.Goals as goal

pub group_put-requires : goal.group_put-requires
group_put-requires c = put_asks _ c.args.l _ _ _ c.requires.0 c.requires.1 (not-false _ c.if-not-l.false) c.find.ensures c.in-Some.is
