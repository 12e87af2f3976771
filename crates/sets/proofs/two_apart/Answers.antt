use Rattle.changes.proofs.KindLaws.{list_below}
use Rattle.sets.proofs.SettleLaws as L
use Rattle.sets.proofs.two_apart.Goals as goal

pub are_apart-requires : goal.are_apart-requires
are_apart-requires c = (
  L.given_walks _ _ c.requires (list_below c.args.l) c.list.result c.list.ensures.words c.list.ensures.end c.list.ensures.count,
  L.given_walks _ _ c.requires (list_below c.args.m) c.list-2.result c.list-2.ensures.words c.list-2.ensures.end c.list-2.ensures.count,
)

pub returns : goal.returns
returns c =
    rw (
      L.given _ _ c.requires (list_below c.args.l) c.list.result c.list.ensures.words c.list.ensures.end c.list.ensures.count,
      L.given _ _ c.requires (list_below c.args.m) c.list-2.result c.list-2.ensures.words c.list-2.ensures.end c.list-2.ensures.count,
    ) at c.are_apart.ensures
