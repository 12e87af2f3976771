use native.Mathlib.Omega.{arith}
use Rattle.changes.proofs.KindLaws.{list_below}
use Rattle.sets.proofs.SettleLaws as L
use Rattle.sets.proofs.unite_list.Goals as goal

pub union-requires : goal.union-requires
union-requires c = (
  L.given_walks _ _ c.requires.0 (list_below c.args.l) c.list.result c.list.ensures.words c.list.ensures.end c.list.ensures.count,
  L.given_walks _ _ c.requires.1 (list_below c.args.l) c.list-2.result c.list-2.ensures.words c.list-2.ensures.end c.list-2.ensures.count,
  omega arith,
)

pub returns : goal.returns
returns c =
    rw (
      L.given _ _ c.requires.0 (list_below c.args.l) c.list.result c.list.ensures.words c.list.ensures.end c.list.ensures.count,
      L.given _ _ c.requires.1 (list_below c.args.l) c.list-2.result c.list-2.ensures.words c.list-2.ensures.end c.list-2.ensures.count,
    ) at c.union.ensures
