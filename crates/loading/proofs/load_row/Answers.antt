use Rattle.store.proofs.KindLaws.{kind_below}
use Rattle.loading.proofs.LoadLaws as L
use Rattle.loading.proofs.load_row.Goals as goal

pub returns : goal.returns
returns c = L.row_got _ _ _ _ _ _ _ _ _ _ _ _ _ (kind_below c.args.k) c.requires.0 c.requires.1 c.requires.2 c.place-a.ensures c.width.ensures c.coord_place-c.ensures c.coord_width.ensures c.read_record.ensures
