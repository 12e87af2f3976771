use Rattle.reader.proofs.ReaderLaws as L
use Rattle.reader.proofs.map_at.Goals as goal

pub returns : goal.returns
returns c = L.map_read_lem c.args.bytes.now c.args.at c.begin-from.result c.begin-from.ensures.1 c.read_map.ensures
