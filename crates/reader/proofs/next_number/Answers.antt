use Rattle.reader.proofs.ReaderLaws.{number_taken}
use Rattle.reader.proofs.next_number.Goals as goal

pub returns : goal.returns
returns c = number_taken c.args.r.now c.read_number-n.result c.place_after-r.result c.read_number-n.ensures c.place_after-r.ensures
