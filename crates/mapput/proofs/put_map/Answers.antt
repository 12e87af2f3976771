use Rattle.mapput.proofs.TableLaws as L
use borrow.Author.Rules.{rules}
use Rattle.mapput.proofs.put_map.Goals as goal

pub returns : goal.returns
returns c = search (rules, L.putting_map)
