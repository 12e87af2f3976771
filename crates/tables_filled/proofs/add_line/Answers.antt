-- `tables_filled::add_line` meets its contract. Assumes nothing.
use Rattle.std.proofs.Common.{sym, ◌∙◌, arith}
use Rattle.map.proofs.SoundLaws.{sound}
use Rattle.tables_filled.proofs.add_line.Goals as goal

pub count-requires : goal.count-requires
count-requires c = (sound _ _ (sym c.is_map.ensures ∙ c.if-not-is_map.false)).sized.words

pub next-requires : goal.next-requires
next-requires c = (sound _ _ (sym c.is_map.ensures ∙ c.if-not-is_map.false)).sized.words

pub push_line-requires : goal.push_line-requires
push_line-requires c = ((sound _ _ (sym c.is_map.ensures ∙ c.if-not-is_map.false)).sized, omega (arith, c.count.ensures), omega (arith, c.next.ensures), omega arith)
