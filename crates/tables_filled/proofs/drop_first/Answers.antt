-- `tables_filled::drop_first` meets its contract. Assumes nothing.
use Rattle.std.proofs.Common.{sym, ◌∙◌, arith}
use Rattle.map.proofs.SoundLaws.{sound}
use Rattle.tables_filled.proofs.drop_first.Goals as goal

pub count-requires : goal.count-requires
count-requires c = (sound _ _ (sym c.is_map.ensures ∙ c.if-not-is_map.false)).sized.words

pub drop_rule-requires : goal.drop_rule-requires
drop_rule-requires c = ((sound _ _ (sym c.is_map.ensures ∙ c.if-not-is_map.false)).sized, omega (arith, c.count.ensures))
