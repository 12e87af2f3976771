use mathlib.Core.Path.{refl}
use native.Mathlib.Omega.{arith}
use Rattle.map.proofs.UpdateLaws.{push_sized, rule_limit, row_long_is, rule_pushed_is}
use Rattle.map.proofs.update.push_rule.Goals as goal

pub push_row-requires : goal.push_row-requires
push_row-requires c = (
  c.requires.0,
  omega (arith, rule_limit, c.requires.1),
  row_long_is _ _ _ _ _ refl c.requires.5 c.requires.6 c.put.ensures c.put-2.ensures,
)

pub set_next-requires : goal.set_next-requires
set_next-requires c = push_sized c.args.words.now c.requires.0 5 (omega arith) _
    (row_long_is _ _ _ _ _ refl c.requires.5 c.requires.6 c.put.ensures c.put-2.ensures)
    (omega (arith, rule_limit, c.requires.1)) _ c.push_row.ensures

pub returns : goal.returns
returns c = rule_pushed_is _ _ _ _ _ c.args.words.now _ _ refl c.requires.5 c.requires.6 c.put.ensures c.put-2.ensures c.push_row.ensures
    c.fresh-number.result c.args.kind c.args.value c.args.flag c.args.line c.set_next.ensures refl refl refl refl refl refl refl refl refl c.requires.0 c.requires.1 c.fresh-number.ensures c.requires.3 c.requires.4
