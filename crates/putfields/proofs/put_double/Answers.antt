use borrow.Author.Rules.{rules}
use Rattle.putfields.proofs.FieldLaws as L
use Rattle.putfields.proofs.put_double.Goals as goal

pub returns-then-is_nan : goal.returns-then-is_nan
returns-then-is_nan c = L.nan_put c.args.x _ _ _ _ c.if-is_nan.ensures.value c.put_bytes.ensures

pub returns : goal.returns
returns c = search (rules, L.putting_double)
