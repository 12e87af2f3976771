-- `root::turn` meets its contract, by `proofs/Turns.antt`. Assumes nothing.
use native.Mathlib.Omega.{arith}
use mathlib.Core.Path.{refl}
use Rattle.root.proofs.Turns.{asks, turned}
use Rattle.root.proofs.turn.Goals as goal

pub lengthen-next-requires : goal.lengthen-next-requires
lengthen-next-requires c = asks c.args.t.root c.args.t.rest c.args.t.left c.args.t.count c.args.count c.requires (omega arith)

pub returns : goal.returns
returns c = (turned c.args.t.root c.args.t.rest c.args.t.left c.args.t.count c.args.count c.requires (omega arith) c.lengthen-next.result.root c.lengthen-next.result.rest c.lengthen-next.ensures, refl)
