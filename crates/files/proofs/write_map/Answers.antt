use mathlib.Core.Path.{◌≡◌}
use native.Mathlib.Omega.{arith}
use borrow.Author.Rules.{rules}
use Rattle.std.proofs.Common.{Some}
use Rattle.files.proofs.WriteLaws.{writing_map}
use Rattle.files.proofs.write_map.Goals as goal

pub returns-then-buffer-n : goal.returns-then-buffer-n
returns-then-buffer-n c =
    let e : c.put_map-size.result ≡ Some c.in_ok-n.n = grind arith in
    search (rules, writing_map)

pub returns : goal.returns
returns c =
    let e : c.put_map-size.result ≡ Some c.in_ok-n.n = grind arith in
    search (rules, writing_map)
