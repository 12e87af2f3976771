use mathlib.Core.Path.{◌≡◌}
use native.Mathlib.Omega.{arith}
use borrow.Author.Rules.{rules}
use Rattle.std.proofs.Common.{Some}
use Rattle.files.proofs.SetReadLaws.{reading_set}
use Rattle.files.proofs.read_changes.Goals as goal

pub returns-then-n-s : goal.returns-then-n-s
returns-then-n-s c =
    let e : c.load_set.result ≡ Some c.in_ok-n.n = grind arith in
    search (rules, reading_set)
