-- `linking::light::check_light` meets its contract. Assumes nothing.
use native.Mathlib.Omega.{arith}
use mathlib.Core.Path.{refl}
use Rattle.std.proofs.lemmas.Bool.Decides.{nat_tests}
use Rattle.linking.proofs.LightLaws.{light_dark, light_missing, light_kinds}
use Rattle.linking.proofs.light.check_light.Goals as goal

pub returns-then-is_empty : goal.returns-then-is_empty
returns-then-is_empty c = light_dark _ _ _ _ _ (grind (arith, nat_tests))

pub returns-in-Err : goal.returns-in-Err
returns-in-Err c = light_missing _ _ _ _ _ (grind (arith, nat_tests)) _ c.in-Err.ensures _ refl

pub returns-in-Ok : goal.returns-in-Ok
returns-in-Ok c = light_kinds _ _ _ _ _ (grind (arith, nat_tests)) _ c.in-Ok.ensures _ _ refl _ c.check_kinds.ensures
