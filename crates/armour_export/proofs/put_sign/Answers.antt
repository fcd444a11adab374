-- `armour_export::put_sign` meets its contract. Rests on what one sign does, with a line feed or without.
use native.Mathlib.Omega.{arith}
use mathlib.Core.Path.{refl}
use Rattle.armour_export.specs.Stores.{moves_feed, moves_sign}
use Rattle.armour_export.proofs.put_sign.Goals as goal

pub returns-then-left-eq0 : goal.returns-then-left-eq0
returns-then-left-eq0 c = (refl, moves_feed _ _ _ _ (omega arith))

pub returns : goal.returns
returns c = (refl, moves_sign _ _ _ _ (omega arith))
