-- `armour_export::put_three` meets its contract: the four signs of three bytes are looked up and put.
use native.Mathlib.Omega.{arith}
use mathlib.Core.Path.{refl}
use Rattle.armour_export.specs.Stores.{passes_three}
use Rattle.armour_export.proofs.put_three.Goals as goal

pub returns : goal.returns
returns c = let m = rw (c.sign.ensures, c.sign-2.ensures, c.sign-3.ensures, c.sign-4.ensures, c.bits-n.ensures) at c.put_four-q.ensures.1 in
    (refl, passes_three _ _ _ _ _ _ _ _ _ (omega arith) refl m)
