-- `armour_export::three_in_line` meets its contract. Rests on what four signs do in their line.
use native.Mathlib.Omega.{arith}
use mathlib.Core.Path.{refl}
use Rattle.armour_export.specs.Stores.{moves_four, passes_three}
use Rattle.armour_export.proofs.three_in_line.Goals as goal

pub returns : goal.returns
returns c = record {
  passes = passes_three _ _ _ _ _ _ _ _ _ (omega arith) refl
      (rw (← c.bits-n.ensures, ← c.sign.ensures, ← c.sign-2.ensures, ← c.sign-3.ensures, ← c.sign-4.ensures) (moves_four _ _ _ _ _ _ _ (omega arith)));
  next_value = (refl, refl, refl);
}
