-- `armour_import::fill_run` meets its contract: the bytes of the groups before i are filled in.
use native.Mathlib.Omega.{arith}
use Prim.Native.Nat.{◌+◌, ◌*◌}
use native.Mathlib.Nat.{add-zero}
use mathlib.Core.Path.{refl, ap, ◌∙◌}
use lib.ListN.{length}
use lib.Seq.{length-sets}
use Rattle.armour_text.specs.Base64.{bytes_of_bits}
use Rattle.armour_text.proofs.Exactly.{carried_bytes}
use Rattle.armour_text.specs.Import.{carried}
use Rattle.armour_import.specs.FillTwo.{run_within, run_three}
use Rattle.armour_import.proofs.fill_run.Goals as goal

pub loop-i-init : goal.loop-i-init
loop-i-init c = (omega (arith, run_within _ _ (carried_bytes _) _ _ c.requires.0 16 (omega arith)), rw (add-zero _) refl, refl)

pub loop-i-preserved : goal.loop-i-preserved
loop-i-preserved c = let a = c.args in
    let l = c.loop-i in
    let g = c.store_three.ensures in
    let s = rw c.bits_of.ensures at g in
    let f = run_three a.text.now (carried a.text.now) (carried_bytes a.text.now) a.at a.o c.requires.0 l.i c.loop-i-test.true l.out in
    (l.invariant.0, rw s (f ∙ l.invariant.1), ap length g ∙ length-sets l.out (a.o + 3 * l.i) (bytes_of_bits c.bits_of.result) ∙ l.invariant.2)
