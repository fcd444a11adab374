-- `armour_import::fill_last` meets its contract: the bytes before o are filled in.
use native.Mathlib.Omega.{arith}
use Prim.Native.Nat.{◌+◌, ◌≤◌}
use mathlib.Core.Path.{ap, ◌∙◌}
use lib.ListN.{length}
use lib.Seq.{length-sets}
use Rattle.armour_text.specs.Base64.{bytes_of_bits}
use Rattle.armour_text.proofs.Exactly.{carried_bytes}
use Rattle.armour_text.specs.Import.{carried}
use Rattle.armour_import.specs.Fill.{ready, next_three, fill_three}
use Rattle.armour_import.specs.FillTwo.{even_after}
use Rattle.armour_import.proofs.fill_last.Goals as goal

pub four_at-f-requires : goal.four_at-f-requires
four_at-f-requires c = (ready _ (carried c.args.text.now) c.loop-o.o _ _ c.loop-o.invariant.1 (next_three _ _ (omega (arith, c.requires.body.0.size, c.loop-o-test.true, c.loop-o.invariant.0))), c.loop-o.invariant.4)

pub loop-o-preserved : goal.loop-o-preserved
loop-o-preserved c = let a = c.args in
    let l = c.loop-o in
    let h = c.four_at-f.ensures in
    let i : l.o + 3 ≤ a.n = omega (arith, c.loop-o-test.true, l.invariant.0) in
    let f = fill_three a.text.now (carried a.text.now) l.o _ _ l.invariant.1 (carried_bytes a.text.now) _ _ _ _ _ _ h (omega (arith, i, c.requires.body.0.size)) l.out in
    let g = c.store_three.ensures in
    let s = rw c.bits_of.ensures at g in
    (i, f.1, rw s (f.0 ∙ l.invariant.2), ap length g ∙ length-sets l.out l.o (bytes_of_bits c.bits_of.result) ∙ l.invariant.3, even_after _ _ _ _ _ _ _ _ _ l.invariant.4 h)

pub fill_rest-requires : goal.fill_rest-requires
fill_rest-requires c = record {
  body = (c.requires.body.0, c.loop-o.invariant.1);
  o_le_n = (c.loop-o.invariant.0, omega (arith, c.loop-o-test.false), omega (arith, c.requires.done_le_n.1, c.loop-o.invariant.3), c.loop-o.invariant.4);
}
