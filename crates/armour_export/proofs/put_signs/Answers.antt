-- `armour_export::put_signs` meets its contract: the signs of the bytes before the next one are put.
use native.Mathlib.Omega.{arith}
use Rattle.armour_export.specs.Stores.{passes_then, passes_room}
use Rattle.armour_export.proofs.put_signs.Goals as goal

pub loop-p-preserved : goal.loop-p-preserved
loop-p-preserved c = let l = c.loop-p.invariant in
    let p = c.put_some-p.ensures.1 in
    (passes_then l.0 p, passes_room p l.1)

pub put_rest-requires : goal.put_rest-requires
put_rest-requires c = record {
  at_in_bounds = omega (arith, c.loop-p.invariant.1);
  next_in_bounds = (c.loop-p.invariant.0.end, omega (arith, c.loop-p-test.false));
}
