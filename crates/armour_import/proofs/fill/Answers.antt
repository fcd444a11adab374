-- `armour_import::fill` meets its contract: two lines at a time, and then the rest.
use native.Mathlib.Omega.{arith}
use Rattle.armour_import.proofs.fill.Goals as goal

pub fill_two-at-requires : goal.fill_two-at-requires
fill_two-at-requires c = record {
  lines = c.loop-o.invariant.1;
  o_in_bounds = (omega (arith, c.loop-o-test.true, c.requires.0.size, c.loop-o.invariant.0), omega (arith, c.loop-o-test.true, c.requires.1, c.loop-o.invariant.0, c.loop-o.invariant.3));
}

pub fill_last-requires : goal.fill_last-requires
fill_last-requires c = record {
  body = (c.requires.0, c.loop-o.invariant.1);
  done_le_n = (c.loop-o.invariant.0, omega (arith, c.requires.1, c.loop-o.invariant.3));
}
