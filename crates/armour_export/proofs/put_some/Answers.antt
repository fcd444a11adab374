-- `armour_export::put_some` meets its contract, by the columns and the bytes that are left.
use Prim.Native.Nat.{◌+◌, ◌≤◌}
use lib.ListN.{length}
use native.Mathlib.Omega.{arith}
use Rattle.armour_export.specs.Stores.{room_twelve}
use Rattle.armour_export.proofs.put_some.Goals as goal

pub twelve_in_line-requires : goal.twelve_in_line-requires
twelve_in_line-requires c = let a = c.args in
    let i : a.p.next + 12 ≤ length a.bytes.now = omega (arith, c.if-bytes-p-lt12.false) in
    record {
      at_in_bounds = (omega (arith, room_twelve a.bytes.now a.out.now a.p.at a.p.left a.p.next i c.requires.0), i);
      le_left = omega (arith, c.if-p-lt16.false);
    }
