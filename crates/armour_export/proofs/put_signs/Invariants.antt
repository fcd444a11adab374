-- `armour_export::put_signs` meets its contract: the signs of the bytes before the next one are put.
use Prim.Native.Nat.{◌-◌}
use lib.ListN.{length}
use Rattle.armour_export.specs.Stores.{Passes, Room}
use Rattle.armour_export.proofs.put_signs.Given as goal

abbrev pub invariant-loop-p : goal.invariant-loop-p
invariant-loop-p l = Passes l.bytes l.initial.out l.initial.p.at l.initial.p.left 0 l.out l.p.at l.p.left l.p.next × Room l.bytes l.out l.p.at l.p.left l.p.next

abbrev pub decreases-loop-p : goal.decreases-loop-p
decreases-loop-p l = length l.bytes - l.p.next
