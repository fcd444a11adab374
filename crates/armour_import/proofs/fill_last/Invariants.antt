-- `armour_import::fill_last` meets its contract: the bytes before o are filled in.
use Prim.Native.Nat.{◌%◌, ◌-◌, ◌≤◌}
use mathlib.Core.Path.{◌≡◌}
use lib.ListN.{length, drop}
use lib.Seq.{sets}
use Rattle.armour_text.specs.Import.{carried}
use Rattle.armour_import.specs.Fill.{Lines}
use Rattle.armour_import.proofs.fill_last.Given as goal

abbrev pub invariant-loop-o : goal.invariant-loop-o
invariant-loop-o l = (l.o ≤ l.n) × Lines l.text (carried l.text) l.o l.at l.left × (sets l.out l.o (drop l.o (carried l.text)) ≡ sets l.initial.out l.done (drop l.done (carried l.text))) × (length l.out ≡ length l.initial.out) × (l.left % 2 ≡ 0)

abbrev pub decreases-loop-o : goal.decreases-loop-o
decreases-loop-o l = l.n - l.o
