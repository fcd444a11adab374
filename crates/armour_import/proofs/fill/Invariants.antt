-- `armour_import::fill` meets its contract: two lines at a time, and then the rest.
use Prim.Native.Nat.{◌-◌, ◌≤◌}
use mathlib.Core.Path.{◌≡◌}
use lib.ListN.{length, drop}
use lib.Seq.{sets}
use Rattle.armour_text.specs.Import.{carried}
use Rattle.armour_import.specs.Fill.{Lines}
use Rattle.armour_import.proofs.fill.Given as goal

abbrev pub invariant-loop-o : goal.invariant-loop-o
invariant-loop-o l = (l.o ≤ l.n) × Lines l.text (carried l.text) l.o l.at 0 × (sets l.out l.o (drop l.o (carried l.text)) ≡ sets l.initial.out 0 (carried l.text)) × (length l.out ≡ length l.initial.out)

abbrev pub decreases-loop-o : goal.decreases-loop-o
decreases-loop-o l = l.n - l.o
