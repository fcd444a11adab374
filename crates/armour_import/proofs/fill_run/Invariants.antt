-- `armour_import::fill_run` meets its contract: the bytes of the groups before i are filled in.
use Prim.Native.Nat.{◌+◌, ◌*◌, ◌≤◌}
use mathlib.Core.Path.{◌≡◌}
use lib.ListN.{length, drop}
use lib.Seq.{sets}
use Rattle.armour_text.specs.Import.{carried}
use Rattle.armour_import.proofs.fill_run.Given as goal

abbrev pub invariant-loop-i : goal.invariant-loop-i
invariant-loop-i l = (l.at + 68 ≤ length l.text) × (sets l.out (l.o + 3 * l.i) (drop (l.o + 3 * l.i) (carried l.text)) ≡ sets l.initial.out l.o (drop l.o (carried l.text))) × (length l.out ≡ length l.initial.out)
